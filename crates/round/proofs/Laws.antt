-- Laws of one round: entries and what they stand for, the start levels that a round searches from, and that a round's
-- length is at least one.
use Prim.Native.Nat.{ℕ, suc, ◌≤◌, ◌<◌}
use mathlib.Core.Path.{◌≡◌, refl, ◌∙◌, ap}
use mathlib.Core.Option.{Option, some, none}
use native.Mathlib.Omega.{arith}
use Rattle.lasso.specs.Graph.{Graph, WellFormed}
use Rattle.lasso.specs.Distance.{dist}
use Rattle.lists.specs.Least.{sum}
use Rattle.lasso.specs.Rounds.{round_length}
use Rattle.lists.proofs.Least.{is_least_has}
use Rattle.frontier.specs.Regions.{entry_of}
use Rattle.lists.specs.Limit.{under}
use Rattle.hits.specs.Hit.{hit_length}
use Rattle.lists.proofs.UnderLaws.{under_ge}
use Rattle.hits.proofs.HitLaws.{hit_length_cong, hit_length-under, hit_length_least}

-- the entry for a value below n is at most n
pub entry_of_le : (n : ℕ) (a : Option ℕ) → ((v : ℕ) → a ≡ some v → v < n) → entry_of a ≤ n
entry_of_le n none h = omega arith
entry_of_le n (some v) h = omega (arith, h v refl)

-- a search from start levels that are, below the limit, the sums of two distances finds the round's length
pub round_found : (g : Graph) (limit r : ℕ) (source : ℕ → Option ℕ)
    → ((s : ℕ) → s < g.size → source s ≡ under limit (sum (dist g g.start s) (dist g r s)))
    → under (suc limit) (hit_length g source r) ≡ under (suc limit) (round_length g r)
round_found g limit r source same =
    ap (under (suc limit)) (hit_length_cong g source (λ s. under limit (sum (dist g g.start s) (dist g r s))) r same)
    ∙ hit_length-under g limit (λ s. sum (dist g g.start s) (dist g r s)) r

-- a round's length is at least one
pub round_length_pos : {g : Graph} → WellFormed g → (r l : ℕ) → round_length g r ≡ some l → 1 ≤ l
round_length_pos {g} wf r l e =
    let h = is_least_has _ (round_length g r) (hit_length_least wf (λ s. sum (dist g g.start s) (dist g r s)) r) l e in
    omega arith

-- no round has length zero
pub round_none : {g : Graph} → WellFormed g → (r : ℕ) → under 1 (round_length g r) ≡ none
round_none {g} wf r = go (round_length g r) refl
  where
    go : (a : Option ℕ) → round_length g r ≡ a → under 1 a ≡ none
    go none e = refl
    go (some l) e = under_ge 1 l (round_length_pos wf r l e)
