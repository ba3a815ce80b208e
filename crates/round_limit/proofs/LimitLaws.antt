-- Laws of the limit of a round: the limit that is enough for the record.
use Prim.Native.Nat.{ℕ, suc, ◌+◌, ◌≤◌, min}
use mathlib.Core.Path.{◌≡◌, refl, sym, ◌∙◌, ap}
use mathlib.Core.Logic.{inl, inr}
use mathlib.Core.Option.{Option, some, none}
use native.Mathlib.Omega.{arith}
use Rattle.lists.specs.Least.{lesser}
use Rattle.lasso.specs.Rounds.{Record, best_length, with_round}
use Rattle.lists.proofs.Tests.{lt_or_ge}
use Rattle.lists.specs.Limit.{under}
use Rattle.lists.proofs.UnderLaws.{under_lt, under_ge, under_some, under-under}

-- lengths above the limit do not change the best, if the limit is the lesser of the best and a bound on the lengths
limit_enough : (best x : Option ℕ) (n limit : ℕ) → lesser best (some n) ≡ some limit
    → ((l : ℕ) → x ≡ some l → l ≤ n) → lesser best (under (suc limit) x) ≡ lesser best x
limit_enough best none n limit e h = refl
limit_enough none (some l) n limit e h =
    let q : n ≡ limit = cc in
    under_lt (suc limit) l (omega (arith, h l refl))
limit_enough (some b) (some l) n limit e h =
    let q : min b n ≡ limit = cc in
    elim (lt_or_ge l (suc limit)) [
      | inl m ↦ ap (lesser (some b)) (under_lt (suc limit) l m)
      | inr m ↦
          let z : b ≡ min b l = omega (arith, h l refl) in
          ap (lesser (some b)) (under_ge (suc limit) l m) ∙ ap (λ (k : ℕ). some k) z
    ]

-- the limit is at most the bound
limit_le : (best : Option ℕ) (n limit : ℕ) → lesser best (some n) ≡ some limit → limit ≤ n
limit_le none n limit e = let q : n ≡ limit = cc in omega arith
limit_le (some b) n limit e = let q : min b n ≡ limit = cc in omega arith

-- lengths above that limit do not change the record, where no length is above n and those above the ceiling do not count
pub with_round_limit : (rec : Record) (x : Option ℕ) (n ceiling limit : ℕ) → lesser (best_length rec) (some (min n ceiling)) ≡ some limit
    → ((l : ℕ) → x ≡ some l → l ≤ n) → with_round rec (under (suc limit) x) ≡ with_round rec (under (suc ceiling) x)
with_round_limit rec x n ceiling limit e h =
    ap (λ (a : Option ℕ). with_round rec a) (sym (under-under (suc limit) (suc ceiling) x (omega (arith, limit_le (best_length rec) (min n ceiling) limit e))))
    ∙ ap (λ (b : Option ℕ). next b) (limit_enough (best_length rec) (under (suc ceiling) x) (min n ceiling) limit e bounded)
  where
    next : Option ℕ → Record
    next b = record { done = rec.done + 1; best = b }

    bounded : (l : ℕ) → under (suc ceiling) x ≡ some l → l ≤ min n ceiling
    bounded l q = let (there, low) = under_some (suc ceiling) x l q in omega (arith, h l there)
