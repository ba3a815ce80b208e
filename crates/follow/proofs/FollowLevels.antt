-- The levels that the two searches of a next state t leave in region 2. Below the limit they are the distances from t,
-- and after the search from the marked states the least lengths from t through a mark.
use Prim.Native.Nat.{ℕ, suc, ◌<◌}
use mathlib.Core.Path.{◌≡◌, ◌∙◌, ap}
use mathlib.Core.List.{List}
use mathlib.Core.Option.{Option, some}
use native.Mathlib.Omega.{arith}
use Rattle.lasso.specs.Graph.{Graph, WellFormed}
use Rattle.lasso.specs.Distance.{dist}
use Rattle.edge_search.specs.declared.SpreadAnswer.{SpreadAnswer}
use Rattle.frontier.specs.Regions.{entry, value_of}
use Rattle.lists.specs.Limit.{under}
use Rattle.edge_search.specs.Promises.{SpreadFrom}
use Rattle.walks.specs.Through.{via_mark, marked_sources, DistancesWithin}
use Rattle.lists.proofs.UnderLaws.{under-under}
use Rattle.spread.proofs.SearchLaws.{value_entry, level_entry}
use Rattle.walks.proofs.ThroughLaws.{via_mark_nothing}

-- below the limit region 2 holds the values of f
pub record LevelsBelow (n limit : ℕ) (w : List ℕ) (f : ℕ → Option ℕ) : Type 0 where
  pub below : (s : ℕ) → s < n → under limit (value_of (entry 2 n w s)) ≡ under limit (f s)

-- a value below the limit stands in region 2
pub levels_entry : {n limit : ℕ} {w : List ℕ} {f : ℕ → Option ℕ} → LevelsBelow n limit w f → (s k : ℕ) → s < n → k < limit → f s ≡ some k → entry 2 n w s ≡ suc k
levels_entry {n} {limit} {w} {f} levels s k inside l e =
    (level_entry limit (entry 2 n w s) (f s) k (levels.below s inside) l).1 e

-- what stands in region 2 below the limit is the value
pub levels_value : {n limit : ℕ} {w : List ℕ} {f : ℕ → Option ℕ} → LevelsBelow n limit w f → (s k : ℕ) → s < n → k < limit → entry 2 n w s ≡ suc k → f s ≡ some k
levels_value {n} {limit} {w} {f} levels s k inside l e =
    (level_entry limit (entry 2 n w s) (f s) k (levels.below s inside) l).0 e

-- after the search from t
module _ {g : Graph} {t limit count : ℕ} {w v : List ℕ} (d : DistancesWithin g t limit w v count) where
  -- the distances from t
  pub distances_levels : LevelsBelow g.size limit v (dist g t)
  distances_levels =
      record {
        below = λ s l.
            ap (λ (e : ℕ). under limit (value_of e)) (d.distances s l)
            ∙ ap (under limit) (value_entry (under (suc limit) (dist g t s)))
            ∙ under-under limit (suc limit) (dist g t s) (omega arith);
      }

  -- and, after the search on from the marked states, the least lengths from t through a mark
  pub marks_levels : WellFormed g → (u : List ℕ) (r : SpreadAnswer) → SpreadFrom g (marked_sources g limit v) limit g.size v u r → LevelsBelow g.size limit u (via_mark g t)
  marks_levels wf u r sp = record { below = (via_mark_nothing d u wf r sp).2 }
