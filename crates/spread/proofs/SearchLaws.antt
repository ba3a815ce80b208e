-- Laws of a search's contract for its callers: what it leaves depends on its sources' start levels only, and not on those
-- at or above the limit; a target that is no state is not found; from a single source the levels are distances.
use Prim.Native.Nat.{ℕ, suc, ◌*◌, ◌≤◌, ◌<◌}
use mathlib.Core.Path.{◌≡◌, refl, sym, ◌∙◌, ap}
use mathlib.Core.Logic.{◌↔◌}
use mathlib.Core.List.{List}
use mathlib.Core.Option.{Option, some, none}
use native.Mathlib.Omega.{arith}
use Rattle.lasso.specs.Graph.{Graph, WellFormed}
use Rattle.lasso.specs.Distance.{dist}
use Rattle.lists.proofs.Least.{is_least_unique}
use Rattle.lasso.proofs.Walk.{Walk, walk_end_state}
use Rattle.table.specs.Changes.{SameOutside}
use Rattle.table.proofs.Laws.{same_outside_trans}
use Rattle.edge_search.specs.declared.SpreadAnswer.{SpreadAnswer}
use Rattle.edge_search.specs.declared.SpreadAnswer.TheVariants.{Length, Nothing}
use Rattle.frontier.specs.Regions.{entry, value_of, entry_of}
use Rattle.lists.specs.Limit.{under}
use Rattle.hits.specs.Hit.{hit_level, hit_length}
use Rattle.edge_search.specs.Promises.{ExhaustedFrom, SpreadFrom}
use Rattle.lists.proofs.UnderLaws.{under_lt, under_some, some_under, under-under}
use Rattle.frontier.proofs.BucketLaws.{source_entry, entry_source}
use Rattle.hits.proofs.HitLaws.{Timed, Single, hit_length_least, hit_level_cong, hit_length_cong, hit_level_single, hit_level-under, hit_length-under}

-- an entry stands for the value that it was made from
pub value_entry : (a : Option ℕ) → value_of (entry_of a) ≡ a
value_entry none = refl
value_entry (some v) = refl

-- where an entry is right below the limit, it is k + 1 exactly if the value is k
pub level_entry : (limit e : ℕ) (a : Option ℕ) (k : ℕ) → under limit (value_of e) ≡ under limit a → k < limit
    → (e ≡ suc k) ↔ (a ≡ some k)
level_entry limit e a k same l = (
  λ q. (under_some limit a k (sym same ∙ entry_source limit e k q l)).0,
  λ q. (source_entry limit e k (same ∙ some_under limit a k q l)).0,
)

-- an entry that holds a number if it is at most the limit tells the number up to the limit
pub level_within : (limit e : ℕ) (a : Option ℕ) (c : ℕ) → e ≡ entry_of (under (suc limit) a) → c ≤ limit → (e ≡ suc c) ↔ (a ≡ some c)
level_within limit e a c is low =
    level_entry (suc limit) e a c
    (ap (λ (x : ℕ). under (suc limit) (value_of x)) is ∙ ap (under (suc limit)) (value_entry (under (suc limit) a)) ∙ under-under (suc limit) (suc limit) a (omega arith))
    (omega arith)

-- no walk leads out of the states
pub hit_length_outside : (g : Graph) → WellFormed g → (source : ℕ → Option ℕ) → hit_length g source g.size ≡ none
hit_length_outside g wf source =
    is_least_unique (Timed g.size source (λ s m. (1 ≤ m) × Walk g s g.size m)) (hit_length g source g.size) none (hit_length_least wf source g.size) (λ k h. omega (arith, walk_end_state wf h.3 h.5.1))

-- a search with a target that is no state answers that there is no walk into it
pub spread_nothing : {g : Graph} (source : ℕ → Option ℕ) {limit : ℕ} {w w' : List ℕ} → WellFormed g → (r : SpreadAnswer)
    → SpreadFrom g source limit g.size w w' r
    → (count : ℕ) × (r ≡ Nothing count) × ExhaustedFrom g source limit g.size w w' count
spread_nothing {g} source {limit} wf (Length l) found =
    let e : under (suc limit) none ≡ some l = rw (hit_length_outside g wf source) at found.length in
    let z : ◌≡◌ {A = ℕ} 0 1 = cc in
    absurd (omega arith)
spread_nothing source wf (Nothing count) None-found = (count, refl, None-found)

-- a search changes regions 2 to 5 only
pub spread_same_outside : (g : Graph) (source : ℕ → Option ℕ) (limit target : ℕ) {w w' : List ℕ} → (r : SpreadAnswer)
    → SpreadFrom g source limit target w w' r → SameOutside (2 * g.size) (6 * g.size) w w'
spread_same_outside g source limit target (Length l) found = found.outside
spread_same_outside g source limit target (Nothing count) ex = ex.outside

-- two searches whose sources have the same start levels
module _ (g : Graph) (source source' : ℕ → Option ℕ) (same : (s : ℕ) → s < g.size → source s ≡ source' s) where
  -- what one leaves is what the other leaves, also after a change of the regions that a search uses
  pub spread_same : (limit target : ℕ) {v w : List ℕ} (w' : List ℕ) → SameOutside (2 * g.size) (6 * g.size) v w
      → (r : SpreadAnswer) → SpreadFrom g source limit target w w' r → SpreadFrom g source' limit target v w' r
  spread_same limit target w' before (Length l) found =
      record {
        outside = same_outside_trans before found.outside;
        length = ap (under (suc limit)) (sym (hit_length_cong g source source' target same)) ∙ found.length;
      }
  spread_same limit target w' before (Nothing count) ex =
      record {
        outside = same_outside_trans before ex.outside;
        length = ap (under (suc limit)) (sym (hit_length_cong g source source' target same)) ∙ ex.length;
        levels = λ t l. ex.levels t l ∙ ap (λ (a : Option ℕ). entry_of (under (suc limit) a)) (hit_level_cong g source source' t same);
        queue = ex.queue;
      }

-- a search whose sources have the start levels of `source` below the limit
module _ (g : Graph) (limit : ℕ) (near source : ℕ → Option ℕ) (same : (s : ℕ) → s < g.size → near s ≡ under limit (source s)) where
  -- below the limit the levels that it leaves are the least over all sources
  pub exhausted_levels : {target count : ℕ} {w w' : List ℕ} → ExhaustedFrom g near limit target w w' count → (t : ℕ)
      → t < g.size → under limit (value_of (entry 2 g.size w' t)) ≡ under limit (hit_level g source t)
  exhausted_levels ex t l =
      let a : Option ℕ = hit_level g near t in
      ap (λ (e : ℕ). under limit (value_of e)) (ex.levels t l)
      ∙ ap (under limit) (value_entry (under (suc limit) a))
      ∙ under-under limit (suc limit) a (omega arith)
      ∙ ap (under limit) (hit_level_cong g near (λ s. under limit (source s)) t same)
      ∙ hit_level-under g limit source t

  -- up to the limit the length that it finds is the least over all sources
  pub searched-length : (target : ℕ)
      → under (suc limit) (hit_length g near target) ≡ under (suc limit) (hit_length g source target)
  searched-length target =
      ap (under (suc limit)) (hit_length_cong g near (λ s. under limit (source s)) target same)
      ∙ hit_length-under g limit source target

-- a positive limit keeps a single source
single_under : {n x limit : ℕ} {source : ℕ → Option ℕ} → 1 ≤ limit → Single n x source
    → Single n x (λ s. under limit (source s))
single_under {limit = limit} p single =
    record {
      inside = single.inside;
      zero_at = ap (under limit) single.zero_at ∙ under_lt limit 0 p;
      none_else = λ s l d. ap (under limit) (single.none_else s l d);
    }

-- from a single source below a positive limit the levels are the distances up to the limit
pub exhausted_distances : {g : Graph} {x limit target count : ℕ} (source : ℕ → Option ℕ) {w w' : List ℕ} → 1 ≤ limit
    → Single g.size x source → ExhaustedFrom g (λ s. under limit (source s)) limit target w w' count → (t : ℕ)
    → t < g.size → entry 2 g.size w' t ≡ entry_of (under (suc limit) (dist g x t))
exhausted_distances {g} {x} {limit} source p single ex t l =
    ex.levels t l
    ∙ ap (λ (a : Option ℕ). entry_of (under (suc limit) a)) (hit_level_single g x (λ s. under limit (source s)) t (single_under p single))
