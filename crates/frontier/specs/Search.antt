-- The state of a search: what the working table holds after some queue entries' successors have been looked at.
use Rattle.std.specs.Prelude.{ℕ, suc, ◌+◌, ◌*◌, ◌≤◌, ◌<◌, ◌≡◌, List, length, T}
use Rattle.std.proofs.Math.Option.{Option, some}
use Rattle.lists.specs.Lists.{memb}
use Rattle.table.specs.Changes.{SameOutside}
use Rattle.frontier.specs.Regions.{entry}
use Rattle.frontier.specs.Buckets.{sources, SourcesListed}

-- region 3 holds each reached state once, in order of level
pub record Queue (n count : ℕ) (w : List ℕ) : Type 0 where
  pub within : count ≤ n
  pub states : (i : ℕ) → i < count → entry 3 n w i < n
  pub reached : (i : ℕ) → i < count → 1 ≤ entry 2 n w (entry 3 n w i)
  pub holds : (s : ℕ) → s < n → 1 ≤ entry 2 n w s → (i : ℕ) × (i < count) × (entry 3 n w i ≡ s)
  pub once : (i j : ℕ) → i < j → j < count → entry 3 n w i ≡ entry 3 n w j → ⊥
  pub ordered : (i j : ℕ) → i < j → j < count → entry 2 n w (entry 3 n w i) ≤ entry 2 n w (entry 3 n w j)

-- t is hit at level k: it is a source with this start level, or an edge leads to it from a state hit one level before
pub data Hit (n : ℕ) (succs : ℕ → List ℕ) (source : ℕ → Option ℕ) : ℕ → ℕ → Type 0 where
  start : {k t : ℕ} → t < n → source t ≡ some k → Hit n succs source k t
  step : {j k s t : ℕ} → Hit n succs source j s → T (memb t (succs s)) → k ≡ suc j → Hit n succs source k t

-- t is a state that has been reached, with an entry of at most v
pub record ReachedBy (n v t : ℕ) (w : List ℕ) : Type 0 where
  pub inside : t < n
  pub reached : 1 ≤ entry 2 n w t
  pub by : entry 2 n w t ≤ v

-- The state of a search from the table w₀ at entry. Every source whose level has an entry up to v is in. The queue's
-- first `at` states have been looked at: their successors are in, one level later at most, and none is the target. The
-- states from `at` to `end` have the entry v, those from `end` to `count` the entry v + 1, and every entry is sound.
pub record State (n : ℕ) (succs : ℕ → List ℕ) (limit target : ℕ) (w₀ : List ℕ)
    (v at end count : ℕ) (w : List ℕ) : Type 0 where
  pub limited : limit ≤ n
  pub fits : 6 * n ≤ length w
  pub outside : SameOutside (2 * n) (6 * n) w₀ w
  pub lists : SourcesListed (sources n limit w₀) n limit n w
  pub sound : (k t : ℕ) → t < n → entry 2 n w t ≡ suc k → Hit n succs (sources n limit w₀) k t
  pub started : (s a : ℕ) → s < n → sources n limit w₀ s ≡ some a → a < v → ReachedBy n (suc a) s w
  pub passed : (i t : ℕ) → i < at → T (memb t (succs (entry 3 n w i)))
      → ReachedBy n (suc (entry 2 n w (entry 3 n w i))) t w
  pub missed : (i : ℕ) → i < at → T (memb target (succs (entry 3 n w i))) → ⊥
  pub queue : Queue n count w
  pub at_end : at ≤ end
  pub end_count : end ≤ count
  pub earlier : (i : ℕ) → i < at → entry 2 n w (entry 3 n w i) ≤ v
  pub present : (i : ℕ) → at ≤ i → i < end → entry 2 n w (entry 3 n w i) ≡ v
  pub later : (i : ℕ) → end ≤ i → i < count → entry 2 n w (entry 3 n w i) ≡ suc v

-- state t was put at the end of the queue, with the entry v
pub record Pushed (n t v count : ℕ) (w w' : List ℕ) : Type 0 where
  pub outside : SameOutside (2 * n) (4 * n) w w'
  pub level : entry 2 n w' t ≡ v
  pub levels : (s : ℕ) → s < n → (s ≡ t → ⊥) → entry 2 n w' s ≡ entry 2 n w s
  pub last : entry 3 n w' count ≡ t
  pub others : (i : ℕ) → i < n → (i ≡ count → ⊥) → entry 3 n w' i ≡ entry 3 n w i

-- what reaching state t with the entry v does: nothing if it was reached before, else it is put at the end of the queue
pub data Reached (n t v count : ℕ) (w w' : List ℕ) (r : ℕ) : Type 0 where
  before : 1 ≤ entry 2 n w t → w' ≡ w → r ≡ count → Reached n t v count w w' r
  first : entry 2 n w t ≡ 0 → Pushed n t v count w w' → r ≡ count + 1 → Reached n t v count w w' r

-- the table is ready for the sources of a level: some search is there, with the queue looked at up to the level before
pub record LevelReady (n level count : ℕ) (w : List ℕ) : Type 0 where
  pub succs : ℕ → List ℕ
  pub limit : ℕ
  pub target : ℕ
  pub origin : List ℕ
  pub at : ℕ
  pub below : level < limit
  pub state : State n succs limit target origin level at at count w

-- whatever the search, the sources of the level are in, and the level's states stand from `at` to the end of the queue
abbrev pub Admitted : ℕ → ℕ → ℕ → List ℕ → List ℕ → ℕ → Type 0
Admitted n level count w w' r =
    (succs : ℕ → List ℕ) (limit target : ℕ) (origin : List ℕ) (at : ℕ) → level < limit →
    State n succs limit target origin level at at count w → State n succs limit target origin (level + 1) at r r w'
