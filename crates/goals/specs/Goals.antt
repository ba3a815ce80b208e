-- The states at which a list can close, the ways to them, and what the two tables after a loop start hold: `Later` for lists
-- that have met a mark after the loop start, `Sooner` for lists that have not. The list is given by the state p k at each
-- place k; b is the place of its last loop start, l the least length. A goal below m, a place plus 1, stands before place m.
use Rattle.std.specs.Prelude.{ℕ, suc, ◌+◌, ◌≤◌, ◌<◌, ◌≡◌, ◌↔◌, ◌⊎◌, List, T}
use Rattle.std.proofs.Math.Option.{some}
use Rattle.lasso.specs.Graph.{Graph, WellFormed, edgeb}
use Rattle.lasso.specs.Distance.{dist, reachb}
use Rattle.lasso.specs.Roll.{least_length}
use Rattle.frontier.specs.Regions.{entry}
use Rattle.walks.specs.Through.{via_mark}
use Rattle.stems.specs.Stems.{IsStart, LoopAt}

-- the last place up to a given one with a property, plus 1; or 0 if none has it
pub record LastOf (P : ℕ → Type 0) (place r : ℕ) : Type 0 where
  pub low : r ≤ place + 1
  pub is : (k : ℕ) → r ≡ suc k → P k
  pub last : (k : ℕ) → k ≤ place → P k → k < r

-- the last place with a loop start that stands at its distance
abbrev pub LastStart : Graph → ℕ → (ℕ → ℕ) → ℕ → ℕ → Type 0
LastStart g l p = LastOf (LoopAt g l p)

-- the last place with a marked state
abbrev pub LastMark : Graph → (ℕ → ℕ) → ℕ → ℕ → Type 0
LastMark g p = LastOf (λ k. T (g.marked (p k)))

-- the list up to place b: a path from the initial state whose state at place b can start the loop and stands at its
-- distance
pub record Base (g : Graph) (l : ℕ) (p : ℕ → ℕ) (b : ℕ) : Type 0 where
  pub well_formed : WellFormed g
  pub least : least_length g ≡ some l
  pub first : p 0 ≡ g.start
  pub edge : (k : ℕ) → k < b → T (edgeb g (p k) (p (suc k)))
  pub loop : LoopAt g l p b

-- y is a goal below m: it can start the loop, and stands on the list at the place of its distance, which is below m
pub record Goal (g : Graph) (l : ℕ) (p : ℕ → ℕ) (m y : ℕ) : Type 0 where
  pub place : ℕ
  pub low : place < m
  pub holds : p place ≡ y
  pub at : dist g g.start y ≡ some place
  pub starts : IsStart g l y

-- a way of k steps from s to a goal below m
abbrev pub WayTo : Graph → ℕ → (ℕ → ℕ) → ℕ → ℕ → ℕ → Type 0
WayTo g l p m s k = (y : ℕ) × Goal g l p m y × T (reachb g k s y)

-- a way of k steps from s through a mark to a goal below m
abbrev pub WayThrough : Graph → ℕ → (ℕ → ℕ) → ℕ → ℕ → ℕ → Type 0
WayThrough g l p m s k =
    (z : ℕ) × (y : ℕ) × (a : ℕ) × (e : ℕ) × T (g.marked z) × T (reachb g a s z) × T (reachb g e z y) × Goal g l p m y × (a + e ≡ k)

-- a step from s to a goal below m
abbrev pub StepTo : Graph → ℕ → (ℕ → ℕ) → ℕ → ℕ → Type 0
StepTo g l p m s = (y : ℕ) × Goal g l p m y × T (edgeb g s y)

-- t may stand c places after the loop start if a mark stands between: c is the least number of steps through a mark, and
-- what is left of the least length leads to a goal
abbrev pub Later : Graph → ℕ → (ℕ → ℕ) → ℕ → ℕ → ℕ → Type 0
Later g l p b t c =
    (via_mark g (p b) t ≡ some c) × ((m : ℕ) × (b + c + suc m ≡ l) × WayTo g l p (b + 1) t (suc m))

-- t may stand c places after the loop start if no mark stands between: c is the distance, and what is left of the least
-- length leads to a goal at or before the last mark, or through a mark to any goal
abbrev pub Sooner : Graph → ℕ → (ℕ → ℕ) → ℕ → ℕ → ℕ → ℕ → Type 0
Sooner g l p b mark t c =
    (dist g (p b) t ≡ some c)
    × ((m : ℕ) × (b + c + suc m ≡ l) × (WayTo g l p mark t (suc m) ⊎ WayThrough g l p (b + 1) t (suc m)))

-- region 5 is the table for lists with a mark after the last loop start
pub record LaterTable (g : Graph) (l : ℕ) (p : ℕ → ℕ) (b : ℕ) (w : List ℕ) : Type 0 where
  pub later : (t c : ℕ) → t < g.size → (entry 5 g.size w t ≡ suc c) ↔ Later g l p b t c

-- region 2 is the table for lists with no mark after the last loop start
pub record SoonerTable (g : Graph) (l : ℕ) (p : ℕ → ℕ) (b mark : ℕ) (w : List ℕ) : Type 0 where
  pub sooner : (t c : ℕ) → t < g.size → (entry 2 g.size w t ≡ suc c) ↔ Sooner g l p b mark t c

-- before the pass for region 5: levels are least steps through a mark, ends the states of the last level with a step to a goal
pub record LaterReady (g : Graph) (l : ℕ) (p : ℕ → ℕ) (b : ℕ) (w : List ℕ) : Type 0 where
  pub level : (t c : ℕ) → t < g.size → b + c < l → (entry 2 g.size w t ≡ suc c) ↔ (via_mark g (p b) t ≡ some c)
  pub ends : (s : ℕ) → s < g.size → (1 ≤ entry 4 g.size w s) ↔ ((b + entry 2 g.size w s ≡ l) × StepTo g l p (b + 1) s)

-- before the pass for region 2: levels are distances, ends the states of the last level with a step to a goal at or before the
-- last mark, and the marked states with the same entry in region 5
pub record SoonerReady (g : Graph) (l : ℕ) (p : ℕ → ℕ) (b mark : ℕ) (w : List ℕ) : Type 0 where
  pub level : (t c : ℕ) → t < g.size → b + c < l → (entry 2 g.size w t ≡ suc c) ↔ (dist g (p b) t ≡ some c)
  pub ends : (s : ℕ) → s < g.size → (1 ≤ entry 4 g.size w s)
      ↔ (((b + entry 2 g.size w s ≡ l) × StepTo g l p mark s)
      ⊎ (T (g.marked s) × (1 ≤ entry 2 g.size w s) × (entry 5 g.size w s ≡ entry 2 g.size w s)))
  pub table : LaterTable g l p b w
