-- Distances from one state, and walks through a mark: from a state to a marked state and on from there.
use Rattle.std.specs.Prelude.{ℕ, suc, ◌*◌, ◌<◌, ◌≡◌, Bool, true, false, List}
use Rattle.std.proofs.Math.Option.{Option, some, none}
use Rattle.lists.specs.Lists.{pick}
use Rattle.lasso.specs.Graph.{Graph}
use Rattle.lasso.specs.Distance.{dist}
use Rattle.table.specs.Changes.{SameOutside}
use Rattle.edge_search.specs.declared.SpreadAnswer.{SpreadAnswer}
use Rattle.edge_search.specs.declared.SpreadAnswer.TheVariants.{Length, Nothing}
use Rattle.frontier.specs.Regions.{entry, value_of, entry_of}
use Rattle.lists.specs.Limit.{under}
use Rattle.hits.specs.Hit.{hit_level, hit_length}
use Rattle.edge_search.specs.Promises.{SpreadFrom}
use Rattle.frontier.specs.Buckets.{Planned}
use Rattle.frontier.specs.Search.{Queue}

-- the number if the test was passed, else none
abbrev pub only_if : Bool → Option ℕ → Option ℕ
only_if true a = a
only_if false a = none

-- the distance from x to q if q is marked
abbrev pub marked_dist : Graph → ℕ → ℕ → Option ℕ
marked_dist g x q = only_if (g.marked q) (dist g x q)

-- the least number of edges from x through a mark to t: the minimum, over marked states q, of d(x, q) + d(q, t)
abbrev pub via_mark : Graph → ℕ → ℕ → Option ℕ
via_mark g x t = hit_level g (marked_dist g x) t

-- the least length of a closed walk with at least one edge from x through a mark: the minimum, over marked states q, of
-- d(x, q) plus the least length of a path with at least one edge from q to x
abbrev pub loop_length : Graph → ℕ → Option ℕ
loop_length g x = hit_length g (marked_dist g x) x

-- the two tables agree on region 5, but for the entry of x
abbrev pub SameButOne : ℕ → ℕ → List ℕ → List ℕ → Type 0
SameButOne n x w w' = (s : ℕ) → s < n → (s ≡ x → ⊥) → entry 5 n w' s ≡ entry 5 n w s

-- region 2 holds the distance of each state from x, if it is at most the limit, and region 3 the states that have one, in
-- order of distance; there are `count` of them; region 5 changes at x alone
pub record DistancesWithin (g : Graph) (x limit : ℕ) (w w' : List ℕ) (count : ℕ) : Type 0 where
  pub outside : SameOutside (2 * g.size) (6 * g.size) w w'
  pub distances : (t : ℕ) → t < g.size → entry 2 g.size w' t ≡ entry_of (under (suc limit) (dist g x t))
  pub queue : Queue g.size count w'
  pub fifth : SameButOne g.size x w w'

-- the start levels of the marked states, which region 2 holds at entry
abbrev pub marked_sources : Graph → ℕ → List ℕ → ℕ → Option ℕ
marked_sources g limit w q = under limit (only_if (g.marked q) (value_of (entry 2 g.size w q)))

-- what a search from the marked states leaves, by its answer
abbrev pub SpreadFromMarks : Graph → ℕ → ℕ → List ℕ → List ℕ → SpreadAnswer → Type 0
SpreadFromMarks g limit target w w' r = SpreadFrom g (marked_sources g limit w) limit target w w' r

-- the answer of a search for the loop length of x
abbrev pub LoopLength : Graph → ℕ → ℕ → SpreadAnswer → Type 0
LoopLength g x limit (Length l) = under (suc limit) (loop_length g x) ≡ some l
LoopLength g x limit (Nothing count) = under (suc limit) (loop_length g x) ≡ none

-- region 2 says that x is the one source, at level 0
pub record OneSource (n x : ℕ) (w w' : List ℕ) : Type 0 where
  pub outside : SameOutside (2 * n) (3 * n) w w'
  pub source : entry 2 n w' x ≡ 1
  pub others : (s : ℕ) → s < n → (s ≡ x → ⊥) → entry 2 n w' s ≡ 0

-- the plan is made of a search from the one source x: as from a table whose region 2 says that x is the one source;
-- region 5 changes at x alone
pub record PlannedAt (n x limit : ℕ) (w w' : List ℕ) : Type 0 where
  pub origin : List ℕ
  pub started : OneSource n x w origin
  pub planned : Planned n limit origin w'
  pub fifth : SameButOne n x w w'

-- region 2 keeps the entries of the marked states and no other
pub record KeptMarked (g : Graph) (w w' : List ℕ) : Type 0 where
  pub outside : SameOutside (2 * g.size) (3 * g.size) w w'
  pub levels : (s : ℕ) → s < g.size → entry 2 g.size w' s ≡ pick (g.marked s) (entry 2 g.size w s) 0
