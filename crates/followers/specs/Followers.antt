-- The states that may stand at the next place of the list, from a bound on, and the least of them.
use Rattle.std.specs.Prelude.{ℕ, Bool, Option, Some, None, ◌*◌, ◌≤◌, List, [], ◌∷◌, ◌++◌}
use Rattle.lists.specs.Decides.{Decides}
use Rattle.lasso.specs.Graph.{Graph}
use Rattle.lasso.specs.Extends.{Extends}
use Rattle.model.specs.declared.Header.{Header}
use Rattle.model.specs.Model.{graph_in}
use Rattle.table.specs.Changes.{SameOutside}
use Rattle.current.specs.Current.{list_in}
use Rattle.follow.specs.Follow.{MayFollow}
use Rattle.follow.specs.Places.{LeastFollower}
use Rattle.passed.specs.Passed.{PassedAt}
use Rattle.passed.specs.declared.Passed.{Passed}

-- what may stand after the list up to a place, from a bound on: the least such state, or nothing
abbrev pub FollowerOf : Graph → ℕ → List ℕ → ℕ → ℕ → Option ℕ → Type 0
FollowerOf g l w place bound (Some t) = LeastFollower g l (list_in g.start w place) bound t
FollowerOf g l w place bound None = (y : ℕ) → bound ≤ y → Extends g l (list_in g.start w place ++ y ∷ []) → ⊥

-- the answer of a test with a bound: it is right, regions 2 to 5 alone changed, and what is known of the list is so
pub record TrySays (f : List ℕ) (h : Header) (w w' : List ℕ) (l place bound t : ℕ) (yes : Bool) (p : Passed) : Type 0 where
  pub decides : Decides ((bound ≤ t) × MayFollow (graph_in f h) l w place t) yes
  pub same : SameOutside (2 * h.states) (6 * h.states) w w'
  pub passed : PassedAt f h w' l place p

-- what may stand after the list from a bound on was found
pub record LeastFound (f : List ℕ) (h : Header) (w w' : List ℕ) (l place bound : ℕ) (r : Option ℕ) (p : Passed) : Type 0 where
  pub found : FollowerOf (graph_in f h) l w place bound r
  pub same : SameOutside (2 * h.states) (6 * h.states) w w'
  pub passed : PassedAt f h w' l place p

-- the least state that may stand after the list up to a place
abbrev pub FirstFollower : Graph → ℕ → List ℕ → ℕ → ℕ → Type 0
FirstFollower g l w place t = LeastFollower g l (list_in g.start w place) 0 t

-- the least state that may stand there was found
pub record FirstFound (f : List ℕ) (h : Header) (w w' : List ℕ) (l place t : ℕ) (p : Passed) : Type 0 where
  pub found : FirstFollower (graph_in f h) l w place t
  pub same : SameOutside (2 * h.states) (6 * h.states) w w'
  pub passed : PassedAt f h w' l place p
