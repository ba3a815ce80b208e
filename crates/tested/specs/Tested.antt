-- What the test of a next state answers.
use Rattle.std.specs.Prelude.{ℕ, Bool, ◌*◌, List}
use Rattle.lists.specs.Decides.{Decides}
use Rattle.model.specs.declared.Header.{Header}
use Rattle.model.specs.Model.{graph_in}
use Rattle.table.specs.Changes.{SameOutside}
use Rattle.follow.specs.Follow.{MayFollow}
use Rattle.passed.specs.Passed.{PassedAt}
use Rattle.passed.specs.declared.Passed.{Passed}

-- the answer of a test: it is right, regions 2 to 5 alone changed, and what is known of the list is so
pub record TestSays (f : List ℕ) (h : Header) (w w' : List ℕ) (l place t : ℕ) (yes : Bool) (p : Passed) : Type 0 where
  pub decides : Decides (MayFollow (graph_in f h) l w place t) yes
  pub same : SameOutside (2 * h.states) (6 * h.states) w w'
  pub passed : PassedAt f h w' l place p
