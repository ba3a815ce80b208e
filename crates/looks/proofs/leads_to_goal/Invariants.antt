-- `leads_to_goal` meets its contract. The loop's invariant: none of the first k successors is a goal.
use Rattle.lists.proofs.Tests.{NoneOf}
use Rattle.looks.specs.Looks.{GoalAt}
use Rattle.looks.proofs.leads_to_goal.Given as goal

abbrev pub invariant-loop-k : goal.invariant-loop-k
invariant-loop-k l = NoneOf (GoalAt l.n l.h.start l.work l.bound) l.successors l.k
