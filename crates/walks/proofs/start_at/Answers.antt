-- `start_at` meets its contract: two cleared regions, and x in front of the list of level 0.
use native.Mathlib.Omega.{arith}
use Rattle.walks.proofs.ThroughSteps.{cleared_planned}
use Rattle.walks.proofs.start_at.Goals as goal

pub returns : goal.returns
returns c =
    rw c.list_source.ensures
    (cleared_planned _ _ _ _ _ _ (omega arith) (omega arith) (omega arith) (omega arith) c.clear.ensures c.clear-2.ensures)
