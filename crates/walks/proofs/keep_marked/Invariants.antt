-- `keep_marked` meets its contract. The loop's invariant: of the states below s the marked ones kept
-- their entries, and the others have 0.
use Rattle.model.specs.Model.{graph_in}
use Rattle.walks.proofs.ThroughSteps.{KeptBelow}
use Rattle.walks.proofs.keep_marked.Given as goal

abbrev pub invariant-loop-s : goal.invariant-loop-s
invariant-loop-s l = KeptBelow (graph_in l.file l.h).marked l.n l.s l.initial.work l.work
