-- `flag_marked` meets its contract. The loop's invariant: the marked ends among the first s states are flagged.
use Rattle.model.specs.Model.{graph_in}
use Rattle.ends.specs.Ends.{MarkedPut}
use Rattle.ends.proofs.flag_marked.Given as goal

abbrev pub invariant-loop-s : goal.invariant-loop-s
invariant-loop-s l = MarkedPut (graph_in l.file l.h) l.n l.s l.initial.work l.work
