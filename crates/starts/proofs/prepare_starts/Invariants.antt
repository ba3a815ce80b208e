-- `starts::prepare_starts` meets its contract. The loop's invariant: the entries of the first s states are in region 1, and
-- among the others those that are not flagged start no loop.
use Rattle.model.specs.Model.{graph_in}
use Rattle.starts.proofs.StartsFilling.{Filling}
use Rattle.starts.proofs.prepare_starts.Given as goal

abbrev pub invariant-loop-s : goal.invariant-loop-s
invariant-loop-s l = Filling (graph_in l.file l.h) l.transitions.0 l.s l.n l.initial.work l.work
