-- `flag_closing` meets its contract. The loop's invariant: the first s states have their flags.
use Rattle.model.specs.Model.{graph_in}
use Rattle.ends.specs.Ends.{ClosingPut}
use Rattle.ends.proofs.flag_closing.Given as goal

abbrev pub invariant-loop-s : goal.invariant-loop-s
invariant-loop-s l = ClosingPut (graph_in l.file l.h) l.n l.h.start l.level l.bound l.s l.initial.work l.work
