-- `first_break` meets its contract. The loop's invariant: the entry before place j is a state, and no place up to it breaks.
use Rattle.model.specs.Model.{graph_in}
use Rattle.paths.proofs.BreakLaws.{Unbroken}
use Rattle.paths.proofs.first_break.Given as goal

abbrev pub invariant-loop-j : goal.invariant-loop-j
invariant-loop-j l = Unbroken (graph_in l.file l.h) l.list l.j
