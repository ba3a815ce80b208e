-- `write_marks` meets its contract: the mark bytes below b are written one after the other.
use mathlib.Core.List.{map}
use Rattle.lists.specs.Lists.{below}
use Rattle.text.specs.Writing.{Adds}
use Rattle.combine_graph.specs.Combined.{pair_mark_byte}
use Rattle.combine_marks.proofs.write_marks.Given as goal

abbrev pub invariant-loop-b : goal.invariant-loop-b
invariant-loop-b l = Adds l.initial.out (map (pair_mark_byte l.property l.states) (below l.b)) l.out
