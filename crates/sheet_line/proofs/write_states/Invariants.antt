-- `write_states` meets its contract. The loop's invariant: the states up to the index are written.
use Rattle.std.proofs.Common.{take}
use Rattle.text.specs.Writing.{Adds}
use Rattle.sheet_line.specs.Line.{between}
use Rattle.sheet_line.proofs.write_states.Given as goal

abbrev pub invariant-loop-s : goal.invariant-loop-s
invariant-loop-s l = Adds l.initial.text (between l.before l.after (take l.s-index l.states)) l.text
