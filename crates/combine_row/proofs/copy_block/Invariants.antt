-- `copy_block` meets its contract. The loop's invariant: the first j numbers are copied.
use Rattle.text.specs.Writing.{Adds}
use Rattle.writer.specs.File.{words16}
use Rattle.combine_row.specs.Row.{copied}
use Rattle.combine_row.proofs.copy_block.Given as goal

abbrev pub invariant-loop-j : goal.invariant-loop-j
invariant-loop-j l = Adds l.initial.out (words16 (copied l.initial.out.bytes.now l.from l.j l.base l.other)) l.out
