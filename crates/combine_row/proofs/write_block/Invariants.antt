-- `write_block` meets its contract. The loop's invariant: the block of the first k places is written.
use Rattle.format.specs.Bytes.{words}
use Rattle.text.specs.Writing.{Adds}
use Rattle.combine_row.proofs.BlockLaws.{block_bytes}
use Rattle.combine_row.proofs.write_block.Given as goal

abbrev pub invariant-loop-k : goal.invariant-loop-k
invariant-loop-k l =
    Adds l.initial.out (block_bytes l.letter l.base (words l.masks) (words l.targets) l.k) l.out
