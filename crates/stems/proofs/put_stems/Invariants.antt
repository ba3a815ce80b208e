-- `put_stems` meets its contract. The loop's invariant: the entries of the first s states are put.
use Rattle.stems.specs.Stems.{StemsPut}
use Rattle.stems.proofs.put_stems.Given as goal

abbrev pub invariant-loop-s : goal.invariant-loop-s
invariant-loop-s l = StemsPut l.n l.s l.initial.work l.work
