-- `round::add_start_distances` meets its contract. The loop's invariant: the sums for the first s states are added.
use Rattle.round.proofs.TableLaws.{Added}
use Rattle.round.proofs.add_start_distances.Given as goal

abbrev pub invariant-loop-s : goal.invariant-loop-s
invariant-loop-s l = Added l.n l.s l.initial.work l.work
