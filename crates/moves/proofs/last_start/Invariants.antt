-- `last_start` meets its contract. The loop's invariant: no place after k is that of a loop start.
use Prim.Native.Nat.{◌+◌}
use Rattle.goals.proofs.LastLaws.{NoneFrom}
use Rattle.moves.specs.Moves.{LoopEntry}
use Rattle.moves.proofs.last_start.Given as goal

abbrev pub invariant-loop-k : goal.invariant-loop-k
invariant-loop-k l = NoneFrom (LoopEntry l.h.states l.h.start l.work) l.place (l.k + 1)
