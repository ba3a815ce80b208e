-- `play` meets its contract. The loop's invariant: some calls are past, and what is left of the script asks for the others.
use Prim.Native.Nat.{◌/◌}
use lib.ListN.{length}
use Rattle.script_player.proofs.PlayLaws.{Playing}
use Rattle.script_player.proofs.play.Given as goal

abbrev pub invariant-loop-calls : goal.invariant-loop-calls
invariant-loop-calls l =
    Playing l.file l.script l.initial.answer l.initial.work l.initial.log (length l.initial.log / 4) l.answer l.work l.log l.copy l.held l.at l.calls
