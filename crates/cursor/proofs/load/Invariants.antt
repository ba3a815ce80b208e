-- `load` meets its contract. The loop's invariant: the entries from place 1 up to j are in front.
use mathlib.Core.Path.{◌≡◌}
use Rattle.cursor.proofs.LoadLaws.{loaded_to}
use Rattle.cursor.proofs.load.Given as goal

abbrev pub invariant-loop-j : goal.invariant-loop-j
invariant-loop-j l = l.work ≡ loaded_to l.j l.list l.initial.work
