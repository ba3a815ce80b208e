-- `current::write_part` meets its contract. The loop's invariant: the first i entries are written.
use mathlib.Core.Path.{◌≡◌}
use mathlib.Core.List.{◌∷◌, ◌++◌}
use lib.ListN.{take, drop}
use Rattle.current.proofs.write_part.Given as goal

abbrev pub invariant-loop-i : goal.invariant-loop-i
invariant-loop-i l = l.part ≡ take l.i (drop l.from (l.h.start ∷ l.work)) ++ drop l.i l.initial.part
