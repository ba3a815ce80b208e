-- `rows_broken` meets its contract: the row entries from s on decide whether one is less than the one before.
use Prim.Native.Nat.{ℕ, ◌+◌}
use mathlib.Core.Bool.{Bool}
use mathlib.Core.List.{List}
use lib.Dec.{ltb}
use Rattle.lists.specs.Lists.{anyb, below}
use Rattle.format.specs.Layout.{states, row_entry}
use Rattle.lists.proofs.Range.{Left}
use Rattle.rules_rows.proofs.rows_broken.Given as goal

-- the row entry after s is less than the one at s
abbrev pub falls : List ℕ → ℕ → Bool
falls f s = ltb (row_entry f (s + 1)) (row_entry f s)

abbrev pub invariant-loop-s : goal.invariant-loop-s
invariant-loop-s l = Left (falls l.file) (anyb (falls l.file) (below (states l.file))) l.n l.s
