-- `order_broken` meets its contract: the rows from s on decide whether the targets of one do not ascend.
use Prim.Native.Nat.{ℕ}
use mathlib.Core.Bool.{Bool, not}
use mathlib.Core.List.{List}
use Rattle.lists.specs.Lists.{ascendingb}
use Rattle.format.specs.Layout.{row_targets}
use Rattle.format.specs.Rules.{bad_order}
use Rattle.lists.proofs.Range.{Left}
use Rattle.rules_rows.proofs.order_broken.Given as goal

-- the targets of row s do not ascend strictly
abbrev pub unordered : List ℕ → ℕ → Bool
unordered f s = not (ascendingb (row_targets f s))

abbrev pub invariant-loop-s : goal.invariant-loop-s
invariant-loop-s l = Left (unordered l.file) (bad_order l.file) l.n l.s
