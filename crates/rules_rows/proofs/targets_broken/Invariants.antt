-- `targets_broken` meets its contract: the targets from e on decide whether one is not below n.
use Prim.Native.Nat.{ℕ}
use mathlib.Core.Bool.{Bool, not}
use mathlib.Core.List.{List}
use lib.Dec.{ltb}
use Rattle.format.specs.Layout.{states, target}
use Rattle.format.specs.Rules.{bad_targets}
use Rattle.lists.proofs.Range.{Left}
use Rattle.rules_rows.proofs.targets_broken.Given as goal

-- the target at a place is not below N
abbrev pub outside : List ℕ → ℕ → Bool
outside f e = not (ltb (target f e) (states f))

abbrev pub invariant-loop-e : goal.invariant-loop-e
invariant-loop-e l = Left (outside l.file) (bad_targets l.file) l.m l.e
