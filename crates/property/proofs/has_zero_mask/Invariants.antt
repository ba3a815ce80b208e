-- `has_zero_mask` meets its contract: the masks from e on decide whether one is zero.
use Prim.Native.Nat.{ℕ}
use mathlib.Core.Bool.{Bool}
use mathlib.Core.List.{List}
use lib.Dec.{eqb}
use Rattle.lists.proofs.Range.{Left}
use Rattle.property.specs.Property.{mask_at, zero_mask}
use Rattle.property.proofs.has_zero_mask.Given as goal

-- the mask at a place is zero
abbrev pub is_zero : List ℕ → ℕ → Bool
is_zero p e = eqb (mask_at p e) 0

abbrev pub invariant-loop-e : goal.invariant-loop-e
invariant-loop-e l = Left (is_zero l.file) (zero_mask l.file) l.m l.e
