-- `total_fits` meets its contract: the totals with further tables decide whether the total length is one of them.
use Prim.Native.Nat.{ℕ, ◌+◌, ◌*◌}
use mathlib.Core.Bool.{Bool}
use mathlib.Core.List.{List}
use lib.Dec.{eqb}
use Rattle.format.specs.Bytes.{long}
use Rattle.format.specs.Layout.{states, mark_bytes}
use Rattle.format.specs.Rules.{total_fits}
use Rattle.lists.proofs.Range.{Left}
use Rattle.rules_offsets.proofs.total_fits.Given as goal

-- the total length is the one with so many tables more than one
abbrev pub total_with : List ℕ → ℕ → ℕ → Bool
total_with file total further = eqb (long file 20) (total + further * mark_bytes (states file))

abbrev pub invariant-loop-further : goal.invariant-loop-further
invariant-loop-further l = Left (total_with l.file l.total) (total_fits l.total l.tables l.file) l.tables l.further
