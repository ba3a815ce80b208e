-- `advance` meets its contract. The loop's invariant: at no place of the list after `place` a greater state may
-- stand, and what is known of the places before is p.
use Prim.Native.Nat.{ℕ, suc}
use mathlib.Core.Path.{◌≡◌}
use Rattle.follow.proofs.PlacesRoll.{Retreating}
use Rattle.passed.specs.Passed.{KnownFrom}
use Rattle.listing.proofs.advance.Given as goal

abbrev pub invariant-loop-place : goal.invariant-loop-place
invariant-loop-place l =
    Retreating l.file l.h l.transitions.0 l.initial.work l.work l.place × ((j : ℕ) → l.place ≡ suc j → KnownFrom l.file l.h l.work l.transitions.0 j l.p)
