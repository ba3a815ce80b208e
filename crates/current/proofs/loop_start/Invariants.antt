-- `current::loop_start` meets its contract. The loop's invariant: no place before k holds the last state.
use Prim.Native.Nat.{ℕ, ◌<◌}
use mathlib.Core.Path.{◌≡◌}
use mathlib.Core.List.{◌∷◌}
use lib.ListN.{get_or}
use Rattle.current.proofs.loop_start.Given as goal

abbrev pub invariant-loop-k : goal.invariant-loop-k
invariant-loop-k l = (i : ℕ) → i < l.k → get_or (l.h.start ∷ l.work) i 0 ≡ l.last → ⊥
