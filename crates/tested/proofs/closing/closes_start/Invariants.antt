-- `closing::closes_start` meets its contract. The loop's invariant: no state at a place passed can start the loop and is reached
-- soon enough.
use Prim.Native.Nat.{ℕ, suc, ◌≤◌, ◌<◌}
use mathlib.Core.Path.{◌≡◌}
use mathlib.Core.List.{List, ◌∷◌}
use lib.ListN.{get_or}
use Rattle.frontier.specs.Regions.{entry}
use Rattle.follow.specs.Follow.{Starts}
use Rattle.tested.proofs.closing.closes_start.Given as goal

-- the state at place x cannot start the loop, or is not reached soon enough
abbrev pub StartUnreached : ℕ → ℕ → List ℕ → ℕ → ℕ → Type 0
StartUnreached n start w left x =
    (a : ℕ) → Starts n w (get_or (start ∷ w) x 0) → entry 2 n w (get_or (start ∷ w) x 0) ≡ suc a → a ≤ left → ⊥

abbrev pub invariant-loop-k : goal.invariant-loop-k
invariant-loop-k l = (x : ℕ) → x < l.k → StartUnreached l.h.states l.h.start l.work l.left x
