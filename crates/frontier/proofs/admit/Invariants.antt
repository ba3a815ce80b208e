-- `admit` walks along the level's list. The invariant: whatever the search, the sources from the cursor on are in.
-- The measure is the cursor, which falls since the list descends.
use Prim.Native.Nat.{ℕ, ◌*◌, ◌≤◌}
use mathlib.Core.List.{List}
use Rattle.frontier.specs.Regions.{queued}
use Rattle.table.specs.Changes.{SameOutside}
use Rattle.frontier.proofs.AdmitLaws.{Admitting}
use Rattle.frontier.proofs.admit.Given as goal

abbrev pub invariant-loop-cursor : goal.invariant-loop-cursor
invariant-loop-cursor l =
    SameOutside (2 * l.n) (4 * l.n) l.initial.work l.work × (l.initial.end ≤ l.end) ×
    ((succs : ℕ → List ℕ) (limit target : ℕ) (origin : List ℕ) (at : ℕ) →
    Admitting l.n succs limit target origin l.level at (queued l.n l.initial.end) l.initial.cursor l.initial.work →
    Admitting l.n succs limit target origin l.level at (queued l.n l.end) l.cursor l.work)

abbrev pub decreases-loop-cursor : goal.decreases-loop-cursor
decreases-loop-cursor l = l.cursor
