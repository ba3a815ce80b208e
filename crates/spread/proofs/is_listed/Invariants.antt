-- `is_listed` meets its contract: lists descend, so the first source that is not above the state tells.
use Prim.Native.Nat.{ℕ}
use mathlib.Core.List.{List}
use Rattle.frontier.specs.Buckets.{sources, Planned}
use Rattle.spread.proofs.ListLaws.{Looking}
use Rattle.spread.proofs.is_listed.Given as goal

abbrev pub invariant-loop-cursor : goal.invariant-loop-cursor
invariant-loop-cursor l =
    (origin : List ℕ) → Planned l.n l.limit origin l.work → Looking (sources l.n l.limit origin) l.n l.level l.s l.cursor

abbrev pub decreases-loop-cursor : goal.decreases-loop-cursor
decreases-loop-cursor l = l.cursor
