-- `listed_level` meets its contract. The loop's invariant: the state is no source of the levels looked at.
use Prim.Native.Nat.{ℕ, ◌<◌}
use mathlib.Core.Bool.{false}
use Rattle.spread.specs.Bounds.{ListedAt}
use Rattle.spread.proofs.listed_level.Given as goal

abbrev pub invariant-loop-level : goal.invariant-loop-level
invariant-loop-level l = (a : ℕ) → a < l.level → ListedAt l.n l.limit a l.s l.work false
