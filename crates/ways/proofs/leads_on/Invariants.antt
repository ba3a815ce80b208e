-- `ways::leads_on` meets its contract. The loop's invariant: none of the first k successors has the entry.
use Prim.Native.Nat.{ℕ}
use mathlib.Core.Path.{◌≡◌}
use mathlib.Core.List.{List}
use Rattle.frontier.specs.Regions.{entry}
use Rattle.lists.proofs.Tests.{NoneOf}
use Rattle.ways.proofs.leads_on.Given as goal

-- a state has the entry
abbrev pub Has : ℕ → List ℕ → ℕ → ℕ → Type 0
Has n w next t = entry 2 n w t ≡ next

abbrev pub invariant-loop-k : goal.invariant-loop-k
invariant-loop-k l = NoneOf (Has l.n l.work l.next) l.successors l.k
