-- `plan` lists the sources. The invariant: from whatever table the plan is made, the states below s are gone through.
use Prim.Native.Nat.{ℕ}
use mathlib.Core.List.{List}
use Rattle.frontier.proofs.BucketLaws.{Planning}
use Rattle.frontier.proofs.plan.Given as goal

abbrev pub invariant-loop-s : goal.invariant-loop-s
invariant-loop-s l = (w : List ℕ) → Planning l.n l.limit 0 w l.initial.work → Planning l.n l.limit l.s w l.work
