use Prim.Native.Nat.{ℕ, suc, ◌+◌, ◌*◌, ◌%◌, ◌≤◌, ◌<◌}
use mathlib.Core.Path.{◌≡◌, ◌∙◌}
use native.Mathlib.Omega.{arith}
use lib.ListN.{length}
use Rattle.frontier.specs.Regions.{entry}
use Rattle.frontier.proofs.BucketLaws.{Planning, planning_none, planning_skip, planning_list, planning_same, planning_done, source_entry, entry_source}
use Rattle.frontier.proofs.plan.Goals as goal
use Rattle.frontier.proofs.plan.Goals.{then-level-limit, else-level-limit}

-- the number before x, where 0 wraps to the greatest of 64 bits
abbrev before : ℕ → ℕ
before x = (x + 18446744073709551615) % 18446744073709551616

pub loop-s-preserved : goal.loop-s-preserved
loop-s-preserved c = λ w Q.
    let a = c.args in
    let s = c.loop-s.s in
    let P : Planning a.n a.limit s w c.loop-s.work = c.loop-s.invariant w Q in
    let start : ℕ = c.get-start.result in
    let inside : s < a.n = omega arith in
    let fits : 6 * a.n ≤ length c.loop-s.work = omega arith in
    let same : start ≡ entry 2 a.n w s = c.get-start.ensures.value ∙ P.unread s (omega arith) inside in
    let level : ℕ = before start in
    elim c.if-level-limit.branch [
      | then-level-limit t ↦ planning_same (cc (t.work-is, t.list_source.ensures, c.put.ensures))
          (planning_list a.n a.limit s w c.loop-s.work inside fits P level (omega arith) (omega arith) (entry_source a.limit (entry 2 a.n w s) level (omega arith) (omega arith)))
      | else-level-limit t ↦ planning_same (cc (t.work-is, c.put.ensures))
          (planning_skip a.n a.limit s w c.loop-s.work inside fits P
          (λ b e.
          let h : (entry 2 a.n w s ≡ suc b) × (b < a.limit) = source_entry a.limit (entry 2 a.n w s) b e in
          omega arith))
    ]

pub returns : goal.returns
returns c = planning_done (omega arith) (c.loop-s.invariant _ (planning_none _ _ _ _ (omega arith) c.clear.ensures))
