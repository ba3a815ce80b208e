use Prim.Native.Nat.{◌-◌, ◌≤◌}
use native.Mathlib.Omega.{arith}
use Rattle.spread.proofs.ListLaws.{next_smaller, looking_next}
use Rattle.spread.proofs.is_listed.Goals as goal
use Rattle.spread.proofs.is_listed.Goals.{At-loop-cursor}

pub loop-cursor-smaller : goal.loop-cursor-smaller
loop-cursor-smaller c =
    let at_loop = c in
    let plan = at_loop.requires.has_plan in
    let above : 1 ≤ at_loop.loop-cursor.cursor = omega (arith, c.loop-cursor-test.true) in
    let fewer = next_smaller plan.planned.lists (at_loop.loop-cursor.cursor - 1) at_loop.loop-cursor.cursor c.get-cursor-in-loop-cursor.result (omega arith)
    c.get-cursor-in-loop-cursor.ensures.value (at_loop.loop-cursor.invariant plan.origin plan.planned) in
    omega (arith, above, fewer)

pub loop-cursor-preserved : goal.loop-cursor-preserved
loop-cursor-preserved c =
    λ origin P.
    let at_loop = c in
    looking_next P.lists (at_loop.loop-cursor.cursor - 1) at_loop.loop-cursor.cursor _ (omega (arith, c.loop-cursor-test.true)) (omega (arith, c.loop-cursor-test.true))
    c.get-cursor-in-loop-cursor.ensures.value (at_loop.loop-cursor.invariant origin P)
