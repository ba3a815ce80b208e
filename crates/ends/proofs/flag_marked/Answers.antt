use Prim.Native.Nat.{◌+◌, ◌*◌}
use mathlib.Core.Path.{◌≡◌, ◌∙◌}
use lib.ListN.{set}
use native.Mathlib.Omega.{arith}
use Rattle.ends.proofs.EndLaws.{marked_more, marked_pass}
use Rattle.ends.proofs.flag_marked.Goals as goal
use Rattle.ends.proofs.flag_marked.Goals.{then-is_marked_end, else-is_marked_end}

pub loop-s-preserved : goal.loop-s-preserved
loop-s-preserved c =
    let n = c.args.h.states in
    elim c.if-is_marked_end.branch [
      | then-is_marked_end w ↦
          let e : c.if-is_marked_end.work ≡ set c.loop-s.work (4 * n + c.loop-s.s) 1 = w.work-is ∙ w.put.ensures in
          rw e (marked_more (omega arith) c.requires.states_in_bounds c.loop-s.invariant (rw w.if-is_marked_end.true at c.is_marked_end.ensures))
      | else-is_marked_end w ↦
          let e : c.if-is_marked_end.work ≡ c.loop-s.work = w.work-is in
          rw e (marked_pass (omega arith) c.loop-s.invariant (rw w.if-is_marked_end.false at c.is_marked_end.ensures))
    ]
