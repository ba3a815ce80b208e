use Prim.Native.Nat.{◌<◌}
use mathlib.Core.Path.{sym, ◌∙◌}
use native.Mathlib.Omega.{arith}
use Rattle.model.specs.Model.{graph_in}
use Rattle.candidates.proofs.CandidateLaws.{counted_yes, counted_no}
use Rattle.candidates.proofs.count_candidates.Goals as goal
use Rattle.candidates.proofs.count_candidates.Goals.{then-is_candidate, else-is_candidate}

pub loop-s-preserved : goal.loop-s-preserved
loop-s-preserved c =
    let test = sym c.is_candidate.ensures in
    let inside : c.loop-s.s < (graph_in c.args.file.now c.args.h).size = omega arith in
    elim c.if-is_candidate.branch [
      | then-is_candidate w ↦ (omega arith, rw w.count-is (counted_yes inside (test ∙ w.if-is_candidate.true) c.loop-s.invariant.1))
      | else-is_candidate w ↦ (omega arith, rw w.count-is (counted_no inside (test ∙ w.if-is_candidate.false) c.loop-s.invariant.1))
    ]
