use Prim.Native.Nat.{◌<◌}
use mathlib.Core.Path.{sym, ◌∙◌}
use native.Mathlib.Omega.{arith}
use Rattle.model.specs.Model.{graph_in}
use Rattle.table.proofs.Laws.{same_outside_trans}
use Rattle.candidates.proofs.CandidateLaws.{counted_left, counted_at}
use Rattle.rounds.proofs.RecordLaws.{underway_yes, underway_no}
use Rattle.rounds.proofs.run_rounds.Goals as goal
use Rattle.rounds.proofs.run_rounds.Goals.{then-is_candidate+else-allowance-done, else-is_candidate}

pub after_round-record-requires-clause-so_far_in_bounds : goal.after_round-record-requires-clause-so_far_in_bounds
after_round-record-requires-clause-so_far_in_bounds c =
    counted_left (omega arith) (sym c.is_candidate.ensures ∙ c.if-is_candidate.true) c.loop-s.invariant.1.counted

pub after_round-record-requires-clause-r_value : goal.after_round-record-requires-clause-r_value
after_round-record-requires-clause-r_value c =
    sym (counted_at (omega arith) (sym c.is_candidate.ensures ∙ c.if-is_candidate.true) c.loop-s.invariant.1.counted)

pub loop-s-preserved : goal.loop-s-preserved
loop-s-preserved c =
    let test = sym c.is_candidate.ensures in
    let low : c.loop-s.s < (graph_in c.args.file.now c.args.h).size = omega arith in
    let (same, underway) = c.loop-s.invariant in
    elim c.if-is_candidate.branch [
      | then-is_candidate+else-allowance-done w ↦ (
        rw w.work-is (same_outside_trans same w.after_round-record.ensures.same),
        rw w.record-is (underway_yes low (test ∙ w.if-is_candidate.true) (omega (arith, w.if-allowance-done.false)) w.after_round-record.ensures.result_value underway),
      )
      | else-is_candidate w ↦ (rw w.work-is same, rw w.record-is (underway_no low (test ∙ w.if-is_candidate.false) underway))
    ]
