-- `step` meets its contract: refused by the gate, which leaves the table as it is to be, else what the step on the file that
-- passed answers, with the table cleared.
use mathlib.Core.Path.{◌∙◌}
use native.Mathlib.Omega.{arith}
use Rattle.std.proofs.Common.{rules}
use lib.ListN.{length}
use Rattle.lasso.specs.Values.{record_of}
use Rattle.outcomes.proofs.OutcomeLaws.{at_table}
use Rattle.gate.specs.Gate.{GatePassed}
use Rattle.gate.proofs.GateLaws.{gate_says, entered_length, work_refused, work_left_lem}
use Rattle.step.specs.Step.{step_outcome}
use Rattle.step.proofs.StepLaws.{step_refused}
use Rattle.step.proofs.step.Goals as goal
use Rattle.step.proofs.step.Goals.{In_ok-h}

-- the file has passed the gate, with its header
passed : (c : In_ok-h) → GatePassed c.args.file.now c.args.mark_table (length c.args.work.now) c.in_ok-h.h
passed c = gate_says c.args.file.now c.args.mark_table (length c.args.work.now) _ c.in_ok-h.ensures.answer

pub returns-in_err-h : goal.returns-in_err-h
returns-in_err-h c =
    let a = c.args in
    let broken = gate_says a.file.now a.mark_table (length a.work.now) _ c.in_err-h.ensures.answer in
    let told = step_refused a.file.now a.mark_table a.ceiling.0 (record_of a.so_far) _ _ broken in record {
      outcome = search (rules, told);
      work = work_refused a.file.now a.mark_table a.work.now _ broken c.enter.ensures.work;
    }

pub step_model-stepped-requires : goal.step_model-stepped-requires
step_model-stepped-requires c =
    let is = passed (goal.at.step_model-stepped-requires c).In_ok-h in record {
      valid = is.valid;
      states_in_bounds = omega (arith, is.room, entered_length c.args.mark_table c.args.work.now c.enter.ensures.work);
    }

pub returns : goal.returns
returns c =
    let a = c.args in
    let is = passed (goal.at.returns c).In_ok-h in
    let same = entered_length a.mark_table a.work.now c.enter.ensures.work in
    let stepped = c.step_model-stepped.ensures in record {
      outcome = at_table (λ t n. step_outcome a.file.now t a.ceiling.0 (record_of a.so_far) n) stepped.outcome is.named same;
      work = work_left_lem a.file.now a.mark_table a.work.now is.clear (stepped.kept ∙ same) c.leave.ensures;
    }
