-- `step_call` meets its contract: the report of what the step answers, from the record that is given.
use mathlib.Core.Path.{sym, ◌∙◌, ap}
use lib.ListN.{length}
use Rattle.lasso.specs.Rounds.{Record}
use Rattle.step.specs.Step.{step_outcome_of, step_outcome}
use Rattle.gate.specs.Gate.{work_of}
use Rattle.figures.specs.Short.{out_short}
use Rattle.figures.proofs.CallLaws.{is_enough, reports_enough}
use Rattle.capi_step.specs.Call.{step_report}
use Rattle.capi_step.proofs.step_call.Goals as goal

pub returns : goal.returns
returns c =
    let a = c.args in
    let enough = sym c.too_few.ensures ∙ c.if-too_few.false in
    let same = ap (λ (rec : Record). step_outcome a.file.now a.mark_table a.ceiling rec (length a.work.now)) c.record_given-so_far.ensures in
    let answer = step_outcome_of c.step-stepped.result in
    let r = reports_enough (out_short a.out.now) step_report a.out.now answer _ enough (c.step-stepped.ensures.outcome ∙ same) c.report_step.ensures.kind c.report_step.ensures.out in record {
      value = r.0;
      out = r.1;
      work = is_enough (out_short a.out.now) a.work.now (work_of a.file.now a.mark_table a.work.now) enough c.step-stepped.ensures.work;
    }
