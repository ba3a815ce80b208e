-- `grade_call` meets its contract where the tables have room: what is reported of the grader's result is the report of its
-- outcome.
use Prim.Native.Nat.{ℕ}
use mathlib.Core.Path.{◌≡◌, refl, sym, ◌∙◌, ap}
use mathlib.Core.Bool.{Bool, false}
use lib.ListN.{length}
use Rattle.gate.specs.Gate.{work_of}
use Rattle.outcomes.specs.Outcome.{Outcome}
use Rattle.grade.specs.Grade.{Grade, graded_of, grade_outcome_of, grade_outcome}
use Rattle.figures.proofs.ReportLaws.{result_reported}
use Rattle.figures.proofs.CallLaws.{tables_enough, reports_enough}
use Rattle.grade_report.specs.Grades.{grade_report, place_in}
use Rattle.grade_report.proofs.PlaceLaws.{place_reported}
use Rattle.capi_grade.specs.Call.{place_short}
use Rattle.capi_grade.proofs.grade_call.Goals as goal

pub returns : goal.returns
returns c =
    let a = c.args in
    let graded = c.grade-graded.result in
    let told = c.report_grade.ensures in
    let short : Bool = place_short a.place.now a.out.now in
    let due : Outcome Grade = grade_outcome a.file.now a.mark_table a.list.now a.k (length a.work.now) in
    let enough : short ≡ false = sym c.tables_short.ensures ∙ c.if-tables_short.false in
    let reported = result_reported grade_report graded_of (λ n. refl) graded _ told.kind told.out in
    let placed = place_reported graded _ told.place ∙ ap (place_in a.place.now) {y = due} c.grade-graded.ensures.outcome in
    let r = reports_enough short grade_report a.out.now (grade_outcome_of graded) due enough c.grade-graded.ensures.outcome reported.0 reported.1 in
    let both = tables_enough short a.place.now a.work.now (place_in a.place.now due) (work_of a.file.now a.mark_table a.work.now) enough placed c.grade-graded.ensures.work in record {
      value = r.0;
      out = r.1;
      place = both.0;
      work = both.1;
    }
