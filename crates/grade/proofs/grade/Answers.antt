-- `grade` meets its contract: refused by the gate, which leaves the table as it is to be, else the grade of the list in
-- the file that passed, with the table cleared.
use mathlib.Core.Path.{sym, ◌∙◌, ap}
use Prim.Native.Nat.{ℕ}
use native.Mathlib.Omega.{arith}
use Rattle.std.proofs.Common.{rules}
use lib.ListN.{length}
use Rattle.gate.specs.Gate.{GatePassed}
use Rattle.gate.proofs.GateLaws.{gate_says, entered_length, work_refused, work_left_lem}
use Rattle.grade.specs.Grade.{grade_outcome}
use Rattle.grade.proofs.GradeLaws.{grade_refused_lem, grade_answered}
use Rattle.grade.proofs.grade.Goals as goal
use Rattle.grade.proofs.grade.Goals.{In_ok-h}

-- the file has passed the gate, with its header
passed : (c : In_ok-h) → GatePassed c.args.file.now c.args.mark_table (length c.args.work.now) c.in_ok-h.h
passed c = gate_says c.args.file.now c.args.mark_table (length c.args.work.now) _ c.in_ok-h.ensures.answer

pub returns-in_err-h : goal.returns-in_err-h
returns-in_err-h c =
    let a = c.args in
    let broken = gate_says a.file.now a.mark_table (length a.work.now) _ c.in_err-h.ensures.answer in
    let told = sym (grade_refused_lem a.file.now a.mark_table a.list.now a.k (length a.work.now) _ broken) in record {
      outcome = search (rules, told);
      work = work_refused a.file.now a.mark_table a.work.now _ broken c.enter.ensures.work;
    }

pub grade_of_model-graded-requires : goal.grade_of_model-graded-requires
grade_of_model-graded-requires c =
    let is = passed (goal.at.grade_of_model-graded-requires c).In_ok-h in record {
      valid = is.valid;
      states_in_bounds = omega (arith, is.room, entered_length c.args.mark_table c.args.work.now c.enter.ensures.work);
    }

pub returns : goal.returns
returns c =
    let a = c.args in
    let is = passed (goal.at.returns c).In_ok-h in
    let same = entered_length a.mark_table a.work.now c.enter.ensures.work in
    let graded = c.grade_of_model-graded.ensures in record {
      outcome = grade_answered a.file.now c.in_ok-h.h is.valid a.list.now a.k (length a.work.now) is.room _ graded.grade
          ∙ ap (λ (t : ℕ). grade_outcome a.file.now t a.list.now a.k (length a.work.now)) is.named;
      work = work_left_lem a.file.now a.mark_table a.work.now is.clear (graded.kept ∙ same) c.leave.ensures;
    }
