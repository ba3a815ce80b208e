-- `next` meets its contract: refused by the gate, which leaves the working table as it is to be, else what next on the file
-- that passed answers, with the working table cleared.
use mathlib.Core.Path.{sym, ◌∙◌}
use native.Mathlib.Omega.{arith}
use Rattle.std.proofs.Common.{rules}
use lib.ListN.{length}
use Rattle.outcomes.proofs.OutcomeLaws.{call_answer, at_table}
use Rattle.gate.specs.Gate.{GatePassed}
use Rattle.gate.proofs.GateLaws.{gate_says, entered_length, work_refused, work_left_lem}
use Rattle.next.specs.Next.{next_outcome, next_answer}
use Rattle.next.proofs.NextLaws.{next_refused}
use Rattle.next.proofs.next.Goals as goal
use Rattle.next.proofs.next.Goals.{In_ok-h}

-- the file has passed the gate, with its header
passed : (c : In_ok-h) → GatePassed c.args.file.now c.args.mark_table (length c.args.work.now) c.in_ok-h.h
passed c = gate_says c.args.file.now c.args.mark_table (length c.args.work.now) _ c.in_ok-h.ensures.answer

pub returns-in_err-h : goal.returns-in_err-h
returns-in_err-h c =
    let a = c.args in
    let broken = gate_says a.file.now a.mark_table (length a.work.now) _ c.in_err-h.ensures.answer in
    let is = next_refused a.file.now a.mark_table a.earlier.now (length a.answer.now) (length a.work.now) _ broken in
    let told = sym is.outcome_is in record {
      outcome = search (rules, told);
      answer = sym (call_answer a.answer.now is);
      work = work_refused a.file.now a.mark_table a.work.now _ broken c.enter.ensures.work;
    }

pub next_of_model-followed-requires : goal.next_of_model-followed-requires
next_of_model-followed-requires c =
    let is = passed (goal.at.next_of_model-followed-requires c).In_ok-h in record {
      valid = is.valid;
      states_in_bounds = omega (arith, is.room, entered_length c.args.mark_table c.args.work.now c.enter.ensures.work);
    }

pub returns : goal.returns
returns c =
    let a = c.args in
    let is = passed (goal.at.returns c).In_ok-h in
    let same = entered_length a.mark_table a.work.now c.enter.ensures.work in
    let followed = c.next_of_model-followed.ensures in record {
      outcome = at_table (λ t n. next_outcome a.file.now t a.earlier.now (length a.answer.now) n) followed.outcome is.named same;
      answer = at_table (λ t n. next_answer a.file.now t a.earlier.now a.answer.now n) followed.answer is.named same;
      work = work_left_lem a.file.now a.mark_table a.work.now is.clear (followed.kept ∙ same) c.leave.ensures;
    }
