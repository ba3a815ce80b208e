-- `search` meets its contract: refused by the gate, which leaves the working table as it is to be, else what the search of the
-- file that passed answers, with the working table cleared.
use mathlib.Core.Path.{sym, ◌∙◌}
use native.Mathlib.Omega.{arith}
use Rattle.std.proofs.Common.{rules}
use lib.ListN.{length}
use Rattle.outcomes.proofs.OutcomeLaws.{call_answer, at_length}
use Rattle.gate.specs.Gate.{GatePassed}
use Rattle.gate.proofs.GateLaws.{gate_says, entered_length, work_refused, work_left_lem}
use Rattle.search.specs.Search.{search_outcome, search_answer}
use Rattle.search.proofs.SearchLaws.{search_refused}
use Rattle.search.proofs.search.Goals as goal
use Rattle.search.proofs.search.Goals.{In_ok-h}

-- the file has passed the gate, with its header
passed : (c : In_ok-h) → GatePassed c.args.file.now c.args.ask.table (length c.args.work.now) c.in_ok-h.h
passed c = gate_says c.args.file.now c.args.ask.table (length c.args.work.now) _ c.in_ok-h.ensures.answer

pub returns-in_err-h : goal.returns-in_err-h
returns-in_err-h c =
    let a = c.args in
    let broken = gate_says a.file.now a.ask.table (length a.work.now) _ c.in_err-h.ensures.answer in
    let is = search_refused a.file.now a.ask (length a.answer.now) (length a.work.now) _ broken in
    let told = sym is.outcome_is in record {
      outcome = search (rules, told);
      answer = sym (call_answer a.answer.now is);
      work = work_refused a.file.now a.ask.table a.work.now _ broken c.enter.ensures.work;
    }

pub search_model-searched-requires : goal.search_model-searched-requires
search_model-searched-requires c =
    let is = passed (goal.at.search_model-searched-requires c).In_ok-h in record {
      valid = (is.valid, is.named);
      states_in_bounds = omega (arith, is.room, entered_length c.args.ask.table c.args.work.now c.enter.ensures.work);
    }

pub returns : goal.returns
returns c =
    let a = c.args in
    let same = entered_length a.ask.table a.work.now c.enter.ensures.work in
    let searched = c.search_model-searched.ensures in record {
      outcome = at_length (λ n. search_outcome a.file.now a.ask (length a.answer.now) n) searched.outcome same;
      answer = at_length (λ n. search_answer a.file.now a.ask a.answer.now n) searched.answer same;
      work = work_left_lem a.file.now a.ask.table a.work.now (passed (goal.at.returns c).In_ok-h).clear (searched.kept ∙ same) c.leave.ensures;
    }
