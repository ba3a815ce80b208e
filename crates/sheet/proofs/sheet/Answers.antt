-- `sheet` meets its contract: nothing without room for a text; else one line for a file that the gate refuses, or the sheet of
-- a file that passes, with the working table cleared.
use Rattle.std.proofs.Common.{◌∙◌, ap, ℕ, length, arith, rules}
use Rattle.gate.specs.Gate.{GatePassed}
use Rattle.gate.proofs.GateLaws.{gate_says, entered_length, work_left_lem}
use Rattle.outcomes.proofs.OutcomeLaws.{at_length}
use Rattle.text.proofs.WroteLaws.{wrote_as}
use Rattle.text.proofs.DecimalLaws.{decimal_five}
use Rattle.text.proofs.FigureLaws.{figure-length}
use Rattle.text.specs.Figure.{figure}
use Rattle.sheet_head.specs.Words.{refused_word}
use Rattle.sheet_text.specs.SheetText.{sheet_text, sheet_answer}
use Rattle.sheet.proofs.LeaveLaws.{LeavesSheet, leaves_short, leaves_sheet, leaves_refused}
use Rattle.sheet.proofs.sheet.Goals as goal
use Rattle.sheet.proofs.sheet.Goals.{After-leave, In-Ok}

-- the file has passed the gate, with its header
passed : (c : In-Ok) → GatePassed c.args.input.now 0 (length c.args.work.now) c.in-Ok.h
passed c = gate_says c.args.input.now 0 (length c.args.work.now) _ c.in-Ok.ensures.answer

pub returns-then-text-lt-SHEET_ROOM : goal.returns-then-text-lt-SHEET_ROOM
returns-then-text-lt-SHEET_ROOM c =
    let a = c.args in let r = leaves_short a.input.now a.text.now a.answer.now a.work.now c.if-text-lt-SHEET_ROOM.true in record {
      text = r.0;
      answer = r.1.0;
      work = r.1.1;
    }

pub write_refusal-requires : goal.write_refusal-requires
write_refusal-requires c =
    let number = c.from.result in
    omega (arith, figure-length refused_word number, decimal_five number (search rules), c.if-text-lt-SHEET_ROOM.false)

pub sheet_model-requires : goal.sheet_model-requires
sheet_model-requires c =
    let is = passed (goal.at.sheet_model-requires c).In-Ok in record {
      valid = (is.valid, is.named);
      states_in_bounds = omega (arith, is.room, entered_length 0 c.args.work.now c.enter.ensures.work);
      sheet_room_in_bounds = c.if-text-lt-SHEET_ROOM.false;
    }

pub returns-in-Err : goal.returns-in-Err
returns-in-Err c =
    let a = c.args in
    let broken = gate_says a.input.now 0 (length a.work.now) _ c.in-Err.ensures.answer in
    let line = wrote_as (ap (λ (n : ℕ). figure refused_word n) c.from.ensures) c.write_refusal.ensures in
    let r = leaves_refused a.input.now a.text.now a.answer.now a.work.now c.if-text-lt-SHEET_ROOM.false broken c.enter.ensures.work line in record {
      text = r.0;
      answer = r.1.0;
      work = r.1.1;
    }

-- what the sheet of a file that passes leaves behind
left : (c : After-leave) → let a = c.args in
    LeavesSheet a.input.now a.text.now a.answer.now a.work.now c.sheet_model.new.text.at c.sheet_model.new.text.bytes.now c.sheet_model.new.answer c.leave.new.work
left c =
    let a = c.args in
    let same = entered_length 0 a.work.now c.enter.ensures.work in
    leaves_sheet a.input.now a.text.now a.answer.now a.work.now c.if-text-lt-SHEET_ROOM.false
    (wrote_as (ap (λ (n : ℕ). sheet_text a.input.now (length a.answer.now) n) same) c.sheet_model.ensures.text.wrote)
    (at_length (λ n. sheet_answer a.input.now a.answer.now n) c.sheet_model.ensures.answer same)
    (work_left_lem a.input.now 0 a.work.now (passed (goal.at.After-leave c).In-Ok).clear (c.sheet_model.ensures.kept ∙ same) c.leave.ensures)

pub returns-in-Ok-clause-text : goal.returns-in-Ok-clause-text
returns-in-Ok-clause-text c =
    let told = (left (goal.at.returns-in-Ok-clause-text c).After-leave).0 in
    let same = c.sheet_model.ensures.text.same in
    search (rules, told, same)

pub returns-in-Ok-clause-answer : goal.returns-in-Ok-clause-answer
returns-in-Ok-clause-answer c = (left (goal.at.returns-in-Ok-clause-answer c).After-leave).1.0

pub returns-in-Ok-clause-work : goal.returns-in-Ok-clause-work
returns-in-Ok-clause-work c = (left (goal.at.returns-in-Ok-clause-work c).After-leave).1.1
