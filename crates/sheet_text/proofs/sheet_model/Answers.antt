-- `sheet_model` meets its contract: what the rounds come to decides between no list and lists.
use Rattle.std.proofs.Common.{◌≡◌, sym, ◌∙◌, ap, subst, ℕ, List, ◌++◌, length, arith}
use Rattle.std.proofs.Math.Option.{none}
use Rattle.lasso.specs.Graph.{Graph}
use Rattle.lasso.specs.Roll.{least_length}
use Rattle.lasso.specs.Rounds.{candidates}
use Rattle.lasso.specs.Values.{length_of}
use Rattle.model.specs.Model.{graph_of}
use Rattle.gate.proofs.GateLaws.{named_graph, valid_room}
use Rattle.text.proofs.WroteLaws.{adds_length, adds_then, adds_as}
use Rattle.sheet_head.specs.Words.{none_line}
use Rattle.sheet_text.proofs.SheetLaws.{SheetIs, head_lines, head_is, head_fits, sheet_answer_lem, sheet_none}
use Rattle.sheet_text.proofs.sheet_model.Goals as goal
use Rattle.sheet_text.proofs.sheet_model.Goals.{In-None}

-- all rounds are done: their number
rounds_are : (c : In-None) → c.all_rounds-done.result.rounds ≡ length (candidates (graph_of c.args.file.now 0))
rounds_are c =
    subst (λ (g : Graph). c.all_rounds-done.result.rounds ≡ length (candidates g)) (named_graph c.requires.valid.0 c.requires.valid.1) c.all_rounds-done.ensures.says.rounds_are

-- without a list the sheet says so
none_is : (c : In-None) → SheetIs c.args.file.now (length c.args.answer.now) (length c.args.work.now) (head_lines c.args.file.now ++ none_line) none
none_is c =
    let v = c.requires.valid.0 in
    let least = subst (λ (g : Graph). least_length g ≡ none) (named_graph v c.requires.valid.1) (c.all_rounds-done.ensures.says.least_is ∙ ap length_of c.in-None.is) in
    sheet_none c.args.file.now v.accepted (length c.args.answer.now) (length c.args.work.now) (valid_room v c.requires.states_in_bounds) least

pub write_head-requires : goal.write_head-requires
write_head-requires c = omega (arith, head_fits c.requires.valid.0 (rounds_are (goal.at.write_head-requires c).In-None), c.requires.sheet_room_in_bounds)

pub write_bytes-requires : goal.write_bytes-requires
write_bytes-requires c =
    let w = c.write_head.ensures in
    omega (arith, head_fits c.requires.valid.0 (rounds_are (goal.at.write_bytes-requires c).In-None), c.requires.sheet_room_in_bounds, w.wrote.place, adds_length w)

pub returns-in-None-clause-text : goal.returns-in-None-clause-text
returns-in-None-clause-text c =
    let told = (goal.at.returns-in-None-clause-text c).In-None in
    adds_as (ap (λ (r : List ℕ). r ++ none_line) (head_is c.requires.valid.0 (rounds_are told)) ∙ sym (none_is told).text_is)
    (adds_then c.write_head.ensures c.write_bytes.ensures)

pub returns-in-None-clause-answer : goal.returns-in-None-clause-answer
returns-in-None-clause-answer c = sym (sheet_answer_lem c.args.answer.now (none_is (goal.at.returns-in-None-clause-answer c).In-None))
