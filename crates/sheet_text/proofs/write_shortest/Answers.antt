-- `write_shortest` meets its contract: without room for a list the one line of 15, else the head, the length and the lists.
use Rattle.std.proofs.Common.{◌≡◌, ℕ, ◌≤◌, sym, ◌∙◌, ap, subst, List, ◌++◌, length, arith}
use Rattle.std.proofs.Math.Option.{some, none}
use Rattle.lasso.specs.Graph.{Graph}
use Rattle.lasso.specs.Roll.{least_length, roll}
use Rattle.lasso.specs.Rounds.{candidates}
use Rattle.lasso.proofs.RollLaws.{least_length_range}
use Rattle.model.specs.declared.Header.{Header}
use Rattle.model.specs.Model.{graph_in, graph_of}
use Rattle.model.specs.Values.{Valid}
use Rattle.model.proofs.Laws.{valid_sizes}
use Rattle.gate.proofs.GateLaws.{named_graph, valid_room}
use Rattle.outcomes.specs.Tables.{written}
use Rattle.text.specs.Figure.{figure}
use Rattle.text.proofs.WroteLaws.{adds_length, adds_then, adds_as}
use Rattle.text.proofs.FigureLaws.{figure_room}
use Rattle.sheet_head.specs.Words.{refused_word, shortest_word}
use Rattle.sheet_lists.specs.RollText.{lists_text, last_printed}
use Rattle.sheet_text.proofs.SheetLaws.{SheetIs, head_lines, head_is, head_fits, sheet_answer_lem, sheet_lists, sheet_no_room}
use Rattle.sheet_text.proofs.write_shortest.Goals as goal
use Rattle.sheet_text.proofs.write_shortest.Goals.{Else-answer-entries, Then-answer-entries}

module _ {f : List ℕ} {h : Header} (v : Valid f h) (t : h.table ≡ 0) where
  -- the length is the least of an accepting path of the file
  least : {l : ℕ} → least_length (graph_in f h) ≡ some l → least_length (graph_of f 0) ≡ some l
  least {l} e = subst (λ (g : Graph). least_length g ≡ some l) (named_graph v t) e

  -- the rounds are as many as the file has candidates
  rounds_are : {n : ℕ} → n ≡ length (candidates (graph_in f h)) → n ≡ length (candidates (graph_of f 0))
  rounds_are {n} e = subst (λ (g : Graph). n ≡ length (candidates g)) (named_graph v t) e

  -- no accepting path is longer than there are states
  length_range : {l : ℕ} → least_length (graph_in f h) ≡ some l → l ≤ 4096
  length_range {l} e =
      let sizes = valid_sizes v in
      omega (arith, least_length_range (graph_of f 0) l (least e))

-- the sheet of a file with lists that have room
lists_are : (c : Else-answer-entries) → let a = c.args in
    SheetIs a.file.now (length a.answer.now) (length a.work.now)
    (head_lines a.file.now ++ figure shortest_word a.transitions.0 ++ lists_text (roll (graph_of a.file.now 0)))
    (last_printed (roll (graph_of a.file.now 0)))
lists_are c =
    let a = c.args in
    let r = c.requires in
    let v = r.rounds_ready.0.valid in
    sheet_lists a.file.now v.accepted (length a.answer.now) (length a.work.now) (valid_room v r.rounds_ready.0.room) a.transitions.0
    (least v r.rounds_ready.1 r.h_value) (omega (arith, c.entries.ensures, c.if-answer-entries.false))

-- and of one with lists that have none
no_room_is : (c : Then-answer-entries) → SheetIs c.args.file.now (length c.args.answer.now) (length c.args.work.now) (figure refused_word 15) none
no_room_is c =
    let a = c.args in
    let r = c.requires in
    let v = r.rounds_ready.0.valid in
    sheet_no_room a.file.now v.accepted (length a.answer.now) (length a.work.now) (valid_room v r.rounds_ready.0.room) a.transitions.0
    (least v r.rounds_ready.1 r.h_value) (omega (arith, c.entries.ensures, c.if-answer-entries.true))

pub write_refused-requires : goal.write_refused-requires
write_refused-requires c = omega (arith, figure_room refused_word c.from.result (omega (arith, c.from.ensures)), c.requires.sheet_room_in_bounds)

pub returns-then-answer-entries-clause-text : goal.returns-then-answer-entries-clause-text
returns-then-answer-entries-clause-text c =
    adds_as (ap (figure refused_word) c.from.ensures ∙ sym (no_room_is (goal.at.returns-then-answer-entries-clause-text c).Then-answer-entries).text_is) c.write_refused.ensures

pub returns-then-answer-entries-clause-answer : goal.returns-then-answer-entries-clause-answer
returns-then-answer-entries-clause-answer c =
    sym (sheet_answer_lem c.args.answer.now (no_room_is (goal.at.returns-then-answer-entries-clause-answer c).Then-answer-entries))

pub write_head-requires : goal.write_head-requires
write_head-requires c =
    let r = c.requires in
    let v = r.rounds_ready.0.valid in
    omega (arith, head_fits v (rounds_are v r.rounds_ready.1 r.rounds_value), r.sheet_room_in_bounds)

pub write_figure-requires : goal.write_figure-requires
write_figure-requires c =
    let r = c.requires in
    let v = r.rounds_ready.0.valid in
    let w = c.write_head.ensures in
    let number = c.number in
    omega (arith, head_fits v (rounds_are v r.rounds_ready.1 r.rounds_value), figure_room shortest_word number.result (omega (arith, number.ensures, length_range v r.rounds_ready.1 r.h_value)), r.sheet_room_in_bounds, w.wrote.place, adds_length w)

pub write_lists-requires-clause-lists_room_in_bounds : goal.write_lists-requires-clause-lists_room_in_bounds
write_lists-requires-clause-lists_room_in_bounds c =
    let r = c.requires in
    let v = r.rounds_ready.0.valid in
    let w = c.write_head.ensures in
    let u = c.write_figure.ensures in
    let number = c.number in
    omega (arith, head_fits v (rounds_are v r.rounds_ready.1 r.rounds_value), figure_room shortest_word number.result (omega (arith, number.ensures, length_range v r.rounds_ready.1 r.h_value)), r.sheet_room_in_bounds, w.wrote.place, adds_length w, u.wrote.place, adds_length u)

pub returns-clause-text : goal.returns-clause-text
returns-clause-text c =
    let a = c.args in
    let r = c.requires in
    let v = r.rounds_ready.0.valid in
    let is = lists_are (goal.at.returns-clause-text c).Else-answer-entries in
    let same = ap (λ (g : Graph). lists_text (roll g)) (named_graph v r.rounds_ready.1) in
    adds_as
    (ap (λ (x : List ℕ). x ++ figure shortest_word a.transitions.0 ++ lists_text (roll (graph_of a.file.now 0))) (head_is v (rounds_are v r.rounds_ready.1 r.rounds_value)) ∙ sym is.text_is)
    (adds_then (adds_then c.write_head.ensures (adds_as (ap (figure shortest_word) c.number.ensures) c.write_figure.ensures)) (adds_as same c.write_lists.ensures.text))

pub returns-clause-answer : goal.returns-clause-answer
returns-clause-answer c =
    let a = c.args in
    let r = c.requires in
    let is = lists_are (goal.at.returns-clause-answer c).Else-answer-entries in
    let same = ap (λ (g : Graph). written (last_printed (roll g)) a.answer.now) (named_graph r.rounds_ready.0.valid r.rounds_ready.1) in
    c.write_lists.ensures.answer ∙ same ∙ sym (sheet_answer_lem a.answer.now is)
