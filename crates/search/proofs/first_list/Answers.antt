-- `first_list` meets its contract: the length is never above 4,096; without room for the list the answer is 15
-- and nothing is written; else the first of the roll is written with its figures.
use mathlib.Core.Path.{◌≡◌, sym, ◌∙◌, ap, subst}
use mathlib.Core.List.{head?}
use mathlib.Core.Option.{some, none}
use Prim.Native.Nat.{◌≤◌}
use native.Mathlib.Omega.{arith}
use lib.ListN.{length}
use Rattle.lasso.specs.Graph.{Graph}
use Rattle.lasso.specs.Roll.{least_length, roll}
use Rattle.lasso.specs.Rounds.{candidates}
use Rattle.lasso.proofs.RollLaws.{least_length_range}
use Rattle.model.specs.Model.{graph_in, graph_of}
use Rattle.model.proofs.Laws.{valid_graph, valid_sizes}
use Rattle.outcomes.specs.Outcome.{refused, answered}
use Rattle.outcomes.proofs.OutcomeLaws.{call_answer}
use Rattle.gate.proofs.GateLaws.{valid_room}
use Rattle.current.specs.Current.{list_in}
use Rattle.cursor.proofs.RollPlaces.{stands_head}
use Rattle.search.specs.Search.{Searched, WithEnough, search_outcome, search_answer}
use Rattle.search.proofs.SearchLaws.{SearchIs, search_no_room, first_written}
use Rattle.search.proofs.first_list.Goals as goal
use Rattle.search.proofs.first_list.Goals.{Then-answer-entries, After-write_list-k}

-- without room for the list 15 is due, whatever of enough is asked
refused_room : (c : Then-answer-entries) → let a = c.args in WithEnough a.h.table a.rounds a.transitions.0 (λ ask. SearchIs a.file.now ask (length a.answer.now) (length a.work.now) (refused 15) none)
refused_room c ask asks =
    let a = c.args in
    let ready = c.requires.rounds_ready in
    let v = ready.valid in
    let asked = subst (λ (g : Graph). (least_length g ≡ some a.transitions.0) × (a.rounds ≡ length (candidates g)))
    (valid_graph v ∙ ap (graph_of a.file.now) (sym asks.named)) (c.requires.h_value, c.requires.rounds_value) in
    search_no_room a.file.now v.accepted ask (length a.answer.now) (length a.work.now) (valid_room v ready.room) (omega (arith, v.table_limit, asks.named)) asks.not_high
    (omega (arith, asked.1, asks.allowed)) a.transitions.0 asked.0 asks.within (omega (arith, c.entries.ensures, c.if-answer-entries.true))

-- the length is in range
fits : (c : After-write_list-k) → c.args.transitions.0 ≤ length c.to_first.new.work
fits c =
    let ready = c.requires.rounds_ready in
    let sizes = valid_sizes ready.valid in
    omega (arith, least_length_range (graph_in c.args.file.now c.args.h) c.args.transitions.0 c.requires.h_value, ready.room, c.to_first.ensures.kept)

pub returns-then-answer-entries-clause-outcome : goal.returns-then-answer-entries-clause-outcome
returns-then-answer-entries-clause-outcome c ask asks =
    sym (refused_room (goal.at.returns-then-answer-entries-clause-outcome c).Then-answer-entries ask asks).outcome_is

pub returns-then-answer-entries-clause-answer : goal.returns-then-answer-entries-clause-answer
returns-then-answer-entries-clause-answer c ask asks =
    sym (call_answer c.args.answer.now (refused_room (goal.at.returns-then-answer-entries-clause-answer c).Then-answer-entries ask asks))

pub write_list-k-requires-clause-transitions_in_bounds : goal.write_list-k-requires-clause-transitions_in_bounds
write_list-k-requires-clause-transitions_in_bounds c =
    let ready = c.requires.rounds_ready in
    let sizes = valid_sizes ready.valid in
    omega (arith, least_length_range (graph_in c.args.file.now c.args.h) c.args.transitions.0 c.requires.h_value, ready.room, c.to_first.ensures.kept)

-- the list was written with its figures, whatever of enough is asked
found : (c : After-write_list-k)
    → let a = c.args in WithEnough a.h.table a.rounds a.transitions.0 (λ ask. (answered (Searched.found a.transitions.0 c.write_list-k.result a.rounds) ≡ search_outcome a.file.now ask (length a.answer.now) (length a.work.now)) × (c.write_list-k.new.answer ≡ search_answer a.file.now ask a.answer.now (length a.work.now)))
found c =
    let a = c.args in
    let v = c.requires.rounds_ready.valid in
    let rounds_are = subst (λ (g : Graph). a.rounds ≡ length (candidates g)) (valid_graph v) c.requires.rounds_value in
    let least = subst (λ (g : Graph). least_length g ≡ some a.transitions.0) (valid_graph v) c.requires.h_value in
    let first = subst (λ (g : Graph). head? (roll g) ≡ some (list_in g.start c.to_first.new.work a.transitions.0)) (valid_graph v) (stands_head c.to_first.ensures.at.current) in
    first_written a.file.now a.h.table v.accepted v.table_limit (length a.work.now) (valid_room v c.requires.rounds_ready.room) a.answer.now _ _ a.h.start a.transitions.0 c.write_list-k.result a.rounds
    (valid_sizes v).start_is (fits c) least first (omega (arith, c.entries.ensures, c.if-answer-entries.false))
    c.write_list-k.ensures.start.0 rounds_are c.write_list-k.ensures.list

pub returns-clause-outcome : goal.returns-clause-outcome
returns-clause-outcome c ask asks = (found (goal.at.returns-clause-outcome c).After-write_list-k ask asks).0

pub returns-clause-answer : goal.returns-clause-answer
returns-clause-answer c ask asks = (found (goal.at.returns-clause-answer c).After-write_list-k ask asks).1
