-- `search_model` meets its contract: refused with 21 if the ceiling is too high; else what the rounds come to decides
-- between stopped, none within the ceiling and the first of the shortest accepting paths.
use mathlib.Core.Path.{◌≡◌, sym, ◌∙◌, ap, subst}
use Prim.Native.Nat.{ℕ, ◌≤◌}
use native.Mathlib.Omega.{arith}
use mathlib.Core.Option.{none}
use borrow.Author.Tests.{ltb-false}
use lib.ListN.{length}
use Rattle.lasso.specs.Graph.{Graph}
use Rattle.lasso.specs.Roll.{of_least}
use Rattle.lasso.specs.Rounds.{Record}
use Rattle.lasso.specs.Values.{record_of}
use Rattle.model.specs.Model.{graph_in}
use Rattle.outcomes.proofs.OutcomeLaws.{call_answer, at_length}
use Rattle.gate.proofs.GateLaws.{named_graph, valid_room}
use Rattle.begun.specs.Begun.{BegunSays}
use Rattle.begun.specs.declared.Begun.TheVariants as Begins
use Rattle.begun.proofs.BegunLaws.{begun_least}
use Rattle.outcomes.specs.Outcome.{answered}
use Rattle.search.specs.Search.{stopped, none_within, graph_asked, search_outcome, search_answer, AsksEnough}
use Rattle.search.proofs.SearchLaws.{SearchIs, search_stopped, search_none}
use Rattle.search.proofs.search_model.Goals as goal
use Rattle.search.proofs.search_model.Goals.{After-begin, In-Stopped, In-NoneWithin, In-Length}

-- the ceiling is not too high
not_high : (c : After-begin) → c.args.ask.ceiling.0 ≤ 4096
not_high c = ltb-false 4096 c.args.ask.ceiling.0 (sym c.ceiling_too_high.ensures ∙ c.if-ceiling_too_high.false)

-- the graph read by the header is the one that the search is about
asked_graph : (c : After-begin) → graph_in c.args.file.now c.args.h ≡ graph_asked c.args.file.now c.args.ask
asked_graph c = named_graph c.requires.valid.0 c.requires.valid.1

-- the rounds were stopped: what the search answers and writes
stops : (c : In-Stopped) → let a = c.args in SearchIs a.file.now a.ask (length a.answer.now) (length a.work.now) (answered (stopped (record_of c.in-Stopped.record))) none
stops c =
    let a = c.args in
    let begun = (goal.at.In-Stopped c).After-begin in
    let stop = subst (λ (g : Graph). BegunSays g a.ask.ceiling.0 a.ask.allowance (Begins.Stopped c.in-Stopped.record)) (asked_graph begun) c.in-Stopped.ensures.says in
    let is = search_stopped a.file.now c.requires.valid.0.accepted a.ask (length a.answer.now) (length a.work.now) (valid_room c.requires.valid.0 c.requires.states_in_bounds) (omega (arith, c.requires.valid.0.table_limit, c.requires.valid.1)) (not_high begun) stop.short in
    record { outcome_is = is.outcome_is ∙ ap (λ (r : Record). answered (stopped r)) (sym stop.record_is); list_is = is.list_is }

-- there is no list within the ceiling: what the search answers and writes
finds_none : (c : In-NoneWithin) → let a = c.args in SearchIs a.file.now a.ask (length a.answer.now) (length a.work.now) (answered (none_within c.in-NoneWithin.rounds)) none
finds_none c =
    let a = c.args in
    let begun = (goal.at.In-NoneWithin c).After-begin in
    let all = subst (λ (g : Graph). BegunSays g a.ask.ceiling.0 a.ask.allowance (Begins.NoneWithin c.in-NoneWithin.rounds)) (asked_graph begun) c.in-NoneWithin.ensures.says in
    let none_left = ap (of_least (graph_asked a.file.now a.ask)) all.least_is in
    let is = search_none a.file.now c.requires.valid.0.accepted a.ask (length a.answer.now) (length a.work.now) (valid_room c.requires.valid.0 c.requires.states_in_bounds) (omega (arith, c.requires.valid.0.table_limit, c.requires.valid.1)) (not_high begun) all.enough none_left in
    record { outcome_is = is.outcome_is ∙ ap (λ (n : ℕ). answered (none_within n)) (sym all.rounds_are); list_is = is.list_is }

-- a list is within the ceiling: the search asks enough for it
asks : (c : In-Length) → AsksEnough c.args.h.table c.in-Length.rounds c.in-Length.transitions.0 c.args.ask
asks c =
    let all = c.in-Length.ensures.says in
    record { named = sym c.requires.valid.1; allowed = omega (arith, all.rounds_are, all.enough); within = (begun_least all).1; not_high = not_high (goal.at.In-Length c).After-begin }

pub returns-in-Stopped-clause-outcome : goal.returns-in-Stopped-clause-outcome
returns-in-Stopped-clause-outcome c = sym (stops (goal.at.returns-in-Stopped-clause-outcome c).In-Stopped).outcome_is

pub returns-in-Stopped-clause-answer : goal.returns-in-Stopped-clause-answer
returns-in-Stopped-clause-answer c = sym (call_answer c.args.answer.now (stops (goal.at.returns-in-Stopped-clause-answer c).In-Stopped))

pub returns-in-NoneWithin-clause-outcome : goal.returns-in-NoneWithin-clause-outcome
returns-in-NoneWithin-clause-outcome c = sym (finds_none (goal.at.returns-in-NoneWithin-clause-outcome c).In-NoneWithin).outcome_is

pub returns-in-NoneWithin-clause-answer : goal.returns-in-NoneWithin-clause-answer
returns-in-NoneWithin-clause-answer c = sym (call_answer c.args.answer.now (finds_none (goal.at.returns-in-NoneWithin-clause-answer c).In-NoneWithin))

pub returns-in-Length-clause-outcome : goal.returns-in-Length-clause-outcome
returns-in-Length-clause-outcome c =
    at_length (λ n. search_outcome c.args.file.now c.args.ask (length c.args.answer.now) n)
    (c.first_list.ensures.outcome c.args.ask (asks (goal.at.returns-in-Length-clause-outcome c).In-Length)) c.in-Length.ensures.kept

pub returns-in-Length-clause-answer : goal.returns-in-Length-clause-answer
returns-in-Length-clause-answer c =
    at_length (λ n. search_answer c.args.file.now c.args.ask c.args.answer.now n)
    (c.first_list.ensures.answer c.args.ask (asks (goal.at.returns-in-Length-clause-answer c).In-Length)) c.in-Length.ensures.kept
