-- `next_list` meets its contract: 13 if the earlier list is no lasso of the least length, never 14, no more if it
-- is the last of the roll; else 15 without room for the list that follows, or that list with its figures.
use Prim.Native.Nat.{◌≤◌}
use mathlib.Core.Path.{◌≡◌, refl, sym, ◌∙◌, subst}
use mathlib.Core.Bool.{true}
use mathlib.Core.List.{Memᴰ}
use mathlib.Core.Option.{some, none}
use native.Mathlib.Omega.{arith}
use lib.ListN.{length}
use lib.Seq.{length-take-le}
use Rattle.lasso.specs.Graph.{Graph}
use Rattle.lasso.specs.Roll.{roll}
use Rattle.lasso.specs.Following.{following}
use Rattle.model.specs.Model.{graph_in, graph_of}
use Rattle.model.proofs.Laws.{valid_graph, valid_sizes, valid_well_formed}
use Rattle.current.specs.Current.{list_in}
use Rattle.outcomes.proofs.OutcomeLaws.{call_answer}
use Rattle.gate.proofs.GateLaws.{valid_room}
use Rattle.cursor.proofs.TableLaws.{least_fits}
use Rattle.cursor.proofs.CursorLaws.{moved_none, moved_some}
use Rattle.next.specs.Next.{not_shortest}
use Rattle.next.proofs.NextLaws.{lasso_of_mem, not_shortest_lasso, next_not_shortest, next_no_more, next_no_room, following-written}
use Rattle.next.proofs.next_list.Goals as goal
use Rattle.next.proofs.next_list.Goals.{After-to_next, Else-not-is_lasso, Else-not-to_next}

-- the earlier list is in the roll
in_roll : (c : Else-not-is_lasso) → Memᴰ c.args.earlier.now (roll (graph_in c.args.file.now c.args.h))
in_roll c =
    let a = c.args in
    lasso_of_mem (graph_in a.file.now a.h) (valid_well_formed c.requires.rounds_ready.valid) a.transitions.0 c.requires.h_value a.earlier.now
    (sym c.is_lasso.ensures ∙ c.if-not-is_lasso.false)

-- the same of the file's graph
in_file_roll : (c : Else-not-is_lasso) → Memᴰ c.args.earlier.now (roll (graph_of c.args.file.now c.args.h.table))
in_file_roll c = subst (λ (g : Graph). Memᴰ c.args.earlier.now (roll g)) (valid_graph c.requires.rounds_ready.valid) (in_roll c)

-- the working table keeps its length
kept : (c : After-to_next) → length c.to_next.new.work ≡ length c.args.work.now
kept c = c.to_next.ensures.kept ∙ c.to_list.ensures.kept

-- the list that follows stands in region 0
follows : (c : Else-not-to_next)
    → let g = graph_of c.args.file.now c.args.h.table in
    following c.args.earlier.now (roll g) ≡ some (list_in g.start c.to_next.new.work c.args.transitions.0)
follows c =
    let a = c.args in
    let w = c.to_next.new.work in
    subst (λ (g : Graph). following a.earlier.now (roll g) ≡ some (list_in g.start w a.transitions.0)) (valid_graph c.requires.rounds_ready.valid)
    (moved_some w c.to_next.result c.to_list.ensures.at c.to_next.ensures.moved c.if-not-to_next.false)

-- a list of the least length fits the table
fits : (c : After-to_next) → c.args.transitions.0 ≤ length c.to_next.new.work
fits c = omega (arith, kept c, least_fits c.requires.rounds_ready c.args.transitions.0 c.requires.h_value, c.requires.rounds_ready.room)

pub returns-then-not-is_lasso : goal.returns-then-not-is_lasso
returns-then-not-is_lasso c =
    let a = c.args in
    let v = c.requires.rounds_ready.valid in
    let apart =
    subst (λ (g : Graph). not_shortest g a.earlier.now ≡ true) (valid_graph v)
    (not_shortest_lasso (graph_in a.file.now a.h) (valid_well_formed v) a.transitions.0 c.requires.h_value a.earlier.now (sym c.is_lasso.ensures ∙ c.if-not-is_lasso.true)) in
    let is = next_not_shortest a.file.now a.h.table v.accepted v.table_limit a.earlier.now (length a.answer.now) (length a.work.now) (valid_room v c.requires.rounds_ready.room) apart in record {
      outcome = sym is.outcome_is;
      answer = sym (call_answer a.answer.now is);
      kept = refl;
    }

pub returns-then-transitions-gt-LONGEST_PATH : goal.returns-then-transitions-gt-LONGEST_PATH
returns-then-transitions-gt-LONGEST_PATH c =
    absurd (omega (arith, least_fits c.requires.rounds_ready c.args.transitions.0 c.requires.h_value, c.if-transitions-gt-LONGEST_PATH.true))

pub to_list-requires-clause-fact : goal.to_list-requires-clause-fact
to_list-requires-clause-fact c = in_roll (goal.at.to_list-requires-clause-fact c).Else-not-is_lasso

pub returns-then-not-to_next : goal.returns-then-not-to_next
returns-then-not-to_next c =
    let a = c.args in
    let v = c.requires.rounds_ready.valid in
    let moved = (goal.at.returns-then-not-to_next c).After-to_next in
    let last =
    subst (λ (g : Graph). following a.earlier.now (roll g) ≡ none) (valid_graph v)
    (moved_none c.to_next.new.work c.to_next.result c.to_list.ensures.at c.to_next.ensures.moved c.if-not-to_next.true) in
    let is = next_no_more a.file.now a.h.table v.accepted v.table_limit a.earlier.now (length a.answer.now) (length a.work.now) (valid_room v c.requires.rounds_ready.room) (in_file_roll (goal.at.After-to_next moved).Else-not-is_lasso) last in record {
      outcome = sym is.outcome_is;
      answer = sym (call_answer a.answer.now is);
      kept = kept moved;
    }

pub returns-then-answer-entries : goal.returns-then-answer-entries
returns-then-answer-entries c =
    let a = c.args in
    let v = c.requires.rounds_ready.valid in
    let more = (goal.at.returns-then-answer-entries c).Else-not-to_next in
    let moved = (goal.at.Else-not-to_next more).After-to_next in
    let long = length-take-le a.transitions.0 c.to_next.new.work (fits moved) in
    let is = next_no_room a.file.now a.h.table v.accepted v.table_limit a.earlier.now (length a.answer.now) (length a.work.now) (valid_room v c.requires.rounds_ready.room) (in_file_roll (goal.at.After-to_next moved).Else-not-is_lasso) _ (follows more) (omega (arith, long, c.entries.ensures, c.if-answer-entries.true)) in record {
      outcome = sym is.outcome_is;
      answer = sym (call_answer a.answer.now is);
      kept = kept moved;
    }

pub write_list-k-requires-clause-transitions_in_bounds : goal.write_list-k-requires-clause-transitions_in_bounds
write_list-k-requires-clause-transitions_in_bounds c = fits (goal.at.write_list-k-requires-clause-transitions_in_bounds c).After-to_next

pub returns : goal.returns
returns c =
    let a = c.args in
    let v = c.requires.rounds_ready.valid in
    let more = (goal.at.returns c).Else-not-to_next in
    let moved = (goal.at.Else-not-to_next more).After-to_next in
    let is =
    following-written a.file.now a.h.table v.accepted v.table_limit (length a.work.now) (valid_room v c.requires.rounds_ready.room) a.earlier.now a.answer.now _ _ a.h.start a.transitions.0 c.write_list-k.result
    (in_file_roll (goal.at.After-to_next moved).Else-not-is_lasso) (valid_sizes v).start_is (fits moved) (follows more) (omega (arith, c.entries.ensures, c.if-answer-entries.false))
    c.write_list-k.ensures.start.0 c.write_list-k.ensures.list in record {
      outcome = is.0;
      answer = is.1;
      kept = kept moved;
    }
