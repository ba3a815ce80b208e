-- `starts::start_loop` meets its contract: a state that is not reached, or not before the length, starts no loop;
-- for another one the search answers.
use Prim.Native.Nat.{suc, ◌+◌, ◌-◌, ◌≤◌}
use mathlib.Core.Option.{some}
use mathlib.Core.Path.{◌≡◌, ap, ◌∙◌}
use native.Mathlib.Omega.{arith}
use mathlib.Core.Logic.{inl, inr}
use borrow.Author.Tests.{eqb-true, eqb-false, ltb-true}
use Rattle.lasso.specs.Graph.{Graph}
use Rattle.lasso.specs.Distance.{dist}
use Rattle.model.specs.Model.{graph_in}
use Rattle.model.proofs.Laws.{valid_sizes, valid_well_formed}
use Rattle.table.proofs.Laws.{same_outside_refl}
use Rattle.frontier.specs.Regions.{entry_of}
use Rattle.lists.specs.Limit.{under}
use Rattle.walks.specs.Through.{loop_length}
use Rattle.starts.specs.LoopStarts.{start_loop}
use Rattle.starts.proofs.StartLaws.{start_loop_iff}
use Rattle.candidates.proofs.DistanceLaws.{start_entry}
use Rattle.starts.proofs.StartsEntries.{start_loop_unreached, start_loop_far, start_loop_reached}
use Rattle.starts.proofs.start_loop.Goals as goal
use Rattle.starts.proofs.start_loop.Goals.{After-get-reached, Else-most-reached, In-Length, Start}

abbrev start : After-get-reached → Start
start c = (goal.at.After-get-reached c).Start

abbrev graph : After-get-reached → Graph
graph c = graph_in (start c).args.file.now (start c).args.h

-- what was read is the entry of the distance from the initial state
the_distance_entry : (c : After-get-reached) → c.get-reached.result ≡ entry_of (dist (graph c) (graph c).start (start c).args.s)
the_distance_entry c =
    let s = start c in
    let size = (valid_sizes s.requires.rounds_ready.valid).states_are in
    c.get-reached.ensures.value ∙ start_entry s.requires.rounds_ready.start_distances s.args.s (omega arith)

-- the loop length is asked for within the rest of the length
loop_within_lem : (c : Else-most-reached) →
    let at = (goal.at.Else-most-reached c).After-get-reached in
    start_loop (graph at) (start at).args.transitions.0 (start at).args.s ≡ under (suc (c.number-most.result + 1 - at.get-reached.result)) (loop_length (graph at) (start at).args.s)
loop_within_lem c =
    let at = (goal.at.Else-most-reached c).After-get-reached in
    let reached : 1 ≤ at.get-reached.result = omega (arith, eqb-false) in
    rw c.number-most.ensures (start_loop_reached (graph at) (start at).args.transitions.0 (start at).args.s at.get-reached.result (the_distance_entry at) reached)

-- a length was found: it is the loop length, and it is at most 4,096
loop_found : (c : In-Length) →
    let at = (goal.at.In-Length c).After-get-reached in
    (start_loop (graph at) (start at).args.transitions.0 (start at).args.s ≡ some c.in-Length.transitions) × (c.in-Length.transitions ≤ 4096)
loop_found c =
    let e = c in
    let s = start (goal.at.In-Length e).After-get-reached in
    let within = loop_within_lem (goal.at.In-Length e).Else-most-reached ∙ (rw c.in-Length.is at e.loop_length-answer.ensures.answer) in
    let valid = s.requires.rounds_ready.valid in
    let bound = (start_loop_iff (valid_well_formed valid) s.args.transitions.0 s.args.s c.in-Length.transitions).0 within in
    (within, omega (arith, bound.3, (valid_sizes valid).states_range))

pub returns-then-reached-eq0 : goal.returns-then-reached-eq0
returns-then-reached-eq0 c =
    let at = (goal.at.returns-then-reached-eq0 c).After-get-reached in record {
      value = (
        elim c.then-reached-eq0.either [
          | inl none ↦ start_loop_unreached (graph at) c.args.transitions.0 c.args.s (omega (arith, eqb-true, none, the_distance_entry at))
          | inr (reached, far) ↦ start_loop_far (valid_well_formed at.requires.rounds_ready.valid) _ _ (the_distance_entry at) (omega (arith, ltb-true, far, c.number-most.ensures))
        ],
        omega arith,
      );
      same = same_outside_refl _ _ _;
    }

pub loop_length-answer-requires : goal.loop_length-answer-requires
loop_length-answer-requires c =
    let s = (goal.at.loop_length-answer-requires c).Start in
    let number = c.number-most.ensures in record {
      valid = s.requires.rounds_ready.valid;
      x_lt_states = omega arith;
      le_limit = omega arith;
      limit_le_states = omega arith;
      states_in_bounds = s.requires.rounds_ready.room;
    }

pub overflow_add-result : goal.overflow_add-result
overflow_add-result c = omega (arith, loop_found c)

pub returns-in-Length : goal.returns-in-Length
returns-in-Length c =
    let (within, low) = loop_found c in record {
      value = (omega (arith, ap entry_of within), omega arith);
      same = c.loop_length-answer.ensures.same;
    }

pub returns-in-Nothing : goal.returns-in-Nothing
returns-in-Nothing c =
    let e = c in
    let nothing = rw c.in-Nothing.is at e.loop_length-answer.ensures.answer in record {
      value = (omega (arith, ap entry_of (loop_within_lem (goal.at.returns-in-Nothing e).Else-most-reached ∙ nothing)), omega arith);
      same = e.loop_length-answer.ensures.same;
    }
