-- `closing::may_close` meets its contract. The search from t decides whether a mark is passed with the loop start, and the search on
-- from the marked states the rest.
use Prim.Native.Nat.{ℕ, ◌+◌, ◌*◌, ◌-◌, ◌≤◌, ◌<◌}
use mathlib.Core.List.{List}
use native.Mathlib.Omega.{arith}
use lib.ListN.{length}
use Rattle.model.specs.Model.{graph_in}
use Rattle.table.specs.Changes.{SameOutside}
use Rattle.walks.specs.Through.{DistancesWithin}
use Rattle.follow.specs.Follow.{StatesTo, OnStem, ClosesMarked}
use Rattle.follow.proofs.FollowTable.{Asked, asked_sizes, asked_states, asked_same, marked_follows, far_not_follows, searched_outside, via_decides}
use Rattle.tested.proofs.closing.may_close.Goals as goal
use Rattle.tested.proofs.closing.may_close.Goals.{After-distances_from, After-from_marks, After-number, Else-closes_marked, Start}

-- what is asked of the state, by the length's number
asked : (c : After-number) → let a = c.args in Asked a.file.now a.h a.work.now c.number.result a.place a.t
asked c =
    let s = c in
    record { prepared = rw c.number.ensures s.requires.prepared; within = omega (arith, c.number.ensures, s.requires.place_lt_transitions); path = s.requires.t }

-- the length's number and the function's entry, from the place after the first search
abbrev measured : After-distances_from → After-number
measured c = (goal.at.After-distances_from c).After-number

abbrev entered : After-distances_from → Start
entered c = (goal.at.After-number (measured c)).Start

-- the state is on no stem
no_stem : (s : Start) → let a = s.args in OnStem a.h.states a.work.now a.place a.t → ⊥
no_stem s = s.requires.fact

-- the table after the first search
abbrev searched : After-distances_from → List ℕ
searched c = c.distances_from.new.work

-- the first search leaves the distances from the state
distances_left : (c : After-distances_from) → let a = (entered c).args in
    DistancesWithin (graph_in a.file.now a.h) a.t ((measured c).number.result - (a.place + 1) + 1) a.work.now (searched c) c.distances_from.result
distances_left c = c.distances_from.ensures

-- it changes regions 2 to 5 only
kept : (c : After-distances_from) → let a = (entered c).args in
    SameOutside (2 * a.h.states) (6 * a.h.states) a.work.now (searched c)
kept c = asked_same (asked (measured c)) (searched c) (distances_left c).outside

-- what the tests ask of the table after the first search
room : (c : After-distances_from) → let a = (entered c).args in
    (3 * a.h.states ≤ length (searched c)) × (a.place < a.h.states) × ((measured c).number.result - (a.place + 1) ≤ a.h.states)
room c = omega (arith, asked_sizes (asked (measured c)), (asked (measured c)).within, (kept c).same_length)

-- the states of the list are states
states : (c : After-distances_from) → let a = (entered c).args in
    StatesTo a.h (searched c) a.place
states c = asked_states (asked (measured c)) (searched c) (distances_left c).outside

-- the place after the first search, from the place where a mark passed is ruled out
abbrev no_mark_at : Else-closes_marked → After-distances_from
no_mark_at c = (goal.at.Else-closes_marked c).After-distances_from

-- no loop start is passed with a mark
no_mark : (c : Else-closes_marked) → let a = (entered (no_mark_at c)).args in
    ClosesMarked (graph_in a.file.now a.h) a.h.states a.h.start (searched (no_mark_at c)) a.place ((measured (no_mark_at c)).number.result - (a.place + 1)) → ⊥
no_mark c = rw c.if-closes_marked.false at c.closes_marked.ensures

-- the place after the first search, from the place after the second
abbrev second_at : After-from_marks → After-distances_from
second_at c = no_mark_at (goal.at.After-from_marks c).Else-closes_marked

-- the table after the second search
abbrev searched_on : After-from_marks → List ℕ
searched_on c = c.from_marks.new.work

-- both searches change regions 2 to 5 only
outside_on : (c : After-from_marks) → let a = (entered (second_at c)).args in
    SameOutside (2 * (graph_in a.file.now a.h).size) (6 * (graph_in a.file.now a.h).size) a.work.now (searched_on c)
outside_on c =
    let at = second_at c in
    searched_outside (asked (measured at)) (searched at) (distances_left at) (searched_on c) c.from_marks.result c.from_marks.ensures

-- both searches change regions 2 to 5 only, by the header's number of states
kept_on : (c : After-from_marks) → let a = (entered (second_at c)).args in
    SameOutside (2 * a.h.states) (6 * a.h.states) a.work.now (searched_on c)
kept_on c = asked_same (asked (measured (second_at c))) (searched_on c) (outside_on c)

pub distances_from-requires : goal.distances_from-requires
distances_from-requires c =
    let s = c in
    let S = asked_sizes (asked (goal.at.distances_from-requires c).After-number) in record {
      valid = s.requires.prepared.valid;
      x_lt_states = s.requires.t_lt_states;
      le_limit = omega arith;
      limit_le_states = omega arith;
      states_in_bounds = S.1;
    }

pub closes_marked-requires : goal.closes_marked-requires
closes_marked-requires c =
    let at = (goal.at.closes_marked-requires c).After-distances_from in record {
      valid = at.requires.prepared.valid;
      states_in_bounds = (room at).0;
      place_lt_states = (room at).1;
      left_le_states = (room at).2;
      states_to = states at;
    }

pub returns-then-closes_marked : goal.returns-then-closes_marked
returns-then-closes_marked c =
    let at = (goal.at.returns-then-closes_marked c).After-distances_from in record {
      decides = rw at.number.ensures at (marked_follows (asked ((goal.at.After-distances_from at).After-number)) (searched at) (distances_left at) (rw c.if-closes_marked.true at c.closes_marked.ensures));
      same = kept at;
    }

pub closes_start-requires : goal.closes_start-requires
closes_start-requires c =
    let at = (goal.at.closes_start-requires c).After-distances_from in record {
      states_in_bounds = (room at).0;
      place_lt_states = (room at).1;
      left_le_states = (room at).2;
      states_to = states at;
    }

pub returns-then-not-closes_start : goal.returns-then-not-closes_start
returns-then-not-closes_start c =
    let else = (goal.at.returns-then-not-closes_start c).Else-closes_marked in
    let at = (goal.at.Else-closes_marked else).After-distances_from in record {
      decides = rw at.number.ensures at (far_not_follows (asked ((goal.at.After-distances_from at).After-number)) (searched at) (distances_left at) (no_stem ((goal.at.After-distances_from at).Start)) (no_mark else) (rw (c.if-not-closes_start.true) at c.closes_start.ensures));
      same = kept at;
    }

pub from_marks-requires : goal.from_marks-requires
from_marks-requires c =
    let at = (goal.at.from_marks-requires c).After-distances_from in record {
      valid = at.requires.prepared.valid;
      limit_le_states = omega (arith, asked_sizes (asked ((goal.at.After-distances_from at).After-number)));
      states_in_bounds = omega (arith, (kept at).same_length, asked_sizes (asked ((goal.at.After-distances_from at).After-number)));
    }

pub closes_start-requires-2 : goal.closes_start-requires-2
closes_start-requires-2 c =
    let second = (goal.at.closes_start-requires-2 c).After-from_marks in
    let at = (goal.at.After-from_marks second).After-distances_from in record {
      states_in_bounds = omega (arith, room at, (kept at).same_length, (kept_on second).same_length);
      place_lt_states = (room at).1;
      left_le_states = (room at).2;
      states_to = asked_states (asked ((goal.at.After-distances_from at).After-number)) (searched_on second) (outside_on second);
    }

pub returns : goal.returns
returns c =
    let second = (goal.at.returns c).After-from_marks in
    let at = (goal.at.After-from_marks second).After-distances_from in
    let else = (goal.at.After-from_marks second).Else-closes_marked in record {
      decides = rw at.number.ensures at (via_decides (asked ((goal.at.After-distances_from at).After-number)) (searched at) (distances_left at) (no_stem ((goal.at.After-distances_from at).Start)) (no_mark else) (searched_on second) second.from_marks.result second.from_marks.ensures c.closes_start-2.result c.closes_start-2.ensures);
      same = kept_on second;
    }
