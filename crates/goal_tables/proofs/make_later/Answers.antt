-- `make_later` meets its contract: step by step.
use Prim.Native.Nat.{ℕ, ◌+◌, ◌-◌}
use mathlib.Core.Path.{subst}
use native.Mathlib.Omega.{arith}
use Rattle.model.specs.Model.{graph_in}
use Rattle.current.specs.Current.{state_at}
use Rattle.ends.specs.Ends.{ClosingPut}
use Rattle.goal_tables.specs.Tables.{LevelsVia}
use Rattle.goal_tables.proofs.TableLaws.{ground_sizes, later_queue, later_done}
use Rattle.goal_tables.proofs.make_later.Goals as goal
use Rattle.goal_tables.proofs.make_later.Goals.{After-flag_closing, After-later_levels-count, After-number, Start}

-- the function's entry, from where the length's number is known
abbrev start : After-number → Start
start c = (goal.at.After-number c).Start

-- the levels
abbrev number_of : After-later_levels-count → After-number
number_of c = (goal.at.After-later_levels-count c).After-number

levels : (c : After-later_levels-count) → let a = (start (number_of c)).args in
    LevelsVia (graph_in a.file.now a.h) (state_at a.h a.work.now a.b) (a.transitions.0 - a.b) a.work.now c.later_levels-count.new.work c.later_levels-count.result
levels c =
    let n = number_of c in
    let a = (start n).args in
    let g = graph_in a.file.now a.h in
    subst (λ (y : ℕ). LevelsVia g y (a.transitions.0 - a.b) a.work.now c.later_levels-count.new.work c.later_levels-count.result) n.list_at-x.ensures
    (subst (λ (k : ℕ). LevelsVia g n.list_at-x.result (k - a.b) a.work.now c.later_levels-count.new.work c.later_levels-count.result) n.number.ensures c.later_levels-count.ensures)

-- the flags
abbrev levels_of : After-flag_closing → After-later_levels-count
levels_of c = (goal.at.After-flag_closing c).After-later_levels-count

flags : (c : After-flag_closing) → let a = (start (number_of (levels_of c))).args in
    ClosingPut (graph_in a.file.now a.h) a.h.states a.h.start (a.transitions.0 - a.b - 1) (a.b + 1) a.h.states (levels_of c).later_levels-count.new.work c.flag_closing.new.work
flags c =
    let n = number_of (levels_of c) in
    let a = (start n).args in
    subst (λ (k : ℕ). ClosingPut (graph_in a.file.now a.h) a.h.states a.h.start (k - a.b - 1) (a.b + 1) a.h.states (levels_of c).later_levels-count.new.work c.flag_closing.new.work) n.number.ensures c.flag_closing.ensures

pub list_at-x-requires : goal.list_at-x-requires
list_at-x-requires c = omega (arith, ground_sizes c.requires)

pub overflow_sub-left : goal.overflow_sub-left
overflow_sub-left c = omega (arith, c.number.ensures, ground_sizes c.requires)

pub later_levels-count-requires : goal.later_levels-count-requires
later_levels-count-requires c =
    let n = c in
    let sizes = ground_sizes n.requires in
    let number = n.number.ensures in record {
      valid = n.requires.prepared.valid;
      x_lt_states = omega (arith, n.list_at-x.ensures);
      le_limit = omega arith;
      limit_le_states = omega arith;
      states_in_bounds = n.requires.prepared.room;
    }

pub overflow_sub-left-2 : goal.overflow_sub-left-2
overflow_sub-left-2 c =
    let n = (goal.at.overflow_sub-left-2 c).After-number in
    omega (arith, n.number.ensures, ground_sizes n.requires)

pub overflow_add-b : goal.overflow_add-b
overflow_add-b c = omega (arith, ground_sizes c.requires)

pub flag_closing-requires : goal.flag_closing-requires
flag_closing-requires c =
    let l = (goal.at.flag_closing-requires c).After-later_levels-count in
    let s = (goal.at.After-later_levels-count l).Start in
    let sizes = ground_sizes s.requires in record {
      valid = s.requires.prepared.valid;
      states_in_bounds = omega (arith, (levels l).outside.same_length);
      level_le_states = omega (arith, l.number.ensures);
      bound_le_states = omega arith;
    }

pub keep_ways-requires : goal.keep_ways-requires
keep_ways-requires c =
    let f = (goal.at.keep_ways-requires c).After-flag_closing in
    let l = (goal.at.After-flag_closing f).After-later_levels-count in
    let s = (goal.at.After-later_levels-count l).Start in record {
      valid = s.requires.prepared.valid;
      states_in_bounds = omega (arith, s.requires.prepared.room, (levels l).outside.same_length, (flags f).outside.same_length);
      queue = later_queue s.requires (levels l) (flags f);
    }

pub returns : goal.returns
returns c =
    let p = c in
    let k = p in
    let f = (goal.at.returns k).After-flag_closing in
    let l = (goal.at.After-flag_closing f).After-later_levels-count in
    let s = (goal.at.After-later_levels-count l).Start in
    later_done s.requires (levels l) (flags f) k.keep_ways.ensures p.copy.ensures
