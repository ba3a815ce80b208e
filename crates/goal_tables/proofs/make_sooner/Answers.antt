-- `make_sooner` meets its contract: step by step.
use Prim.Native.Nat.{ℕ, ◌+◌, ◌*◌, ◌-◌}
use mathlib.Core.Path.{◌≡◌, ◌∙◌, ap, subst}
use mathlib.Core.List.{List}
use lib.ListN.{get_or, set}
use native.Mathlib.Omega.{arith}
use Rattle.model.specs.Model.{graph_in}
use Rattle.frontier.specs.Regions.{entry}
use Rattle.current.specs.Current.{state_at}
use Rattle.walks.specs.Through.{DistancesWithin}
use Rattle.ends.specs.Ends.{ClosingPut}
use Rattle.goal_tables.proofs.TableLaws.{ground_sizes, sooner_queue, sooner_done}
use Rattle.goal_tables.proofs.make_sooner.Goals as goal
use Rattle.goal_tables.proofs.make_sooner.Goals.{After-distances_from-count, After-flag_closing, After-flag_closing-arg-1, After-flag_marked, After-keep_ways-arg-1, After-number, After-put, After-slice_known-6-1, Start}

-- the function's entry, from where the length's number is known
abbrev start : After-number → Start
start c = (goal.at.After-number c).Start

abbrev number_of : After-distances_from-count → After-number
number_of c = (goal.at.After-distances_from-count c).After-number

-- the distances from the loop start
away : (c : After-distances_from-count) → let a = (start (number_of c)).args in
    DistancesWithin (graph_in a.file.now a.h) (state_at a.h a.work.now a.b) (a.transitions.0 - a.b) a.work.now c.distances_from-count.new.work c.distances_from-count.result
away c =
    let n = number_of c in
    let a = (start n).args in
    let g = graph_in a.file.now a.h in
    subst (λ (y : ℕ). DistancesWithin g y (a.transitions.0 - a.b) a.work.now c.distances_from-count.new.work c.distances_from-count.result) n.list_at-x.ensures
    (subst (λ (k : ℕ). DistancesWithin g n.list_at-x.result (k - a.b) a.work.now c.distances_from-count.new.work c.distances_from-count.result) n.number.ensures c.distances_from-count.ensures)

-- the table with the entry put back
abbrev away_of : After-put → After-distances_from-count
away_of c = (goal.at.After-put c).After-distances_from-count

put_is : (c : After-put) → let d = away_of c in let a = (start (number_of d)).args in
    c.put.new.table ≡ set d.distances_from-count.new.work (5 * a.h.states + state_at a.h a.work.now a.b) (entry 5 a.h.states a.work.now (state_at a.h a.work.now a.b))
put_is c =
    let d = away_of c in
    let n = number_of d in
    let a = (start n).args in
    let w₁ : List ℕ = d.distances_from-count.new.work in
    let r : ℕ = n.list_at-x.result in
    c.put.ensures
    ∙ ap (λ (v : ℕ). set w₁ (5 * a.h.states + r) v) d.get-own.ensures.value
    ∙ ap (λ (y : ℕ). set w₁ (5 * a.h.states + y) (get_or a.work.now (5 * a.h.states + y) 0)) n.list_at-x.ensures

-- the flags
abbrev put_of : After-flag_closing → After-put
put_of c = (goal.at.After-flag_closing c).After-put

flags : (c : After-flag_closing) → let d = away_of (put_of c) in let a = (start (number_of d)).args in
    ClosingPut (graph_in a.file.now a.h) a.h.states a.h.start (a.transitions.0 - a.b - 1) a.mark a.h.states
    (set d.distances_from-count.new.work (5 * a.h.states + state_at a.h a.work.now a.b) (entry 5 a.h.states a.work.now (state_at a.h a.work.now a.b))) c.flag_closing.new.work
flags c =
    let p = put_of c in
    let n = number_of (away_of p) in
    let a = (start n).args in
    let g = graph_in a.file.now a.h in
    subst (λ (u : List ℕ). ClosingPut g a.h.states a.h.start (a.transitions.0 - a.b - 1) a.mark a.h.states u c.flag_closing.new.work) (put_is p)
    (subst (λ (k : ℕ). ClosingPut g a.h.states a.h.start (k - a.b - 1) a.mark a.h.states p.put.new.table c.flag_closing.new.work) n.number.ensures c.flag_closing.ensures)

abbrev flags_of : After-flag_marked → After-flag_closing
flags_of c = (goal.at.After-flag_marked c).After-flag_closing

pub list_at-x-requires : goal.list_at-x-requires
list_at-x-requires c = omega (arith, ground_sizes c.requires.ground)

pub overflow_sub-left : goal.overflow_sub-left
overflow_sub-left c = omega (arith, c.number.ensures, ground_sizes c.requires.ground)

pub overflow_add-n : goal.overflow_add-n
overflow_add-n c = omega (arith, ground_sizes c.requires.ground, c.list_at-x.ensures)

pub get-own-requires : goal.get-own-requires
get-own-requires c = omega (arith, ground_sizes c.requires.ground, c.list_at-x.ensures)

pub distances_from-count-requires : goal.distances_from-count-requires
distances_from-count-requires c =
    let n = c in
    let sizes = ground_sizes n.requires.ground in
    let number = n.number.ensures in record {
      valid = n.requires.ground.prepared.valid;
      x_lt_states = omega (arith, n.list_at-x.ensures);
      le_limit = omega arith;
      limit_le_states = omega arith;
      states_in_bounds = n.requires.ground.prepared.room;
    }

pub overflow_add-n-2 : goal.overflow_add-n-2
overflow_add-n-2 c =
    let n = (goal.at.overflow_add-n-2 c).After-number in
    omega (arith, ground_sizes n.requires.ground, n.list_at-x.ensures)

pub put-requires : goal.put-requires
put-requires c =
    let d = (goal.at.put-requires c).After-distances_from-count in
    let n = (goal.at.After-distances_from-count d).After-number in record {
      at_in_bounds = omega (arith, ground_sizes n.requires.ground, n.list_at-x.ensures, (away d).outside.same_length);
      value_bound = d.get-own.ensures.small;
    }

pub overflow_sub-left-2 : goal.overflow_sub-left-2
overflow_sub-left-2 c =
    let n = (goal.at.overflow_sub-left-2 c).After-number in
    omega (arith, n.number.ensures, ground_sizes n.requires.ground)

pub flag_closing-requires : goal.flag_closing-requires
flag_closing-requires c =
    let p = c in
    let d = (goal.at.After-flag_closing-arg-1 p).After-distances_from-count in
    let s = (goal.at.After-distances_from-count d).Start in
    let sizes = ground_sizes s.requires.ground in record {
      valid = s.requires.ground.prepared.valid;
      states_in_bounds = omega (arith, (away d).outside.same_length);
      level_le_states = omega (arith, d.number.ensures);
      bound_le_states = omega (arith, s.requires.last_mark.low);
    }

pub keep_ways-requires : goal.keep_ways-requires
keep_ways-requires c =
    let m = c in
    let f = (goal.at.After-keep_ways-arg-1 m).After-flag_closing in
    let d = (goal.at.After-flag_closing f).After-distances_from-count in
    let s = (goal.at.After-distances_from-count d).Start in
    let q = sooner_queue s.requires.ground s.requires.last_mark s.requires.later_table (away d) (flags f) m.flag_marked.ensures in record {
      valid = s.requires.ground.prepared.valid;
      states_in_bounds = omega arith;
      queue = q;
    }

pub returns : goal.returns
returns c =
    let k = c in
    let m = k in
    let f = (goal.at.After-slice_known-6-1 m).After-flag_closing in
    let d = (goal.at.After-flag_closing f).After-distances_from-count in
    let s = (goal.at.After-distances_from-count d).Start in
    sooner_done s.requires.ground s.requires.last_mark s.requires.later_table (away d) (flags f) m.flag_marked.ensures k.keep_ways.ensures
