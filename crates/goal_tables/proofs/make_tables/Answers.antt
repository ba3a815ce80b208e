-- `make_tables` meets its contract: if the loop start is marked the first table is the second too, else both are made.
use mathlib.Core.Path.{sym}
use native.Mathlib.Omega.{arith}
use borrow.Author.Tests.{eqb-true}
use Rattle.model.specs.Model.{graph_in}
use Rattle.table.proofs.Laws.{same_outside_trans}
use Rattle.current.specs.Current.{state_at}
use Rattle.goal_tables.proofs.TableLaws.{ground_sizes, ground_states, ground_agree, ground_kept, marked_done}
use Rattle.goal_tables.proofs.AgreeLaws.{mark_agree, later_for, sooner_for}
use Rattle.goal_tables.proofs.make_tables.Goals as goal
use Rattle.goal_tables.proofs.make_tables.Goals.{After-last_mark-mark, After-make_later, After-make_sooner-arg-1, After-slice_known-3-1, Start, Then-mark-b}

-- the function's entry, from where the last mark is known
abbrev start : After-last_mark-mark → Start
start c = (goal.at.After-last_mark-mark c).Start

abbrev mark_of : After-make_later → After-last_mark-mark
mark_of c = (goal.at.After-make_later c).After-last_mark-mark

pub last_mark-mark-requires : goal.last_mark-mark-requires
last_mark-mark-requires c =
    let o = c.requires in
    let sizes = ground_sizes o in record {
      valid = o.prepared.valid;
      states_in_bounds = omega arith;
      place_le_states = omega arith;
      states_to = ground_states o;
    }

pub overflow_add-b : goal.overflow_add-b
overflow_add-b c = omega (arith, ground_sizes c.requires)

pub returns-then-mark-b : goal.returns-then-mark-b
returns-then-mark-b c =
    let l = c in
    let m = (goal.at.Then-mark-b l).After-last_mark-mark in
    let s = (goal.at.After-last_mark-mark m).Start in
    let made = l.make_later.ensures in record {
      tables = record {
        mark = m.last_mark-mark.result;
        last = m.last_mark-mark.ensures;
        later = made.table;
        sooner = marked_done s.requires m.last_mark-mark.ensures (omega (arith, eqb-true, c.if-mark-b.true)) made;
      };
      same = made.outside;
    }

pub make_sooner-requires : goal.make_sooner-requires
make_sooner-requires c =
    let l = c in
    let m = (goal.at.After-make_sooner-arg-1 l).After-last_mark-mark in
    let s = (goal.at.After-last_mark-mark m).Start in
    let made = l.make_later.ensures in
    let agree = ground_agree s.requires made.outside in record {
      ground = ground_kept s.requires made.outside;
      last_mark = mark_agree (graph_in s.args.file.now s.args.h) (state_at s.args.h s.args.work.now) (state_at s.args.h l.make_later.new.work) agree m.last_mark-mark.ensures;
      later_table = later_for agree made.table;
    }

pub returns : goal.returns
returns c =
    let k = c in
    let l = k in
    let m = (goal.at.After-slice_known-3-1 l).After-last_mark-mark in
    let s = (goal.at.After-last_mark-mark m).Start in
    let made = l.make_later.ensures in
    let then = k.make_sooner.ensures in
    let agree = ground_agree s.requires made.outside in record {
      tables = record {
        mark = m.last_mark-mark.result;
        last = m.last_mark-mark.ensures;
        later = later_for (λ i h. sym (agree i h)) then.later;
        sooner = sooner_for (λ i h. sym (agree i h)) m.last_mark-mark.ensures.low then.sooner;
      };
      same = same_outside_trans made.outside then.outside;
    }
