use mathlib.Core.Path.{◌≡◌, ◌∙◌, subst}
use mathlib.Core.Bool.{Bool, true, false}
use native.Mathlib.Omega.{arith}
use lib.ListN.{length}
use Rattle.cursor.specs.Cursor.{MovedTo}
use Rattle.sheet_lists.proofs.PrintLaws.{printed_answer_length, printing_first, listed_asks, closing_asks, printing_next, closed_last, closed_full, printing_closed}
use Rattle.sheet_lists.proofs.write_lists.Goals as goal
use Rattle.sheet_lists.proofs.write_lists.Goals.{After-to_first, After-to_next-more, After-write_current, At-loop-h, Start}

-- the function's start, and the places on the way to the following list
abbrev start : After-to_first → Start
start c = (goal.at.After-to_first c).Start

abbrev at_loop : After-write_current → At-loop-h
at_loop c = (goal.at.After-write_current c).At-loop-h

abbrev from : At-loop-h → Start
from c = start (goal.at.At-loop-h c).After-to_first

abbrev written_list : After-to_next-more → After-write_current
written_list c = (goal.at.After-to_next-more c).After-write_current

-- the tables and the text keep their lengths up to the following list
kept : (c : After-to_next-more) → length c.to_next-more.new.work ≡ length (from (at_loop (written_list c))).args.work.now
kept c =
    let l = at_loop (written_list c) in
    c.to_next-more.ensures.kept ∙ l.loop-h.invariant.work_length ∙ l.to_first.ensures.kept

kept_answer : (c : After-write_current) → length c.write_current.new.answer ≡ length (from (at_loop c)).args.answer.now
kept_answer c =
    let l = at_loop c in
    printed_answer_length l.loop-h.invariant c.write_current.ensures.line c.write_current.ensures.list (from l).requires.transitions_in_bounds

-- what the step to the following list says of the place reached
moved : (c : After-to_next-more) (more : Bool) → c.to_next-more.result ≡ more
    → let l = at_loop (written_list c) in
    let a = (from l).args in
    MovedTo a.file.now a.h a.transitions.0 l.loop-h.count c.to_next-more.new.work more
moved c more e =
    let l = at_loop (written_list c) in
    let a = (from l).args in
    subst (λ (b : Bool). MovedTo a.file.now a.h a.transitions.0 l.loop-h.count c.to_next-more.new.work b) e
    (c.to_next-more.ensures.moved l.loop-h.count l.loop-h.invariant.here)

pub loop-h-init : goal.loop-h-init
loop-h-init c =
    let s = (goal.at.loop-h-init c).Start in
    printing_first c.to_first.ensures.at (omega (arith, s.requires.lists_room_in_bounds))

pub write_current-requires : goal.write_current-requires
write_current-requires c =
    let s = (goal.at.write_current-requires c).Start in let r = listed_asks c.loop-h.invariant s.requires.transitions_in_bounds s.requires.lists_room_in_bounds in record {
      transitions_in_bounds = r.0;
      transitions_in_bounds_2 = r.1.0;
      start_bound = r.1.1.0;
      transitions_in_bounds_3 = r.1.1.1;
    }

pub overflow_add-count : goal.overflow_add-count
overflow_add-count c = omega (arith, c.loop-h.invariant.few)

pub to_next-more-requires : goal.to_next-more-requires
to_next-more-requires c = record { place = _; at = c.loop-h.invariant.here }

pub write_closing-requires : goal.write_closing-requires
write_closing-requires c =
    let printed = (goal.at.write_closing-requires c).After-write_current in
    let l = (goal.at.After-write_current printed).At-loop-h in
    closing_asks l.loop-h.invariant printed.write_current.ensures.line printed.write_current.ensures.list l.requires.lists_room_in_bounds false

pub shape_of-answer-then-not-more : goal.shape_of-answer-then-not-more
shape_of-answer-then-not-more c = kept_answer ((goal.at.shape_of-answer-then-not-more c).After-write_current)

pub shape_of-work-then-not-more : goal.shape_of-work-then-not-more
shape_of-work-then-not-more c = kept (goal.at.shape_of-work-then-not-more c).After-to_next-more

pub returns-then-not-more : goal.returns-then-not-more
returns-then-not-more c =
    let advanced = (goal.at.returns-then-not-more c).After-to_next-more in
    let printed = (goal.at.After-to_next-more advanced).After-write_current in
    let p = printed.loop-h.invariant in
    let closed = closed_last p (moved advanced false (c.if-not-more.true)) in
    let (text, answer) = printing_closed p printed.write_current.ensures.line printed.write_current.ensures.list closed c.write_closing.ensures in record {
      text = text;
      answer = answer;
      kept = kept advanced;
    }

pub write_closing-requires-then-count-eq-MOST_LISTS : goal.write_closing-requires-then-count-eq-MOST_LISTS
write_closing-requires-then-count-eq-MOST_LISTS c =
    let printed = (goal.at.write_closing-requires-then-count-eq-MOST_LISTS c).After-write_current in
    let l = (goal.at.After-write_current printed).At-loop-h in
    closing_asks l.loop-h.invariant printed.write_current.ensures.line printed.write_current.ensures.list l.requires.lists_room_in_bounds true

pub shape_of-answer-then-count-eq-MOST_LISTS : goal.shape_of-answer-then-count-eq-MOST_LISTS
shape_of-answer-then-count-eq-MOST_LISTS c = kept_answer ((goal.at.shape_of-answer-then-count-eq-MOST_LISTS c).After-write_current)

pub shape_of-work-then-count-eq-MOST_LISTS : goal.shape_of-work-then-count-eq-MOST_LISTS
shape_of-work-then-count-eq-MOST_LISTS c = kept (goal.at.shape_of-work-then-count-eq-MOST_LISTS c).After-to_next-more

pub returns-then-count-eq-MOST_LISTS : goal.returns-then-count-eq-MOST_LISTS
returns-then-count-eq-MOST_LISTS c =
    let advanced = (goal.at.returns-then-count-eq-MOST_LISTS c).After-to_next-more in
    let printed = (goal.at.After-to_next-more advanced).After-write_current in
    let p = printed.loop-h.invariant in
    let closed = closed_full p (moved advanced true (c.if-not-more.false)) (omega (arith, c.if-count-eq-MOST_LISTS.true)) in
    let (text, answer) = printing_closed p printed.write_current.ensures.line printed.write_current.ensures.list closed c.write_closing-then-count-eq-MOST_LISTS.ensures in record {
      text = text;
      answer = answer;
      kept = kept advanced;
    }

pub loop-h-preserved : goal.loop-h-preserved
loop-h-preserved c =
    let advanced = (goal.at.loop-h-preserved c).After-to_next-more in
    let printed = (goal.at.After-to_next-more advanced).After-write_current in
    let l = (goal.at.After-write_current printed).At-loop-h in
    printing_next l.loop-h.invariant printed.write_current.ensures.line printed.write_current.ensures.list l.requires.transitions_in_bounds
    (moved advanced true (c.if-not-more.false)) advanced.to_next-more.ensures.kept c.if-count-eq-MOST_LISTS.false
