-- `may_follow` meets its contract: a look at region 1, at the last loop start, and then at a goal, by a search, or at a
-- table.
use Prim.Native.Nat.{ℕ, suc, ◌*◌, ◌-◌, ◌<◌}
use mathlib.Core.Path.{◌≡◌, refl, ◌∙◌, subst}
use native.Mathlib.Omega.{arith}
use borrow.Author.Tests.{eqb-true, eqb-false}
use Rattle.lists.proofs.Tests.{decides_iff}
use Rattle.frontier.specs.Regions.{entry}
use Rattle.model.specs.Model.{graph_in}
use Rattle.table.specs.Changes.{SameOutside}
use Rattle.table.proofs.Laws.{same_outside_refl}
use Rattle.current.specs.Current.{state_at}
use Rattle.follow.specs.Follow.{OnStem}
use Rattle.follow.proofs.FollowTests.{read_one}
use Rattle.follow.proofs.FollowTable.{Asked, asked_sizes, stem_follows}
use Rattle.goals.specs.Goals.{LastStart}
use Rattle.goal_tables.specs.Tables.{Tables}
use Rattle.passed.specs.Passed.{PassedAt}
use Rattle.tested.proofs.TestedLaws.{none_follows, ground_of, start_inside, place_says, last_says, passed_searched, passed_made}
use Rattle.tested.proofs.may_follow.Goals as goal
use Rattle.tested.proofs.may_follow.Goals.{Else-get-place, After-at_last, After-ensure_tables, After-get, Else-get-place, Else-place-number, Else-start-eq0, Start}

abbrev start : After-get → Start
start c = (goal.at.After-get c).Start

-- what is asked of the state
asked : (s : Start) → let a = s.args in Asked a.file.now a.h a.work.now a.transitions.0 a.place a.t
asked s = record { prepared = s.requires.prepared; within = s.requires.place_lt_transitions; path = s.requires.t }

-- what is known of the list
known : (s : Start) → let a = s.args in PassedAt a.file.now a.h a.work.now a.transitions.0 a.place a.passed.now
known s = s.requires.passed_at

-- the entry read is that of t
read : (c : After-get) → let a = (start c).args in c.get.result ≡ entry 1 a.h.states a.work.now a.t
read c =
    let a = (start c).args in
    c.get.ensures.value ∙ read_one a.h.states a.work.now a.t a.t refl

-- t is on no stem
no_stem : (c : Else-get-place) → let a = (start (goal.at.Else-get-place c).After-get).args in OnStem a.h.states a.work.now a.place a.t → ⊥
no_stem c = λ x. omega (arith, eqb-false, c.if-get-place.false, read (goal.at.Else-get-place c).After-get, x)

-- the function's entry, from where a loop start is passed
abbrev start_of : Else-start-eq0 → Start
start_of c = start (goal.at.Else-start-eq0 c).After-get

-- its place is b
start_is : (c : Else-start-eq0) → let a = (start_of c).args in a.passed.now.start ≡ suc (a.passed.now.start - 1)
start_is c = omega (arith, eqb-false, c.if-start-eq0.false)

-- a loop start is passed, at place b
last_start : (c : Else-start-eq0) → let a = (start_of c).args in LastStart (graph_in a.file.now a.h) a.transitions.0 (state_at a.h a.work.now) a.place (suc (a.passed.now.start - 1))
last_start c =
    let s = start_of c in
    let a = s.args in
    subst (λ (x : ℕ). LastStart (graph_in a.file.now a.h) a.transitions.0 (state_at a.h a.work.now) a.place x) (start_is c) (known s).start

-- from where the place is not the last
abbrev passed_of : Else-place-number → Else-start-eq0
passed_of c = (goal.at.Else-place-number c).Else-start-eq0

-- it is not the last
more : (c : Else-place-number) → let a = (start_of (passed_of c)).args in suc a.place < a.transitions.0
more c = omega (arith, eqb-false, c.if-place-number.false, c.number.ensures, (start_of (passed_of c)).requires.place_lt_transitions)

-- from where the tables are there
abbrev more_of : After-ensure_tables → Else-place-number
more_of c = (goal.at.After-ensure_tables c).Else-place-number

-- the tables
tables : (c : After-ensure_tables) → let a = (start_of (passed_of (more_of c))).args in Tables (graph_in a.file.now a.h) a.transitions.0 (state_at a.h a.work.now) (a.passed.now.start - 1) c.ensure_tables.new.work
tables c = c.ensure_tables.ensures.tables_2

-- regions 2 to 5 alone changed
same : (c : After-ensure_tables) → let a = (start_of (passed_of (more_of c))).args in SameOutside (2 * a.h.states) (6 * a.h.states) a.work.now c.ensure_tables.new.work
same c = c.ensure_tables.ensures.same

pub returns-then-get-place : goal.returns-then-get-place
returns-then-get-place c =
    let s = (goal.at.returns-then-get-place c).Start in
    record {
      decides = stem_follows (asked s) (omega (arith, eqb-true, c.if-get-place.true, read (goal.at.returns-then-get-place c).After-get));
      same = same_outside_refl _ _ _;
      passed = known s;
    }

pub returns-then-start-eq0 : goal.returns-then-start-eq0
returns-then-start-eq0 c =
    let s = (goal.at.returns-then-start-eq0 c).Start in
    record {
      decides = none_follows (asked s) (no_stem (goal.at.returns-then-start-eq0 c).Else-get-place) (λ k i x. omega (arith, eqb-true, c.if-start-eq0.true, (known s).start.last k i x));
      same = same_outside_refl _ _ _;
      passed = known s;
    }

pub at_last-requires : goal.at_last-requires
at_last-requires c =
    let e = (goal.at.at_last-requires c).Else-start-eq0 in
    let s = (goal.at.Else-start-eq0 e).Start in
    let sizes = asked_sizes (asked s) in
    let inside = start_inside (asked s) (last_start e) in record {
      states_in_bounds = omega arith;
      states_le_most_states = sizes.2.states_range.1;
      start_le_states = omega (arith, s.requires.place_lt_transitions);
      t_lt_states = s.requires.t_lt_states;
    }

pub returns-then-place-number : goal.returns-then-place-number
returns-then-place-number c =
    let t = c in
    let n = t in
    let s = (goal.at.After-at_last n).Start in
    let both = last_says (asked s) (last_start (goal.at.returns-then-place-number n).Else-start-eq0) (known s).mark (start_is (goal.at.returns-then-place-number n).Else-start-eq0) (omega (arith, eqb-true, t.if-place-number.true, n.number.ensures)) in
    record {
      decides = decides_iff both.0 both.1 c.at_last.result c.at_last.ensures;
      same = same_outside_refl _ _ _;
      passed = known s;
    }

pub may_close-requires : goal.may_close-requires
may_close-requires c =
    let e = (goal.at.may_close-requires c).Else-start-eq0 in
    let s = (goal.at.Else-start-eq0 e).Start in record {
      prepared = s.requires.prepared;
      place_lt_transitions = s.requires.place_lt_transitions;
      t_lt_states = s.requires.t_lt_states;
      t = s.requires.t;
      fact = no_stem (goal.at.Else-start-eq0 e).Else-get-place;
    }

pub returns-then-passed-lt-SEARCHES : goal.returns-then-passed-lt-SEARCHES
returns-then-passed-lt-SEARCHES c =
    let m = c in
    let s = (goal.at.returns-then-passed-lt-SEARCHES m).Start in
    record {
      decides = m.may_close.ensures.decides;
      same = m.may_close.ensures.same;
      passed = passed_searched (asked s) (known s) m.may_close.ensures.same _;
    }

pub ensure_tables-requires : goal.ensure_tables-requires
ensure_tables-requires c =
    let e = (goal.at.ensure_tables-requires c).Else-start-eq0 in
    let s = (goal.at.Else-start-eq0 e).Start in
    let last = last_start e in record {
      ground = ground_of (asked s) (s.args.passed.now.start - 1) (start_inside (asked s) last) (last.is (s.args.passed.now.start - 1) refl);
      tables = λ m. (known s).tables m (s.args.passed.now.start - 1) (start_is e);
    }

pub before_last-requires : goal.before_last-requires
before_last-requires c =
    let r = (goal.at.before_last-requires c).After-ensure_tables in
    let e = (goal.at.After-ensure_tables r).Else-start-eq0 in
    let s = (goal.at.Else-start-eq0 e).Start in
    let sizes = asked_sizes (asked s) in
    let inside = start_inside (asked s) (last_start e) in record {
      n_in_bounds = omega (arith, (same r).same_length);
      n_le_most_states = sizes.2.states_range.1;
      b_le_place = inside;
      place_lt_n = omega (arith, s.requires.place_lt_transitions);
      t_lt_n = s.requires.t_lt_states;
    }

pub returns : goal.returns
returns c =
    let r = (goal.at.returns c).After-ensure_tables in
    let e = (goal.at.After-ensure_tables r).Else-start-eq0 in
    let s = (goal.at.Else-start-eq0 e).Start in
    let both = place_says (asked s) (last_start e) (known s).mark (no_stem (goal.at.Else-start-eq0 e).Else-get-place) (more ((goal.at.After-ensure_tables r).Else-place-number)) (tables r) in
    record {
      decides = decides_iff both.0 both.1 c.before_last.result c.before_last.ensures;
      same = same r;
      passed = passed_made (asked s) (known s) (same r) (s.args.passed.now.start - 1) (start_is e) (tables r) _;
    }
