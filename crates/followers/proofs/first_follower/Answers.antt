use Prim.Native.Nat.{ℕ, ◌-◌, ◌<◌}
use mathlib.Core.Path.{◌≡◌, sym, ◌∙◌, ap}
use mathlib.Core.List.{List, [], ◌∷◌, ◌++◌}
use native.Mathlib.Omega.{arith}
use lib.ListN.{length, get_or}
use Rattle.lists.specs.Decides.{Decides}
use Rattle.lasso.specs.Extends.{Extends}
use Rattle.model.specs.Model.{graph_in}
use Rattle.table.proofs.Laws.{same_outside_trans}
use Rattle.current.specs.Current.{list_in}
use Rattle.follow.proofs.ExtendLaws.{extends_path}
use Rattle.follow.proofs.PlacesTable.{prepared_sizes}
use Rattle.followers.proofs.TriedLaws.{tried_more, tried_found, some_successor, tried_last}
use Rattle.followers.proofs.RowLaws.{StateRead, read_row, test_asks, as_before}
use Rattle.followers.proofs.first_follower.Goals as goal
use Rattle.followers.proofs.first_follower.Goals.{After-len-last, After-list_at-s, After-may_follow, After-target-t}

-- the last state of the list, once it was read
row : (c : After-list_at-s)
    → let a = c.args in StateRead a.file.now a.h a.work.now a.transitions.0 a.place c.list_at-s.result
row c =
    let p = c.requires in
    let a = c.args in
    let g = graph_in a.file.now a.h in
    read_row p.prepared p.place_lt_transitions (extends_path g a.transitions.0 (list_in g.start a.work.now a.place) p.extends) c.list_at-s.ensures

-- the number of the last state's successors
degree : (c : After-len-last)
    → c.len-last.result ≡ length ((graph_in c.args.file.now c.args.h).succs c.list_at-s.result)
degree c = c.len-last.ensures ∙ ap length c.successors_of-successors.ensures

-- the successor at k stands at place k of the row
successor_at : (c : After-target-t)
    → c.target-t.result ≡ get_or ((graph_in c.args.file.now c.args.h).succs c.list_at-s.result) c.loop-k.k 0
successor_at c = c.target-t.ensures ∙ ap (λ (ts : List ℕ). get_or ts c.loop-k.k 0) c.successors_of-successors.ensures

-- the successor at k is one of the row
within : (c : After-target-t) → c.loop-k.k < length ((graph_in c.args.file.now c.args.h).succs c.list_at-s.result)
within c = omega (arith, degree (goal.at.After-target-t c).After-len-last)

-- what the test of the successor answers
answer : (c : After-may_follow)
    → let a = c.args in
    Decides (Extends (graph_in a.file.now a.h) a.transitions.0 (list_in a.h.start a.work.now a.place ++ c.target-t.result ∷ [])) c.may_follow.result
answer c =
    let a = c.args in
    let g = graph_in a.file.now a.h in
    as_before (λ xs. Decides (Extends g a.transitions.0 (g.start ∷ xs ++ c.target-t.result ∷ [])) c.may_follow.result) (row (goal.at.After-may_follow c).After-list_at-s) c.loop-k.invariant.0.same c.may_follow.ensures.decides

pub list_at-s-requires : goal.list_at-s-requires
list_at-s-requires c = let p = c.requires in omega (arith, prepared_sizes p.prepared)

pub successors_of-successors-requires-clause-s_lt_states : goal.successors_of-successors-requires-clause-s_lt_states
successors_of-successors-requires-clause-s_lt_states c = (row c).state

pub overflow_sub-last : goal.overflow_sub-last
overflow_sub-last c = omega (arith, degree c, some_successor (row (goal.at.overflow_sub-last c).After-list_at-s) c.requires.extends)

pub may_follow-requires : goal.may_follow-requires
may_follow-requires c =
    let at = (goal.at.may_follow-requires c).After-target-t in
    let asks = test_asks _ (row (goal.at.may_follow-requires c).After-list_at-s) c.loop-k.invariant.0.same (within at) (successor_at at) in record {
      prepared = asks.0;
      place_lt_transitions = asks.1.0;
      t_lt_states = asks.1.1.0;
      t = asks.1.1.1;
      passed_at = c.loop-k.invariant.1;
    }

pub returns-then-may_follow : goal.returns-then-may_follow
returns-then-may_follow c =
    let test = (goal.at.returns-then-may_follow c).After-may_follow in
    let at = (goal.at.After-may_follow test).After-target-t in record {
      found = tried_found (row (goal.at.After-may_follow test).After-list_at-s) _ c.loop-k.invariant.0 (within at) (successor_at at) (omega arith) (rw c.if-may_follow.true at (answer test));
      same = same_outside_trans c.loop-k.invariant.0.same c.may_follow.ensures.same;
      passed = c.may_follow.ensures.passed;
    }

pub loop-k-preserved : goal.loop-k-preserved
loop-k-preserved c =
    let test = (goal.at.loop-k-preserved c).After-may_follow in (
      tried_more _ c.loop-k.invariant.0 c.may_follow.ensures.same (successor_at (goal.at.After-may_follow test).After-target-t) (λ b. rw c.if-may_follow.false at (answer test)),
      c.may_follow.ensures.passed,
    )

pub target-requires : goal.target-requires
target-requires c =
    omega (arith, c.len-last.ensures, degree (goal.at.target-requires c).After-len-last, some_successor (row (goal.at.target-requires c).After-list_at-s) c.requires.extends)

pub returns : goal.returns
returns c =
    let d = (goal.at.returns c).After-len-last in
    let read = row (goal.at.returns c).After-list_at-s in
    let last : c.loop-k.k ≡ c.len-last.result - 1 = omega arith in
    let at : c.target.result ≡ get_or ((graph_in c.args.file.now c.args.h).succs c.list_at-s.result) c.loop-k.k 0 =
    c.target.ensures ∙ ap (λ (ts : List ℕ). get_or ts (c.len-last.result - 1) 0) c.successors_of-successors.ensures
    ∙ ap (λ (k : ℕ). get_or ((graph_in c.args.file.now c.args.h).succs c.list_at-s.result) k 0) (sym last) in
    record {
      found = tried_last read _ c.loop-k.invariant.0 (omega (arith, degree d, some_successor read c.requires.extends)) at c.requires.extends;
      same = c.loop-k.invariant.0.same;
      passed = c.loop-k.invariant.1;
    }
