use Prim.Native.Nat.{ℕ, ◌≤◌, ◌<◌}
use mathlib.Core.Path.{◌≡◌, ◌∙◌, ap}
use mathlib.Core.List.{List, [], ◌∷◌, ◌++◌}
use native.Mathlib.Omega.{arith}
use lib.ListN.{length, get_or}
use Rattle.lists.specs.Decides.{Decides}
use Rattle.lasso.specs.Extends.{Extends}
use Rattle.model.specs.Model.{graph_in}
use Rattle.table.proofs.Laws.{same_outside_trans}
use Rattle.current.specs.Current.{list_in}
use Rattle.follow.proofs.PlacesTable.{prepared_sizes, states_to}
use Rattle.followers.proofs.TriedLaws.{tried_more, tried_found, tried_all}
use Rattle.followers.proofs.RowLaws.{StateRead, read_row, test_asks, as_before}
use Rattle.followers.proofs.least_follower.Goals as goal
use Rattle.followers.proofs.least_follower.Goals.{After-len-k-end, After-list_at-s, After-target-t, After-try_next}

-- the last state of the list, once it was read
row : (c : After-list_at-s)
    → let a = c.args in StateRead a.file.now a.h a.work.now a.transitions.0 a.place c.list_at-s.result
row c = let p = c.requires in read_row p.prepared p.place_lt_transitions p.t c.list_at-s.ensures

-- the number of its successors
degree : (c : After-len-k-end)
    → c.len-k-end.result ≡ length ((graph_in c.args.file.now c.args.h).succs c.list_at-s.result)
degree c = c.len-k-end.ensures ∙ ap length c.successors_of-successors.ensures

-- the successor at k stands at place k of the row
successor_at : (c : After-target-t)
    → c.target-t.result ≡ get_or ((graph_in c.args.file.now c.args.h).succs c.list_at-s.result) c.loop-k.k 0
successor_at c = c.target-t.ensures ∙ ap (λ (ts : List ℕ). get_or ts c.loop-k.k 0) c.successors_of-successors.ensures

-- the successor at k is one of the row
within : (c : After-target-t) → c.loop-k.k < length ((graph_in c.args.file.now c.args.h).succs c.list_at-s.result)
within c = omega (arith, c.loop-k-test.true, degree (goal.at.After-target-t c).After-len-k-end)

-- what the test of the successor answers
answer : (c : After-try_next)
    → let a = c.args in
    Decides ((a.bound ≤ c.target-t.result) × Extends (graph_in a.file.now a.h) a.transitions.0 (list_in a.h.start a.work.now a.place ++ c.target-t.result ∷ [])) c.try_next.result
answer c =
    let a = c.args in
    let g = graph_in a.file.now a.h in
    as_before (λ xs. Decides ((a.bound ≤ c.target-t.result) × Extends g a.transitions.0 (g.start ∷ xs ++ c.target-t.result ∷ [])) c.try_next.result) (row (goal.at.After-try_next c).After-list_at-s) c.loop-k.invariant.0.same c.try_next.ensures.decides

pub retreat-requires-clause-states_to : goal.retreat-requires-clause-states_to
retreat-requires-clause-states_to c =
    let p = c.requires in
    states_to c.args.place p.prepared (omega (arith, p.place_lt_transitions)) p.t

pub list_at-s-requires : goal.list_at-s-requires
list_at-s-requires c = let p = c.requires in omega (arith, prepared_sizes p.prepared)

pub successors_of-successors-requires-clause-s_lt_states : goal.successors_of-successors-requires-clause-s_lt_states
successors_of-successors-requires-clause-s_lt_states c = (row c).state

pub try_next-requires : goal.try_next-requires
try_next-requires c =
    let at = (goal.at.try_next-requires c).After-target-t in
    let asks = test_asks _ (row (goal.at.try_next-requires c).After-list_at-s) c.loop-k.invariant.0.same (within at) (successor_at at) in record {
      prepared = asks.0;
      place_lt_transitions = asks.1.0;
      t_lt_states = asks.1.1.0;
      t = asks.1.1.1;
      passed_at = c.loop-k.invariant.1;
    }

pub returns-then-try_next : goal.returns-then-try_next
returns-then-try_next c =
    let test = (goal.at.returns-then-try_next c).After-try_next in
    let at = (goal.at.After-try_next test).After-target-t in
    let yes = rw c.if-try_next.true at (answer test) in record {
      found = tried_found (row (goal.at.After-try_next test).After-list_at-s) _ c.loop-k.invariant.0 (within at) (successor_at at) yes.0 yes.1;
      same = same_outside_trans c.loop-k.invariant.0.same c.try_next.ensures.same;
      passed = c.try_next.ensures.passed;
    }

pub loop-k-preserved : goal.loop-k-preserved
loop-k-preserved c =
    let test = (goal.at.loop-k-preserved c).After-try_next in
    let no = rw c.if-try_next.false at (answer test) in (
      tried_more _ c.loop-k.invariant.0 c.try_next.ensures.same (successor_at (goal.at.After-try_next test).After-target-t) (λ b x. no (b, x)),
      c.try_next.ensures.passed,
    )

pub returns : goal.returns
returns c =
    record {
      found = tried_all (row (goal.at.returns c).After-list_at-s) c.loop-k.invariant.0 (omega (arith, degree (goal.at.returns c).After-len-k-end, c.loop-k-test.false));
      same = c.loop-k.invariant.0.same;
      passed = c.loop-k.invariant.1;
    }
