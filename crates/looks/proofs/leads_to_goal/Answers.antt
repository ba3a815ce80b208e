use native.Mathlib.Omega.{arith}
use Rattle.lists.proofs.Tests.{none_of_more}
use Rattle.model.specs.Model.{graph_in}
use Rattle.model.proofs.Laws.{row_edge, row_none, row_state}
use Rattle.looks.specs.Looks.{GoalAt}
use Rattle.looks.proofs.leads_to_goal.Goals as goal

pub is_goal-requires-clause-y_lt_states : goal.is_goal-requires-clause-y_lt_states
is_goal-requires-clause-y_lt_states c =
    row_state c.args.s c.loop-k.k c.requires.valid c.successors_of-successors.ensures (omega (arith, c.len-k-end.ensures)) c.target-t.ensures

pub returns-then-is_goal : goal.returns-then-is_goal
returns-then-is_goal c =
    let a = c.args in
    let edge = row_edge (graph_in a.file.now a.h) a.s c.loop-k.k c.successors_of-successors.ensures (omega (arith, c.loop-k-test.true, c.len-k-end.ensures)) c.target-t.ensures in
    (omega (arith, c.if-get-level.false, c.get.ensures.value), (c.target-t.result, edge, rw c.if-is_goal.true at c.is_goal.ensures))

pub loop-k-preserved : goal.loop-k-preserved
loop-k-preserved c =
    let a = c.args in
    none_of_more (GoalAt a.h.states a.h.start a.work.now a.bound) c.successors_of-successors.result c.loop-k.k c.target-t.result
    c.loop-k.invariant c.target-t.ensures (rw c.if-is_goal.false at c.is_goal.ensures)

pub returns : goal.returns
returns c =
    let a = c.args in
    λ (level, (y, edge, goal)).
    row_none (GoalAt a.h.states a.h.start a.work.now a.bound) (graph_in a.file.now a.h) a.s c.loop-k.k y
    c.successors_of-successors.ensures (omega (arith, c.len-k-end.ensures, c.loop-k-test.false)) c.loop-k.invariant edge goal
