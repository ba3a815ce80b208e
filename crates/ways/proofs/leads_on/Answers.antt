use Prim.Native.Nat.{◌<◌}
use native.Mathlib.Omega.{arith}
use borrow.Author.Tests.{eqb-true, eqb-false}
use Rattle.lists.proofs.Tests.{none_of_more}
use Rattle.model.specs.Model.{graph_in}
use Rattle.model.proofs.Laws.{row_edge, row_none, row_state}
use Rattle.ways.proofs.leads_on.Invariants.{Has}
use Rattle.ways.proofs.leads_on.Goals as goal
use Rattle.ways.proofs.leads_on.Goals.{After-target-t}

-- the successor is a state
successor_state : (c : After-target-t) → c.target-t.result < c.args.h.states
successor_state c = row_state c.args.s c.loop-k.k c.requires.valid c.successors_of-successors.ensures (omega arith) c.target-t.ensures

pub overflow_add-n : goal.overflow_add-n
overflow_add-n c = omega (arith, successor_state c)

pub get-requires : goal.get-requires
get-requires c = omega (arith, successor_state c)

pub returns-then-get-next : goal.returns-then-get-next
returns-then-get-next c = (
  c.target-t.result,
  row_edge (graph_in c.args.file.now c.args.h) c.args.s c.loop-k.k c.successors_of-successors.ensures (omega arith) c.target-t.ensures,
  omega (arith, eqb-true, c.if-get-next.true, c.get.ensures.value),
)

pub loop-k-preserved : goal.loop-k-preserved
loop-k-preserved c =
    let a = c.args in
    none_of_more (Has a.h.states a.work.now a.next) c.successors_of-successors.result c.loop-k.k c.target-t.result
    c.loop-k.invariant c.target-t.ensures (λ e. absurd (omega (arith, eqb-false, c.if-get-next.false, c.get.ensures.value, e)))

pub returns : goal.returns
returns c =
    let a = c.args in
    λ (t, edge, e).
    row_none (Has a.h.states a.work.now a.next) (graph_in a.file.now a.h) a.s c.loop-k.k t c.successors_of-successors.ensures (omega (arith, c.len-k-end.ensures)) c.loop-k.invariant edge e
