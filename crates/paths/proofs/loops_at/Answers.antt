use mathlib.Core.Path.{◌≡◌, sym, ◌∙◌}
use native.Mathlib.Omega.{arith}
use lib.ListN.{get_or}
use Rattle.lasso.specs.Graph.{edges}
use Rattle.lists.proofs.Range.{left_found, left_next}
use Rattle.model.specs.Model.{graph_in}
use Rattle.paths.proofs.BreakLaws.{unbroken_states}
use Rattle.paths.proofs.LoopTests.{mark_at, closed_at}
use Rattle.paths.proofs.loops_at.Goals as goal
use Rattle.paths.proofs.loops_at.Goals.{After-is_marked}

-- the mark that a turn of the loop looks for
mark_tested : (c : After-is_marked) → mark_at (graph_in c.args.file.now c.args.h) c.args.list.now c.loop-j.j ≡ c.is_marked.result
mark_tested c = sym (rw c.get-state.ensures.value at c.is_marked.ensures)

pub is_marked-requires-clause-s_lt_states : goal.is_marked-requires-clause-s_lt_states
is_marked-requires-clause-s_lt_states c =
    omega (arith, unbroken_states (graph_in c.args.file.now c.args.h) c.args.list.now c.requires.list_value c.loop-j.j (omega arith))

pub returns-then-is_marked : goal.returns-then-is_marked
returns-then-is_marked c =
    let found = left_found c.loop-j.invariant (omega arith) (mark_tested (goal.at.returns-then-is_marked c).After-is_marked ∙ c.if-is_marked.true) in
    let closed : get_or c.args.list.now (edges c.args.list.now) 0 ≡ get_or c.args.list.now c.args.k 0 = omega arith in
    sym (closed_at (graph_in c.args.file.now c.args.h) c.args.list.now c.args.k closed _ found)

pub loop-j-preserved : goal.loop-j-preserved
loop-j-preserved c =
    left_next c.loop-j.invariant (omega arith) (mark_tested (goal.at.loop-j-preserved c).After-is_marked ∙ c.if-is_marked.false)
