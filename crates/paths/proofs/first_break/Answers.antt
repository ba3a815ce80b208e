use Prim.Native.Nat.{◌-◌}
use mathlib.Core.Path.{◌≡◌, sym, ◌∙◌}
use native.Mathlib.Omega.{arith}
use lib.ListN.{get_or}
use Rattle.std.proofs.lemmas.Grind.{common_steps}
use Rattle.lasso.specs.Graph.{edgeb}
use Rattle.model.specs.Model.{graph_in}
use Rattle.model.proofs.Laws.{valid_well_formed}
use Rattle.paths.proofs.BreakLaws.{broken_at_first, unbroken_next, broken_next, unbroken_end}
use Rattle.paths.proofs.first_break.Goals as goal
use Rattle.paths.proofs.first_break.Goals.{After-has_edge}

-- the edge that a turn of the loop looks for
edge_tested : (c : After-has_edge) → edgeb (graph_in c.args.file.now c.args.h) (get_or c.args.list.now (c.loop-j.j - 1) 0) (get_or c.args.list.now c.loop-j.j 0) ≡ c.has_edge.result
edge_tested c = sym (rw (c.get-s.ensures.value, c.get-t.ensures.value) at c.has_edge.ensures)

pub returns-then-h-first : goal.returns-then-h-first
returns-then-h-first c =
    let a = c.args in
    broken_at_first (graph_in a.file.now a.h) a.list.now (grind (arith, common_steps)) (omega arith)

pub returns-then-not-has_edge : goal.returns-then-not-has_edge
returns-then-not-has_edge c =
    broken_next c.loop-j.invariant (omega arith) (edge_tested (goal.at.returns-then-not-has_edge c).After-has_edge ∙ c.if-not-has_edge.true)

pub loop-j-preserved : goal.loop-j-preserved
loop-j-preserved c =
    unbroken_next c.loop-j.invariant (valid_well_formed c.requires) (omega arith) (edge_tested (goal.at.loop-j-preserved c).After-has_edge ∙ c.if-not-has_edge.false)

pub returns : goal.returns
returns c = unbroken_end c.loop-j.invariant (omega arith)
