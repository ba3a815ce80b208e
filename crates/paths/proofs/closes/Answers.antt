use mathlib.Core.Path.{◌≡◌, sym, ◌∙◌}
use native.Mathlib.Omega.{arith}
use lib.ListN.{get_or}
use Rattle.lasso.specs.Graph.{edges}
use Rattle.lists.proofs.Range.{left_next}
use Rattle.model.specs.Model.{graph_in}
use Rattle.model.proofs.Laws.{valid_well_formed}
use Rattle.paths.proofs.BreakLaws.{started_unbroken}
use Rattle.paths.proofs.LoopTests.{open_at, first_decides}
use Rattle.paths.proofs.closes.Goals as goal

pub loops_at-requires-clause-list_value : goal.loops_at-requires-clause-list_value
loops_at-requires-clause-list_value c =
    let r = c.requires in
    started_unbroken _ (valid_well_formed r.valid) _ r.list_value.0 r.list_value.1

pub returns-then-get-last : goal.returns-then-get-last
returns-then-get-last c =
    let a = c.args in
    let held : get_or a.list.now (edges a.list.now) 0 ≡ get_or a.list.now c.loop-k.k 0 = omega arith in
    c.loops_at.ensures ∙ sym (c.loop-k.invariant.decides ∙ first_decides (graph_in a.file.now a.h) a.list.now c.loop-k.k (omega arith) held)

pub loop-k-preserved : goal.loop-k-preserved
loop-k-preserved c =
    let a = c.args in
    let apart = open_at (graph_in a.file.now a.h) a.list.now c.loop-k.k (λ (e : get_or a.list.now (edges a.list.now) 0 ≡ get_or a.list.now c.loop-k.k 0). c.if-get-last.false (c.get.ensures.value ∙ sym e ∙ sym c.get-last.ensures.value)) in
    left_next c.loop-k.invariant (omega arith) apart
