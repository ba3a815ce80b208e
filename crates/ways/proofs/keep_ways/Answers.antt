use Prim.Native.Nat.{◌-◌}
use mathlib.Core.Path.{refl}
use native.Mathlib.Omega.{arith}
use borrow.Author.Tests.{eqb-true, eqb-false}
use Rattle.model.specs.Model.{graph_in}
use Rattle.model.proofs.Laws.{valid_well_formed}
use Rattle.ways.proofs.BackLaws.{step_flagged, step_leads, step_dropped}
use Rattle.ways.proofs.keep_ways.Goals as goal

pub loop-i-preserved-then-not-leads_on : goal.loop-i-preserved-then-not-leads_on
loop-i-preserved-then-not-leads_on c =
    let a = c.args in
    rw c.put.ensures
    (step_dropped (graph_in a.file.now a.h) a.h.states a.count c.loop-i.i (c.loop-i.i - 1) a.work.now c.loop-i.work
    (valid_well_formed c.requires.valid) refl c.requires.queue (omega arith) (omega arith) c.loop-i.invariant c.get-s.result c.get-s.ensures.value
    (omega arith) (omega (arith, eqb-true, c.if-get-eq0.true, c.get.ensures.value)) _ (omega (arith, c.get-next.ensures.value))
    (rw (c.if-not-leads_on.true) at c.leads_on.ensures))

pub loop-i-preserved-else-not-leads_on : goal.loop-i-preserved-else-not-leads_on
loop-i-preserved-else-not-leads_on c =
    let a = c.args in
    step_leads (graph_in a.file.now a.h) a.h.states a.count c.loop-i.i (c.loop-i.i - 1) a.work.now c.loop-i.work
    (valid_well_formed c.requires.valid) refl c.requires.queue (omega arith) (omega arith) c.loop-i.invariant c.get-s.result c.get-s.ensures.value
    _ (omega (arith, c.get-next.ensures.value)) (rw (c.if-not-leads_on.false) at c.leads_on.ensures)

pub loop-i-preserved : goal.loop-i-preserved
loop-i-preserved c =
    let a = c.args in
    step_flagged (graph_in a.file.now a.h) a.h.states a.count c.loop-i.i (c.loop-i.i - 1) a.work.now c.loop-i.work
    (valid_well_formed c.requires.valid) refl c.requires.queue (omega arith) (omega arith) c.loop-i.invariant c.get-s.result c.get-s.ensures.value
    (omega (arith, eqb-false, c.if-get-eq0.false, c.get.ensures.value))
