use mathlib.Core.Path.{refl, subst, sym}
use native.Mathlib.Omega.{arith}
use Rattle.model.specs.Model.{graph_in}
use Rattle.model.proofs.Laws.{valid_well_formed}
use Rattle.looks.specs.Looks.{Closes}
use Rattle.ends.specs.Ends.{FlagFor}
use Rattle.ends.proofs.EndLaws.{flag_for, closing_more}
use Rattle.ends.proofs.flag_closing.Goals as goal

pub loop-s-preserved : goal.loop-s-preserved
loop-s-preserved c =
    let a = c.args in
    let g = graph_in a.file.now a.h in
    let ends = Closes g a.h.states a.h.start c.loop-s.work a.level a.bound c.loop-s.s in
    rw c.put.ensures (closing_more g a.h.states a.h.start a.level a.bound c.loop-s.s a.work.now c.loop-s.work c.from.result
    (valid_well_formed c.requires.valid) refl c.requires.bound_le_states (omega (arith, c.loop-s-test.true)) (omega (arith, c.requires.states_in_bounds)) c.loop-s.invariant
    (subst (FlagFor ends) (sym c.from.ensures) (flag_for ends c.leads_to_goal-flag.result c.leads_to_goal-flag.ensures)))
