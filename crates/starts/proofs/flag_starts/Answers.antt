use mathlib.Core.Path.{◌≡◌, refl}
use native.Mathlib.Omega.{arith}
use Rattle.model.specs.Model.{graph_in}
use Rattle.model.proofs.Laws.{valid_well_formed}
use Rattle.starts.specs.Flags.{FlagsRow}
use Rattle.starts.proofs.StartsFlags.{entered_row, entered_pass, all_flagged}
use Rattle.starts.proofs.flag_starts.Goals as goal
use Rattle.starts.proofs.flag_starts.Goals.{then-get-ne0, else-get-ne0}

pub loop-u-preserved : goal.loop-u-preserved
loop-u-preserved c =
    elim c.if-get-ne0.branch [
      | then-get-ne0 w ↦
          let e = w.work-is in
          let row : FlagsRow (graph_in c.args.file.now c.args.h) c.args.h.states c.loop-u.u c.loop-u.work c.if-get-ne0.work =
          rw e w.flag_row.ensures in
          entered_row (valid_well_formed c.requires.valid) refl c.loop-u.invariant row
      | else-get-ne0 w ↦
          let e : c.if-get-ne0.work ≡ c.loop-u.work = w.work-is in
          rw e (entered_pass (omega arith) (omega (arith, w.if-get-ne0.false, c.get.ensures.value)) c.loop-u.invariant)
    ]

pub returns : goal.returns
returns c = all_flagged (valid_well_formed c.requires.valid) refl (omega arith) c.clear.ensures.others c.loop-u.invariant
