use mathlib.Core.Path.{◌≡◌, ◌∙◌}
use native.Mathlib.Omega.{arith}
use Rattle.lasso.proofs.RollLaws.{least_length_range}
use Rattle.model.specs.Model.{graph_in}
use Rattle.model.proofs.Laws.{valid_sizes, valid_well_formed}
use Rattle.starts.proofs.StartsFilling.{flags_start, filling_put, filling_pass}
use Rattle.starts.proofs.prepare_starts.Goals as goal
use Rattle.starts.proofs.prepare_starts.Goals.{then-get-ne0, else-get-ne0}

pub loop-s-init : goal.loop-s-init
loop-s-init c =
    let ready = c.requires.rounds_ready in
    flags_start (valid_well_formed ready.valid) c.requires.h_value ready.start_distances c.flag_starts.ensures

pub start_loop-value-requires-clause-transitions_le_states : goal.start_loop-value-requires-clause-transitions_le_states
start_loop-value-requires-clause-transitions_le_states c =
    omega (arith, least_length_range (graph_in c.args.file.now c.args.h) c.args.transitions.0 c.requires.h_value, (valid_sizes c.requires.rounds_ready.valid).states_are)

pub loop-s-preserved : goal.loop-s-preserved
loop-s-preserved c =
    elim c.if-get-ne0.branch [
      | then-get-ne0 w ↦
          let e = w.work-is ∙ w.put.ensures in
          let loop = w.start_loop-value.ensures in
          rw e (filling_put (omega arith) (omega (arith, c.requires.rounds_ready.room, c.flag_starts.ensures.same.same_length, c.loop-s.invariant.same.same_length, loop.same.same_length)) loop.same loop.value.0 c.loop-s.invariant)
      | else-get-ne0 w ↦
          let e : c.if-get-ne0.work ≡ c.loop-s.work = w.work-is in
          rw e (filling_pass (omega arith) (omega (arith, w.if-get-ne0.false, c.get.ensures.value)) c.loop-s.invariant)
    ]
