use Prim.Native.Nat.{◌+◌, ◌<◌}
use mathlib.Core.Path.{◌≡◌, sym, ◌∙◌}
use lib.ListN.{get_or, set}
use native.Mathlib.Omega.{arith}
use Rattle.model.specs.Model.{graph_in}
use Rattle.model.proofs.Laws.{row_state}
use Rattle.starts.proofs.StartsFlags.{low_put, low_pass, row_flagged}
use Rattle.starts.proofs.flag_row.Goals as goal
use Rattle.starts.proofs.flag_row.Goals.{then-get-distance, else-get-distance, After-target-t}

-- the successor is a state
successor_state : (c : After-target-t) → c.target-t.result < c.args.h.states
successor_state c =
    row_state c.args.u c.loop-k.k c.requires.valid c.successors_of-successors.ensures (omega (arith, c.len-k-end.ensures)) c.target-t.ensures

pub get-requires : goal.get-requires
get-requires c = omega (arith, successor_state c)

pub overflow_add-n : goal.overflow_add-n
overflow_add-n c = omega (arith, successor_state (goal.at.overflow_add-n c).After-target-t)

pub put-requires-clause-at_in_bounds : goal.put-requires-clause-at_in_bounds
put-requires-clause-at_in_bounds c = omega (arith, successor_state (goal.at.put-requires-clause-at_in_bounds c).After-target-t)

pub loop-k-preserved : goal.loop-k-preserved
loop-k-preserved c =
    let n = c.args.h.states in
    let t = c.target-t.result in
    let at : get_or (c.successors_of-successors.result) c.loop-k.k 0 ≡ t = sym c.target-t.ensures in
    let state : t < n = successor_state (goal.at.loop-k-preserved c).After-target-t in
    elim c.if-get-distance.branch [
      | then-get-distance w ↦
          let e : c.if-get-distance.work ≡ set c.loop-k.work (n + t) 1 = w.work-is ∙ w.put.ensures in
          rw e (low_put t at state c.requires.states_in_bounds c.loop-k.invariant)
      | else-get-distance w ↦
          let e : c.if-get-distance.work ≡ c.loop-k.work = w.work-is in
          rw e (low_pass t at state (omega (arith, w.if-get-distance.false, c.get.ensures.value)) c.loop-k.invariant)
    ]

pub returns : goal.returns
returns c =
    row_flagged (graph_in c.args.file.now c.args.h) c.args.u c.successors_of-successors.ensures (omega (arith, c.len-k-end.ensures))
    c.get-distance.ensures.value c.loop-k.invariant
