-- `has_edge` meets its contract. The loop's invariant: every place among the successors that holds t is one from low to
-- before high.
use Prim.Native.Nat.{◌-◌}
use Rattle.model_edges.proofs.Halving.{Between}
use Rattle.model_edges.proofs.has_edge.Given as goal

abbrev pub invariant-loop-low : goal.invariant-loop-low
invariant-loop-low l = Between l.t l.successors l.low l.high

abbrev pub decreases-loop-low : goal.decreases-loop-low
decreases-loop-low l = l.high - l.low
