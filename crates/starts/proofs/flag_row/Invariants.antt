-- `starts::flag_row` meets its contract. The loop's invariant: the first k successors are flagged where their
-- entries in region 0 are no greater than that of u.
use Rattle.starts.specs.Flags.{Flagging}
use Rattle.starts.proofs.StartsFlags.{LowBefore}
use Rattle.starts.proofs.flag_row.Given as goal

abbrev pub invariant-loop-k : goal.invariant-loop-k
invariant-loop-k l =
    Flagging l.n (LowBefore l.successors l.initial.work l.distance l.k) l.initial.work l.work
