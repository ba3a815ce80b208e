-- `put_changes`: the loop goes up to the end of the text.
use Rattle.std.proofs.Common.{length, ◌-◌, ◌≤◌}
use Rattle.finder_cases.proofs.lines.put_changes.Given as goal

abbrev pub invariant-loop-p : goal.invariant-loop-p
invariant-loop-p l = l.p ≤ length l.pairs

abbrev pub decreases-loop-p : goal.decreases-loop-p
decreases-loop-p l = length l.pairs - l.p
