-- `make`: the loop goes up to the end of the text.
use Rattle.std.proofs.Common.{length, ◌-◌, ◌≤◌, ◌≡◌}
use Rattle.case_text.proofs.items.make.Given as goal

abbrev pub invariant-loop-p : goal.invariant-loop-p
invariant-loop-p g l = (l.p ≤ length l.words) × (l.size ≤ 200000) × (length l.file ≡ length l.initial.file)

abbrev pub decreases-loop-p : goal.decreases-loop-p
decreases-loop-p g l = length l.words - l.p
