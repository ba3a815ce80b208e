-- `put_numbers`: each number moves the place by at most two.
use Rattle.std.proofs.Common.{◌≤◌, ◌<◌, ◌+◌, ◌*◌}
use Rattle.case_text.proofs.items.put_numbers.Given as goal

abbrev pub invariant-loop-place : goal.invariant-loop-place
invariant-loop-place l = (l.at ≤ l.from + 2 * l.place) × (l.value < 500000)
