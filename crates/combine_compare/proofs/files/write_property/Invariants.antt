-- `write_property`: each mask moves the place by at most two.
use Rattle.std.proofs.Common.{◌≤◌, ◌+◌, ◌*◌}
use Rattle.combine_compare.proofs.files.write_property.Given as goal

abbrev pub invariant-loop-place : goal.invariant-loop-place
invariant-loop-place l = l.at ≤ 169 + 2 * l.place
