-- `digits`: the number has room for one digit more while it is below 10,000.
use Rattle.std.proofs.Common.{◌<◌}
use Rattle.case_text.proofs.reading.digits.Given as goal

abbrev pub invariant-loop-i : goal.invariant-loop-i
invariant-loop-i l = l.value < 100000
