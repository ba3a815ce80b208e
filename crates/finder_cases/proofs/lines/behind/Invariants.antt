-- `behind`: the place stays in the line.
use Rattle.std.proofs.Common.{◌≤◌, length}
use Rattle.finder_cases.proofs.lines.behind.Given as goal

abbrev pub invariant-loop : goal.invariant-loop
invariant-loop l = l.place ≤ length l.line
