-- The table for the place after a report: that of the outcome.
use Prim.Native.Nat.{ℕ}
use mathlib.Core.Path.{◌≡◌}
use mathlib.Core.List.{List}
use Rattle.std.specs.Prelude.{Result, Ok, Err}
use Rattle.numbers.specs.declared.reason.Reason.{Reason}
use Rattle.grade.specs.declared.Graded.{Graded}
use Rattle.grade.specs.Grade.{grade_outcome_of}
use Rattle.grade_report.specs.Grades.{place_in, place_told}

-- after the report of a result with a reason the table is that of its outcome
pub place_reported : (r : Result Graded Reason) (table : List ℕ) {after : List ℕ} → after ≡ place_told table r → after ≡ place_in table (grade_outcome_of r)
place_reported (Err reason) table p = p
place_reported (Ok graded) table p = p
