-- The examples are graded as expected: by computation.
use mathlib.Core.Path.{refl}
use Rattle.examples.specs.Grades.{GradesHold}

pub grades_hold : GradesHold
grades_hold = refl
