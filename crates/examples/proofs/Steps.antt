-- The steps in the examples are as expected: by computation.
use mathlib.Core.Path.{refl}
use Rattle.examples.specs.Steps.{StepsHold}

pub steps_hold : StepsHold
steps_hold = refl
