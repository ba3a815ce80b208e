-- The distances in the examples are as expected: by computation.
use mathlib.Core.Path.{refl}
use Rattle.examples.specs.Distances.{DistancesHold}

pub distances_hold : DistancesHold
distances_hold = refl
