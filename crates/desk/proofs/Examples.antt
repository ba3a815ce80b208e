-- The texts of example D with one mark table and with two, computed from the files' bytes by the definitions.
use mathlib.Core.Path.{refl}
use Rattle.text.specs.Decimal.{decimal}
use Rattle.desk.specs.Examples.{ExampleD, ExampleTwo}

-- the program's text for example D
pub example_d : ExampleD
unfolding decimal
example_d = refl

-- its text for example D with a second mark table
pub example_two : ExampleTwo
unfolding decimal
example_two = refl
