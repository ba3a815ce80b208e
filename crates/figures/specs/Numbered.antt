-- The number of each kind of answer as the code names it.
use Rattle.std.specs.Prelude.{ℕ}
use Rattle.figures.specs.declared.kind.Kind.{Kind}
use Rattle.figures.specs.declared.kind.Kind.TheVariants.{OutTooShort, Stopped, Found, NoneWithin, NoMore, Finished, Advanced, Written, False, Accepting, Shortest}

-- the number of a kind
abbrev pub kind_number : Kind → ℕ
kind_number OutTooShort = 100
kind_number Stopped = 101
kind_number Found = 102
kind_number NoneWithin = 103
kind_number NoMore = 104
kind_number Finished = 105
kind_number Advanced = 106
kind_number Written = 107
kind_number False = 108
kind_number Accepting = 109
kind_number Shortest = 110
