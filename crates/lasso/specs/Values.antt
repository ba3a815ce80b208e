-- What the values of the code stand for.
use Rattle.std.proofs.Math.Option.{Option, some, none}
use Rattle.std.specs.Prelude.{ℕ}
use Rattle.std.specs.Prelude as std
use Rattle.lasso.specs.declared.Transitions.{Transitions}
use Rattle.lasso.specs.declared.RoundRecord.{RoundRecord}
use Rattle.lasso.specs.Rounds.{Record}

-- the length that a value of the code holds, if it holds one: a best length, or the one that a round found
abbrev pub length_of : std.Option Transitions → Option ℕ
length_of std.None = none
length_of (std.Some l) = some l.0

-- the round record that a value of the code holds
abbrev pub record_of : RoundRecord → Record
record_of r = record { done = r.done; best = length_of r.best }
