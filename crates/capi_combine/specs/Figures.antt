-- The one figure of a combination: it has 16 bits.
use Rattle.std.specs.Prelude.{ℕ, ◌<◌, Result, Ok, Err}
use Rattle.numbers.specs.declared.reason.Reason.{Reason}

-- a number of bytes written fits 16 bits
abbrev pub FigureFits : Result ℕ Reason → Type 0
FigureFits (Err reason) = Unit {0}
FigureFits (Ok bytes) = bytes < 65536
