-- Numbers under a limit.
use Rattle.std.specs.Prelude.{ℕ, ltb}
use Rattle.std.proofs.Math.Option.{Option, some, none}
use Rattle.lists.specs.Lists.{some_if}

-- the number if there is one and it is below the limit
abbrev pub under : ℕ → Option ℕ → Option ℕ
under limit none = none
under limit (some k) = some_if (ltb k limit) k none
