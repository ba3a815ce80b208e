-- What the answer of a test says.
use Rattle.std.specs.Prelude.{Bool, true, false}

-- the test's answer is right: true if P holds, false if it does not
abbrev pub Decides : Type 0 → Bool → Type 0
Decides P true = P
Decides P false = P → ⊥
