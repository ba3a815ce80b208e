-- The least number with a property, if there is one; and numbers that may be missing: the lesser, the sum, the least.
use Rattle.std.specs.Prelude.{ℕ, ◌+◌, ◌≤◌, min, List, [], ◌∷◌}
use Rattle.std.proofs.Math.Option.{Option, some, none}

-- none: no number has the property; some m: m has it, and no number below m does
abbrev pub IsLeast : (ℕ → Type 0) → Option ℕ → Type 0
IsLeast P none = (n : ℕ) → P n → ⊥
IsLeast P (some m) = P m × ((n : ℕ) → P n → m ≤ n)

-- the lesser of two numbers; none counts as more than every number
abbrev pub lesser : Option ℕ → Option ℕ → Option ℕ
lesser none b = b
lesser (some a) none = some a
lesser (some a) (some b) = some (min a b)

-- the sum of two numbers; none if one of them is none
abbrev pub sum : Option ℕ → Option ℕ → Option ℕ
sum none b = none
sum (some a) none = none
sum (some a) (some b) = some (a + b)

-- the least of the numbers that f gives for the entries
abbrev pub least_of : (ℕ → Option ℕ) → List ℕ → Option ℕ
least_of f [] = none
least_of f (s ∷ ss) = lesser (f s) (least_of f ss)
