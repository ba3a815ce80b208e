-- Numbers in decimal.
use Rattle.std.specs.Prelude.{ℕ, zero, suc, ◌+◌, ◌/◌, ◌%◌, ◌≤◌, ◌<◌, ◌≡◌, List, [], ◌∷◌, ◌++◌, ltb}
use Rattle.lists.specs.Lists.{pick}

-- the ASCII code of a digit
abbrev pub digit : ℕ → ℕ
digit d = 48 + d

-- the digits of n, at most as many as told: those of n / 10, unless that is zero, and then the last one
abbrev pub digits_within : ℕ → ℕ → List ℕ
digits_within zero n = []
digits_within (suc most) n = pick (ltb n 10) (digit n ∷ []) (digits_within most (n / 10) ++ digit (n % 10) ∷ [])

-- n in decimal, with no leading zeros: n has no more than n + 1 digits
unfoldable pub decimal : ℕ → List ℕ
decimal n = digits_within (suc n) n

-- What n in decimal is, whatever number of digits is tried.
pub record DecimalSays (n : ℕ) : Type 0 where
  -- below 10 it is one digit
  pub one_digit : n < 10 → decimal n ≡ digit n ∷ []
  -- from 10 on it is n / 10 in decimal, and then the last digit
  pub more_digits : 10 ≤ n → decimal n ≡ decimal (n / 10) ++ digit (n % 10) ∷ []

-- so it is with every number
abbrev pub DecimalShown : Type 0
DecimalShown = (n : ℕ) → DecimalSays n
