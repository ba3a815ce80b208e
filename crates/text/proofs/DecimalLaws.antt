-- Decimal numbers: one digit, or those of n / 10 and one more; and how many there are.
use Prim.Native.Nat.{ℕ, zero, suc, ◌+◌, ◌*◌, ◌/◌, ◌%◌, ◌≤◌, ◌<◌}
use mathlib.Core.Path.{◌≡◌, sym, ◌∙◌, ap}
use mathlib.Core.Bool.{Bool}
use mathlib.Core.Logic.{inl, inr}
use mathlib.Core.List.{List, [], ◌∷◌, ◌++◌}
use native.Mathlib.Omega.{arith}
use borrow.Author.Tests.{lt-ltb, le-ltb}
use lib.ListN.{length, length-append}
use Rattle.lists.specs.Lists.{pick}
use Rattle.lists.proofs.Tests.{lt_or_ge}
use Rattle.text.specs.Decimal.{digit, digits_within, decimal, DecimalShown}

-- a number below ten has one digit
within_small : (most n : ℕ) → n < 10 → digits_within (suc most) n ≡ digit n ∷ []
within_small most n less = ap (λ (b : Bool). pick b (digit n ∷ []) (digits_within most (n / 10) ++ digit (n % 10) ∷ [])) (lt-ltb n 10 less)

-- a number from ten on has those of its tenth and one more
within_large : (most n : ℕ) → 10 ≤ n → digits_within (suc most) n ≡ digits_within most (n / 10) ++ digit (n % 10) ∷ []
within_large most n le = ap (λ (b : Bool). pick b (digit n ∷ []) (digits_within most (n / 10) ++ digit (n % 10) ∷ [])) (le-ltb n 10 le)

-- more digits than there are do not matter
within_enough : (a b n : ℕ) → n < a → n < b → digits_within a n ≡ digits_within b n
within_enough zero b n la lb = absurd (omega arith)
within_enough (suc a) zero n la lb = absurd (omega arith)
within_enough (suc a) (suc b) n la lb =
    elim (lt_or_ge n 10) [
      | inl less ↦ within_small a n less ∙ sym (within_small b n less)
      | inr more ↦
          within_large a n more
          ∙ ap (λ (ds : List ℕ). ds ++ digit (n % 10) ∷ []) (within_enough a b (n / 10) (omega arith) (omega arith))
          ∙ sym (within_large b n more)
    ]

-- a number below ten is its digit
pub decimal_small : (n : ℕ) → n < 10 → decimal n ≡ digit n ∷ []
unfolding decimal
decimal_small n less = within_small n n less

-- a number from ten on is its tenth and its last digit
pub decimal_large : (n : ℕ) → 10 ≤ n → decimal n ≡ decimal (n / 10) ++ digit (n % 10) ∷ []
unfolding decimal
decimal_large n le =
    within_large n n le ∙ ap (λ (ds : List ℕ). ds ++ digit (n % 10) ∷ []) (within_enough n (suc (n / 10)) (n / 10) (omega arith) (omega arith))

-- what a number in decimal is
pub decimal_shown : DecimalShown
decimal_shown n = record { one_digit = decimal_small n; more_digits = decimal_large n }

-- a number from ten on has one digit more than its tenth
pub decimal-length : (n : ℕ) → 10 ≤ n → length (decimal n) ≡ length (decimal (n / 10)) + 1
decimal-length n le = ap length (decimal_large n le) ∙ length-append (decimal (n / 10)) (digit (n % 10) ∷ [])

-- a number has at least one digit
pub decimal_some : (n : ℕ) → 1 ≤ length (decimal n)
decimal_some n =
    elim (lt_or_ge n 10) [
      | inl less ↦ omega (arith, ap length (decimal_small n less))
      | inr more ↦ omega (arith, decimal-length n more)
    ]

-- ten times as great, one digit more
decimal_more : (k most : ℕ) → 1 ≤ k → ((n : ℕ) → n < most → length (decimal n) ≤ k) → (n : ℕ) → n < 10 * most → length (decimal n) ≤ k + 1
decimal_more k most one before n below =
    elim (lt_or_ge n 10) [
      | inl less ↦ omega (arith, ap length (decimal_small n less))
      | inr more ↦ omega (arith, decimal-length n more, before (n / 10) (omega arith))
    ]

-- a number below ten has no more than one digit
decimal_one : (n : ℕ) → n < 10 → length (decimal n) ≤ 1
decimal_one n less = omega (arith, ap length (decimal_small n less))

-- a number below 100 has no more than two digits
pub decimal_two : (n : ℕ) → n < 100 → length (decimal n) ≤ 2
decimal_two n less = decimal_more 1 10 (omega arith) decimal_one n (omega arith)

-- a number below 10,000 has no more than four digits
pub decimal_four : (n : ℕ) → n < 10000 → length (decimal n) ≤ 4
decimal_four n less =
    decimal_more 3 1000 (omega arith) (decimal_more 2 100 (omega arith) decimal_two) n (omega arith)

-- a number of 16 bits has no more than five digits
pub decimal_five : (n : ℕ) → n < 65536 → length (decimal n) ≤ 5
decimal_five n less = decimal_more 4 10000 (omega arith) decimal_four n (omega arith)
