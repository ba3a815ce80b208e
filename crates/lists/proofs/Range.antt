-- A loop that looks for a number of a range that passes a test: what is left of the range decides.
use Prim.Native.Nat.{ℕ, suc, ◌+◌, ◌-◌, ◌≤◌, ◌<◌}
use mathlib.Core.Path.{◌≡◌, refl, ◌∙◌}
use mathlib.Core.Bool.{Bool, true, false}
use native.Mathlib.Omega.{arith}
use Rattle.lists.specs.Lists.{anyb, up_from, below}

-- at number i of a range up to n, the answer is that of the numbers from i on
pub record Left (p : ℕ → Bool) (answer : Bool) (n i : ℕ) : Type 0 where
  pub within : i ≤ n
  pub decides : answer ≡ anyb p (up_from i (n - i))

-- at the start of a range all of it is left
pub left_from : (p : ℕ → Bool) (a n : ℕ) → a ≤ n → Left p (anyb p (up_from a (n - a))) n a
left_from p a n l = record { within = l; decides = refl }

-- at 0 all numbers below n are left
pub left_below : (p : ℕ → Bool) (n : ℕ) → Left p (anyb p (below n)) n 0
left_below p n = let e : n - 0 ≡ n = omega arith in record { within = omega arith; decides = rw e }

module _ {p : ℕ → Bool} {answer : Bool} {n i : ℕ} (L : Left p answer n i) where
  -- a number that passes settles the answer
  pub left_found : i < n → p i ≡ true → answer ≡ true
  left_found l t = let e : n - i ≡ suc (n - suc i) = omega arith in L.decides ∙ rw (e, t)

  -- a number that does not pass is left behind
  pub left_next : i < n → p i ≡ false → Left p answer n (i + 1)
  left_next l t =
      let e : n - i ≡ suc (n - (i + 1)) = omega arith in
      let q : suc i ≡ i + 1 = omega arith in
      record { within = omega arith; decides = L.decides ∙ rw (e, t, q) }

  -- with nothing left the answer is no
  pub left_none : n ≤ i → answer ≡ false
  left_none l = let e : n - i ≡ 0 = omega arith in L.decides ∙ rw e
