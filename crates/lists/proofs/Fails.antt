-- Tests that fail: what their parts say, and tests that no number of a range passes.
use Prim.Native.Nat.{ℕ, ◌+◌, ◌≤◌, ◌<◌}
use mathlib.Core.Path.{◌≡◌, refl}
use mathlib.Core.Bool.{Bool, true, false, ◌||◌, not}
use mathlib.Core.List.{Memᴰ}
use native.Mathlib.Omega.{arith}
use native.Mathlib.Nat.{not-le_of_lt}
use lib.Dec.{T, eqb, ltb, ltb→lt, lt→ltb, not_T, T_not}
use Rattle.lists.specs.Lists.{anyb, up_from, below}
use Rattle.lists.proofs.Tests.{anyb_some, some_anyb, up_from_range, range_up_from, eq→eqb}

-- the negation of a test that is false passes
pub false_not : (b : Bool) → b ≡ false → T (not b)
false_not b e = rw e tt

-- the first part of a disjunction that fails fails
pub neither_l : (a b : Bool) → T (not (a || b)) → T (not a)
neither_l true b h = h
neither_l false b h = tt

-- the second part of a disjunction that fails fails
pub neither_r : (a b : Bool) → T (not (a || b)) → T (not b)
neither_r true b h = absurd h
neither_r false b h = h

-- a test whose negation fails passes
pub not_not : (a : Bool) → T (not (not a)) → T a
not_not true h = tt
not_not false h = h

pub ruleset kept = (neither_l, neither_r, not_not)

-- numbers that are not tested equal differ
pub neqb→ne : (a b : ℕ) → T (not (eqb a b)) → a ≡ b → ⊥
neqb→ne a b h e = T_not (eqb a b) h (eq→eqb a b e)

-- no number of a range passes a test that finds none
pub none_passes : (p : ℕ → Bool) (a n : ℕ) → T (not (anyb p (up_from a n))) → (i : ℕ) → a ≤ i → i < a + n → T (not (p i))
none_passes p a n h i l m = not_T (p i) (λ t. T_not (anyb p (up_from a n)) h (some_anyb p (range_up_from a n i l m) t))

-- no number below n passes a test that finds none
pub none_below : (p : ℕ → Bool) (n : ℕ) → T (not (anyb p (below n))) → (i : ℕ) → i < n → T (not (p i))
none_below p n h i l = none_passes p 0 n h i (omega arith) (omega arith)

-- a disjunction of tests that fail fails
pub neither : (a b : Bool) → T (not a) → T (not b) → T (not (a || b))
neither true b h k = h
neither false b h k = k

-- the negation of a test that passes fails
pub passes : (a : Bool) → T a → T (not (not a))
passes true h = tt
passes false h = h

-- the negated test of equality fails for equal numbers
pub same_passes : (m n : ℕ) → m ≡ n → T (not (not (eqb m n)))
same_passes m n e = passes (eqb m n) (eq→eqb m n e)

-- a number not below another fails the test for being below it
pub le_fails : (m n : ℕ) → n ≤ m → T (not (ltb m n))
le_fails m n l = not_T (ltb m n) (λ t. not-le_of_lt (ltb→lt m n t) l)

-- the negated test for being below fails where a number is below another
pub lt_passes : (m n : ℕ) → m < n → T (not (not (ltb m n)))
lt_passes m n l = passes (ltb m n) (lt→ltb m n l)

-- a test that no number of a range passes finds none
pub none_in_range : (p : ℕ → Bool) (a n : ℕ) → ((i : ℕ) → a ≤ i → i < a + n → T (not (p i))) → T (not (anyb p (up_from a n)))
none_in_range p a n h =
    not_T (anyb p (up_from a n)) (λ t.
    let r : (i : ℕ) × Memᴰ i (up_from a n) × T (p i) = anyb_some p (up_from a n) t in
    let b : (a ≤ r.0) × (r.0 < a + n) = up_from_range a n r.1 in
    T_not (p r.0) (h r.0 b.0 b.1) r.2)

-- a test that no number below n passes finds none
pub none_below_passes : (p : ℕ → Bool) (n : ℕ) → ((i : ℕ) → i < n → T (not (p i))) → T (not (anyb p (below n)))
none_below_passes p n h = none_in_range p 0 n (λ i a l. h i (omega arith))

-- an alternative of which neither part holds
pub or_false : (a b : Bool) → (a || b) ≡ false → (a ≡ false) × (b ≡ false)
or_false true b e = let z : ◌≡◌ {A = ℕ} 0 1 = cc in absurd (omega arith)
or_false false b e = (refl, e)
