-- Laws of the least number with a property, if there is one; and that `seek`, `lesser`, `sum` and `least_of` give least
-- numbers.
use Prim.Native.Nat.{ℕ, zero, suc, ◌+◌, ◌≤◌, ◌<◌, min}
use mathlib.Core.Path.{◌≡◌, refl, ap, subst}
use mathlib.Core.Logic.{◌⊎◌, inl, inr}
use mathlib.Core.Bool.{Bool, not}
use mathlib.Core.List.Memᴰ
use mathlib.Core.List.{List, [], ◌∷◌, ◌++◌, Memᴰ}
use mathlib.Core.Option.{Option, some, none}
use native.Mathlib.Omega.{arith}
use lib.Dec.{T, T_not}
use Rattle.lists.specs.Lists.{seek}
pub use Rattle.lists.specs.Least.{IsLeast}
use Rattle.lists.specs.Least.{lesser, sum, least_of}
use Rattle.lists.proofs.Tests.{decide, lt_or_ge, T_true, T_false}

-- what a number with the property says about the least one: there is one, and it is not greater
pub is_least_le : (P : ℕ → Type 0) (a : Option ℕ) → IsLeast P a → (n : ℕ) → P n → (m : ℕ) × (a ≡ some m) × (m ≤ n)
is_least_le P none least n h = absurd (least n h)
is_least_le P (some m) least n h = (m, refl, least.1 n h)

-- the least number has the property
pub is_least_has : (P : ℕ → Type 0) (a : Option ℕ) → IsLeast P a → (m : ℕ) → a ≡ some m → P m
is_least_has P a least m e = (rw e at least).0

-- there is at most one least number
pub is_least_unique : (P : ℕ → Type 0) (a b : Option ℕ) → IsLeast P a → IsLeast P b → a ≡ b
is_least_unique P none none p q = refl
is_least_unique P none (some n) p q = absurd (p n q.0)
is_least_unique P (some m) none p q = absurd (q m p.0)
is_least_unique P (some m) (some n) p q =
    let e : m ≡ n = omega (arith, p.1 n q.0, q.1 m p.0) in ap (λ (k : ℕ). some k) e

-- two properties have the same least number if each number with one bounds a number with the other
pub is_least_bounds : (P Q : ℕ → Type 0) (a : Option ℕ) → ((n : ℕ) → P n → (m : ℕ) × Q m × (m ≤ n))
    → ((n : ℕ) → Q n → (m : ℕ) × P m × (m ≤ n)) → IsLeast P a → IsLeast Q a
is_least_bounds P Q none to back least = λ n q. least (back n q).0 (back n q).1
is_least_bounds P Q (some m) to back least =
    let (k, q, le) = to m least.0 in
    let (j, p, le') = back k q in
    let e : k ≡ m = omega (arith, least.1 j p) in
    (rw e at q, λ n h. omega (arith, least.1 (back n h).0 (back n h).1, (back n h).2))

-- the same where every number with the first property has the second
pub is_least_by : (P Q : ℕ → Type 0) (a : Option ℕ) → ((n : ℕ) → P n → Q n) → ((n : ℕ) → Q n → (m : ℕ) × P m × (m ≤ n))
    → IsLeast P a → IsLeast Q a
is_least_by P Q a to back least = is_least_bounds P Q a (λ n p. (n, to n p, omega arith)) back least

-- equivalent properties have the same least number
pub is_least_iff : (P Q : ℕ → Type 0) (a : Option ℕ) → ((n : ℕ) → P n → Q n) → ((n : ℕ) → Q n → P n) → IsLeast P a
    → IsLeast Q a
is_least_iff P Q a f back least = is_least_by P Q a f (λ n q. (n, back n q, omega arith)) least

-- a value is the least of the numbers that equal it
pub is_least_own : (a : Option ℕ) → IsLeast (λ n. a ≡ some n) a
is_least_own none = λ n e. let z : ◌≡◌ {A = ℕ} 0 1 = cc in omega arith
is_least_own (some m) = (refl, λ n e. let q : m ≡ n = cc in omega arith)

-- a number from a on that passes the test, with n numbers to go
abbrev pub Passes : (ℕ → Bool) → ℕ → ℕ → ℕ → Type 0
Passes p a n m = (a ≤ m) × (m < a + n) × T (p m)

-- seek finds the least number of its range that passes the test
pub seek_least : (p : ℕ → Bool) (a n : ℕ) → IsLeast (Passes p a n) (seek p a n)
seek_least p a zero = λ m h. omega arith
seek_least p a (suc n) =
    elim (decide (p a)) [
      | inl t ↦ rw (T_true (p a) t) ((omega arith, omega arith, t), λ m h. h.0)
      | inr t ↦
          rw (T_false (p a) t)
          (is_least_iff (Passes p (suc a) n) (Passes p a (suc n)) (seek p (suc a) n)
          (λ m h. (omega arith, omega arith, h.2)) (λ m h. (later t m h, omega arith, h.2)) (seek_least p (suc a) n))
    ]
  where
    later : T (not (p a)) → (m : ℕ) → Passes p a (suc n) m → suc a ≤ m
    later t m h = elim (lt_or_ge a m) [
      | inl l ↦ l
      | inr g ↦ let e : m ≡ a = omega arith in absurd (T_not (p a) t (rw e at h.2))
    ]

-- the lesser of two least numbers is the least with one of the properties
pub lesser_least : (P Q : ℕ → Type 0) (a b : Option ℕ) → IsLeast P a → IsLeast Q b
    → IsLeast (λ n. P n ⊎ Q n) (lesser a b)
lesser_least P Q none none p q = λ n h. elim h [ inl x ↦ p n x | inr y ↦ q n y ]
lesser_least P Q none (some b) p q = (inr q.0, λ n h. elim h [ inl x ↦ absurd (p n x) | inr y ↦ q.1 n y ])
lesser_least P Q (some a) none p q = (inl p.0, λ n h. elim h [ inl x ↦ p.1 n x | inr y ↦ absurd (q n y) ])
lesser_least P Q (some a) (some b) p q = (
  elim (lt_or_ge a b) [
    | inl l ↦ let e : a ≡ min a b = omega arith in subst (λ (x : ℕ). P x ⊎ Q x) e (inl p.0)
    | inr g ↦ let e : b ≡ min a b = omega arith in subst (λ (x : ℕ). P x ⊎ Q x) e (inr q.0)
  ],
  λ n h. elim h [ inl x ↦ omega (arith, p.1 n x) | inr y ↦ omega (arith, q.1 n y) ],
)

-- the numbers that are a sum of one with P and one with Q
abbrev pub Sums : (ℕ → Type 0) → (ℕ → Type 0) → ℕ → Type 0
Sums P Q n = (i : ℕ) × (j : ℕ) × P i × Q j × (i + j ≡ n)

-- the sum of two least numbers is the least sum
pub sum_least : (P Q : ℕ → Type 0) (a b : Option ℕ) → IsLeast P a → IsLeast Q b → IsLeast (Sums P Q) (sum a b)
sum_least P Q none b p q = λ n h. p h.0 h.2
sum_least P Q (some a) none p q = λ n h. q h.1 h.3
sum_least P Q (some a) (some b) p q =
    ((a, b, p.0, q.0, refl), λ n h. omega (arith, p.1 h.0 h.2, q.1 h.1 h.3))

-- the numbers with the property of some entry
abbrev pub OfEntry : (ℕ → ℕ → Type 0) → List ℕ → ℕ → Type 0
OfEntry P xs n = (x : ℕ) × Memᴰ x xs × P x n

-- the least of the entries' least numbers is the least number with the property of some entry
pub least_of_least : (P : ℕ → ℕ → Type 0) (f : ℕ → Option ℕ) (xs : List ℕ)
    → ((x : ℕ) → Memᴰ x xs → IsLeast (P x) (f x)) → IsLeast (OfEntry P xs) (least_of f xs)
least_of_least P f [] each = λ n h. Memᴰ.not-nil h.1
least_of_least P f (x ∷ xs) each =
    is_least_iff (λ n. P x n ⊎ OfEntry P xs n) (OfEntry P (x ∷ xs)) (lesser (f x) (least_of f xs)) from to
    (lesser_least (P x) (OfEntry P xs) (f x) (least_of f xs) (each x (Memᴰ.head refl))
    (least_of_least P f xs (λ y m. each y (Memᴰ.tail m))))
  where
    from : (n : ℕ) → P x n ⊎ OfEntry P xs n → OfEntry P (x ∷ xs) n
    from n (inl p) = (x, Memᴰ.head refl, p)
    from n (inr r) = (r.0, Memᴰ.tail r.1, r.2)

    to : (n : ℕ) → OfEntry P (x ∷ xs) n → P x n ⊎ OfEntry P xs n
    to n h = elim (Memᴰ.cases_cons h.1) [ inl e ↦ inl (rw e at h.2) | inr m ↦ inr (h.0, m, h.2) ]

-- lesser does not depend on the grouping
pub lesser_assoc : (a b c : Option ℕ) → lesser (lesser a b) c ≡ lesser a (lesser b c)
lesser_assoc none b c = refl
lesser_assoc (some a) none c = refl
lesser_assoc (some a) (some b) none = refl
lesser_assoc (some a) (some b) (some c) =
    let e : min (min a b) c ≡ min a (min b c) = omega arith in ap (λ (k : ℕ). some k) e

-- none changes nothing
pub lesser_none : (a : Option ℕ) → lesser a none ≡ a
lesser_none none = refl
lesser_none (some a) = refl

-- the least of two lists put together is the lesser of their least
pub least_of-append : (f : ℕ → Option ℕ) (xs ys : List ℕ) → least_of f (xs ++ ys) ≡ lesser (least_of f xs) (least_of f ys)
least_of-append f [] ys = refl
least_of-append f (x ∷ xs) ys = rw (least_of-append f xs ys, lesser_assoc)

-- the least over a list depends only on the values that its entries are given
pub least_of_cong : (f f' : ℕ → Option ℕ) (xs : List ℕ) → ((x : ℕ) → Memᴰ x xs → f x ≡ f' x) → least_of f xs ≡ least_of f' xs
least_of_cong f f' [] same = refl
least_of_cong f f' (x ∷ xs) same =
    rw (same x (Memᴰ.head refl), least_of_cong f f' xs (λ y m. same y (Memᴰ.tail m)))
