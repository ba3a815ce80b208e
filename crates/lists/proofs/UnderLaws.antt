-- Laws of numbers under a limit: when one is there, that the least one stays the least, and limits one after another.
use Prim.Native.Nat.{ℕ, suc, ◌+◌, ◌≤◌, ◌<◌, min}
use mathlib.Core.Path.{◌≡◌, refl, sym, ◌∙◌, ap}
use mathlib.Core.Logic.{inl, inr}
use mathlib.Core.List.{List, [], ◌∷◌}
use mathlib.Core.Option.{Option, some, none}
use native.Mathlib.Omega.{arith}
use borrow.Author.Tests.{lt-ltb, le-ltb}
use Rattle.lists.proofs.Tests.{lt_or_ge}
use Rattle.lists.proofs.Least.{IsLeast, is_least_own, lesser_none}
use Rattle.lists.specs.Limit.{under}
use Rattle.lists.specs.Least.{lesser, sum, least_of}

-- a number below the limit stays
pub under_lt : (limit k : ℕ) → k < limit → under limit (some k) ≡ some k
under_lt limit k l = rw (lt-ltb k limit l)

-- a number at or above the limit goes
pub under_ge : (limit k : ℕ) → limit ≤ k → under limit (some k) ≡ none
under_ge limit k l = rw (le-ltb k limit l)

-- the least number with a property, under a limit, is the least of those below the limit
pub under_least : (P : ℕ → Type 0) (limit : ℕ) (a : Option ℕ) → IsLeast P a → IsLeast (λ k. P k × (k < limit)) (under limit a)
under_least P limit none least = λ n h. least n h.0
under_least P limit (some k) least =
    elim (lt_or_ge k limit) [
      | inl l ↦ rw (under_lt limit k l) ((least.0, l), λ n h. least.1 n h.0)
      | inr g ↦ rw (under_ge limit k g) (λ n h. omega (arith, least.1 n h.0))
    ]

-- what is under a limit was there and is below it
pub under_some : (limit : ℕ) (a : Option ℕ) (k : ℕ) → under limit a ≡ some k → (a ≡ some k) × (k < limit)
under_some limit a k e = (rw e at (under_least (λ n. a ≡ some n) limit a (is_least_own a))).0

-- what is there and below the limit is under it
pub some_under : (limit : ℕ) (a : Option ℕ) (k : ℕ) → a ≡ some k → k < limit → under limit a ≡ some k
some_under limit a k e l = rw e (under_lt limit k l)

-- two limits are the lesser one
pub under-under : (limit bound : ℕ) (a : Option ℕ) → limit ≤ bound → under limit (under bound a) ≡ under limit a
under-under limit bound none l = refl
under-under limit bound (some k) l =
    elim (lt_or_ge k bound) [
      | inl b ↦ ap (under limit) (under_lt bound k b)
      | inr g ↦ ap (under limit) (under_ge bound k g) ∙ sym (under_ge limit k (omega arith))
    ]

-- a limit above the number changes nothing
pub under_all : (limit : ℕ) (a : Option ℕ) → ((k : ℕ) → a ≡ some k → k < limit) → under limit a ≡ a
under_all limit none h = refl
under_all limit (some k) h = under_lt limit k (h k refl)

-- the lesser of two numbers under a limit is the lesser of them under it
pub lesser-under : (limit : ℕ) (a b : Option ℕ) → lesser (under limit a) (under limit b) ≡ under limit (lesser a b)
lesser-under limit none b = refl
lesser-under limit (some a) none = lesser_none (under limit (some a))
lesser-under limit (some a) (some b) =
    elim (lt_or_ge a limit) [
      | inl low ↦ elim (lt_or_ge b limit) [
        | inl l ↦
            rw (under_lt limit a low, under_lt limit b l) (sym (under_lt limit (min a b) (omega arith)))
        | inr g ↦
            let e : min a b ≡ a = omega arith in
            rw (under_lt limit a low, under_ge limit b g, e) (sym (under_lt limit a low))
      ]
      | inr high ↦ elim (lt_or_ge b limit) [
        | inl l ↦
            let e : min a b ≡ b = omega arith in
            rw (under_ge limit a high, e)
        | inr g ↦
            rw (under_ge limit a high, under_ge limit b g) (sym (under_ge limit (min a b) (omega arith)))
      ]
    ]

-- the least of the numbers under a limit is the least of them under it
pub least_of-under : (limit : ℕ) (f : ℕ → Option ℕ) (xs : List ℕ) → least_of (λ x. under limit (f x)) xs ≡ under limit (least_of f xs)
least_of-under limit f [] = refl
least_of-under limit f (x ∷ xs) =
    ap (lesser (under limit (f x))) (least_of-under limit f xs) ∙ lesser-under limit (f x) (least_of f xs)

-- a sum below the limit has no part above it
pub under-sum : (limit : ℕ) (a b : Option ℕ) → under limit (sum a (under (suc limit) b)) ≡ under limit (sum a b)
under-sum limit none b = refl
under-sum limit (some a) none = refl
under-sum limit (some a) (some b) = elim (lt_or_ge b (suc limit)) [
  | inl l ↦ ap (λ (x : Option ℕ). under limit (sum (some a) x)) (under_lt (suc limit) b l)
  | inr g ↦
      ap (λ (x : Option ℕ). under limit (sum (some a) x)) (under_ge (suc limit) b g)
      ∙ sym (under_ge limit (a + b) (omega arith))
]
