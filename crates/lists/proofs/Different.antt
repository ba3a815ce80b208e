-- Lists with all entries different: dropping entries keeps them different, and there are at most n of them below n.
use Prim.Native.Nat.{ℕ, zero, suc, ◌≤◌, ◌<◌}
use mathlib.Core.Path.{◌≡◌, refl, ap}
use mathlib.Core.Logic.{inl, inr}
use mathlib.Core.Bool.{Bool, true, false, not}
use mathlib.Core.List.{List, [], ◌∷◌, Memᴰ}
use native.Mathlib.Omega.{arith}
use lib.ListN.{length, get_or}
use lib.Dec.{T, eqb, eqb→eq, T_not, not_T}
use Rattle.lists.specs.Lists.{memb, differentb, cons_if, keep}
use Rattle.lists.proofs.Tests.{fst, snd, both, decide, T_true, T_false, eq→eqb, lt_or_ge, memb_at, memb_mem, mem_memb, keep_mem}

-- a list all of whose entries pass the test is kept whole
pub keep_all : {A : Type 0} (p : A → Bool) (xs : List A) → ((x : A) → Memᴰ x xs → T (p x)) → keep p xs ≡ xs
keep_all p [] all = refl
keep_all p (x ∷ xs) all =
    rw (T_true (p x) (all x (mathlib.Core.List.Memᴰ.head refl))) (ap (λ ys. x ∷ ys) (keep_all p xs (λ y m. all y (mathlib.Core.List.Memᴰ.tail m))))

-- what is kept of different entries is different
pub keep_different : (p : ℕ → Bool) (xs : List ℕ) → T (differentb xs) → T (differentb (keep p xs))
keep_different p [] d = tt
keep_different p (x ∷ xs) d =
    let rest : T (differentb (keep p xs)) = keep_different p xs (snd (not (memb x xs)) (differentb xs) d) in
    elim (p x) as (λ b. T (differentb (cons_if b x (keep p xs)))) [
      | true ↦ both (not (memb x (keep p xs))) (differentb (keep p xs)) (not_T (memb x (keep p xs)) gone) rest
      | false ↦ rest
    ]
  where
    gone : T (memb x (keep p xs)) → ⊥
    gone m = T_not (memb x xs) (fst (not (memb x xs)) (differentb xs) d) (mem_memb (keep_mem p xs (memb_mem x (keep p xs) m)).0)

-- the test that an entry is not v
abbrev pub other_than : ℕ → ℕ → Bool
other_than v y = not (eqb y v)

-- of different entries at most one is v
pub length_other_than : (v : ℕ) (xs : List ℕ) → T (differentb xs) → length xs ≤ suc (length (keep (other_than v) xs))
length_other_than v [] d = omega arith
length_other_than v (x ∷ xs) d =
    elim (decide (eqb x v)) [
      | inl e ↦
          let others : (y : ℕ) → Memᴰ y xs → T (other_than v y) = λ y m. not_T (eqb y v) (λ q. twice (eqb→eq x v e) (eqb→eq y v q) m) in
          rw (T_true (eqb x v) e) (omega (arith, ap length (keep_all (other_than v) xs others)))
      | inr n ↦ rw (T_false (eqb x v) n) (omega (arith, length_other_than v xs (snd (not (memb x xs)) (differentb xs) d)))
    ]
  where
    twice : {y : ℕ} → x ≡ v → y ≡ v → Memᴰ y xs → ⊥
    twice {y} p q m =
        let e : y ≡ x = cc in T_not (memb x xs) (fst (not (memb x xs)) (differentb xs) d) (rw e at (mem_memb m))

-- different entries below n are at most n
pub length_different : (n : ℕ) (xs : List ℕ) → T (differentb xs) → ((x : ℕ) → Memᴰ x xs → x < n) → length xs ≤ n
length_different zero [] d low = omega arith
length_different zero (x ∷ xs) d low = absurd (omega (arith, low x (mathlib.Core.List.Memᴰ.head refl)))
length_different (suc n) xs d low =
    omega (arith, length_other_than n xs d, length_different n (keep (other_than n) xs) (keep_different (other_than n) xs d) lower)
  where
    lower : (x : ℕ) → Memᴰ x (keep (other_than n) xs) → x < n
    lower x m =
        let k : Memᴰ x xs × T (other_than n x) = keep_mem (other_than n) xs m in
        elim (lt_or_ge x n) [
          | inl l ↦ l
          | inr g ↦ let e : x ≡ n = omega (arith, low x k.0) in absurd (T_not (eqb x n) k.1 (eq→eqb x n e))
        ]

-- the same by places: at most n places hold different entries below n
pub length_different_places : (n : ℕ) (xs : List ℕ) → T (differentb xs) → ((j : ℕ) → j < length xs → get_or xs j 0 < n)
    → length xs ≤ n
length_different_places n xs d low =
    length_different n xs d (λ x m. let (j, inside, at) = memb_at x xs (mem_memb m) in rw (← at) (low j inside))
