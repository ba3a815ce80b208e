-- The vocabulary of tests: taking conjunctions and disjunctions apart and joining them, and what the list tests of
-- specs/Lists.antt say about entries and places.
use Prim.Native.Nat.{ℕ, zero, suc, ◌+◌, ◌≤◌, ◌<◌}
use mathlib.Core.Path.{◌≡◌, refl, sym, subst}
use mathlib.Core.Logic.{◌⊎◌, inl, inr}
use mathlib.Core.Bool.{Bool, true, false, ◌&&◌, ◌||◌, not}
use mathlib.Core.List.{List, [], ◌∷◌, head?, Memᴰ}
use mathlib.Core.Option.{some}
use native.Mathlib.Omega.{arith}
use lib.ListN.{length, get_or, get_elem?}
use lib.Dec.{T, eqb, ltb, eqb→eq, eqb_refl, ltb→lt, nltb→le, T_not}
use borrow.Author.Count.{below_more}
use borrow.Author.Tests.{eqb-true, eqb-false}
use Rattle.lists.specs.Lists.{memb, differentb, anyb, cons_if, keep, up_from, below, non_emptyb}
use Rattle.lists.specs.Decides.{Decides}

-- the first part of a conjunction
pub fst : (a b : Bool) → T (a && b) → T a
fst true b h = tt
fst false b h = h

-- the second part of a conjunction
pub snd : (a b : Bool) → T (a && b) → T b
snd true b h = h
snd false b h = absurd h

-- a conjunction from its parts
pub both : (a b : Bool) → T a → T b → T (a && b)
both true b p q = q
both false b p q = p

-- one of the parts of a disjunction holds
pub either : (a b : Bool) → T (a || b) → T a ⊎ T b
either true b h = inl tt
either false b h = inr h

-- a disjunction from its first part
pub or_l : (a b : Bool) → T a → T (a || b)
or_l true b h = tt
or_l false b h = absurd h

-- a disjunction from its second part
pub or_r : (a b : Bool) → T b → T (a || b)
or_r true b h = tt
or_r false b h = h

-- a conjunction with true is its first part
pub and_true : (a : Bool) → a && true ≡ a
and_true true = refl
and_true false = refl

-- a conjunction with false is false
pub and_false : (a : Bool) → a && false ≡ false
and_false true = refl
and_false false = refl

pub ruleset parts = (fst, snd)

pub ruleset join = (both, or_l, or_r)

-- what an answer decides, it decides for an equivalent statement
pub decides_iff : {P Q : Type 0} → (P → Q) → (Q → P) → (b : Bool) → Decides P b → Decides Q b
decides_iff to back true p = to p
decides_iff to back false n = λ q. n (back q)

-- a comparison decides whether two numbers are equal
pub decides_eq : (m n : ℕ) → Decides (m ≡ n) (eqb m n)
decides_eq m n =
    (elim (eqb m n) as (λ b. eqb m n ≡ b → Decides (m ≡ n) b) [
      | true ↦ λ e. eqb-true m n e
      | false ↦ λ e q. eqb-false m n e q
    ]) refl

-- a test passes or its negation does
pub decide : (b : Bool) → T b ⊎ T (not b)
decide true = inl tt
decide false = inr tt

-- a test that passes is true
pub T_true : (b : Bool) → T b → b ≡ true
T_true true h = refl
T_true false h = absurd h

-- a test whose negation passes is false
pub T_false : (b : Bool) → T (not b) → b ≡ false
T_false true h = absurd h
T_false false h = refl

-- tests that pass in the same cases are the same
pub same_tests : (a b : Bool) → (T a → T b) → (T b → T a) → a ≡ b
same_tests true b to back = sym (T_true b (to tt))
same_tests false true to back = absurd (back tt)
same_tests false false to back = refl

-- equal numbers pass the test of equality
pub eq→eqb : (m n : ℕ) → m ≡ n → T (eqb m n)
eq→eqb m n e = rw (← e) (eqb_refl m)

-- a number is below another or not
pub lt_or_ge : (m n : ℕ) → (m < n) ⊎ (n ≤ m)
lt_or_ge m n = elim (decide (ltb m n)) [ inl t ↦ inl (ltb→lt m n t) | inr t ↦ inr (nltb→le m n t) ]

-- two numbers are equal, or one is below the other
pub eq_or_apart : (m n : ℕ) → (m ≡ n) ⊎ ((m < n) ⊎ (n < m))
eq_or_apart m n =
    elim (lt_or_ge m n) [
      | inl l ↦ inr (inl l)
      | inr g ↦ elim (lt_or_ge n m) [ inl l ↦ inr (inr l) | inr k ↦ inl (omega arith) ]
    ]

-- an entry that the test finds is at some place
pub memb_at : (x : ℕ) (xs : List ℕ) → T (memb x xs) → (j : ℕ) × (j < length xs) × (get_or xs j 0 ≡ x)
memb_at x [] h = absurd h
memb_at x (y ∷ ys) h =
    elim (either (eqb x y) (memb x ys) h) [
      | inl e ↦ (0, omega arith, sym (eqb→eq x y e))
      | inr m ↦ let r : (j : ℕ) × (j < length ys) × (get_or ys j 0 ≡ x) = memb_at x ys m in (suc r.0, omega arith, r.2)
    ]

-- the entry at a place is found by the test
pub at_memb : (xs : List ℕ) (j : ℕ) → j < length xs → T (memb (get_or xs j 0) xs)
at_memb [] j h = absurd (omega arith)
at_memb (x ∷ xs) zero h = or_l (eqb x x) (memb x xs) (eqb_refl x)
at_memb (x ∷ xs) (suc j) h = let a : ℕ = get_or xs j 0 in or_r (eqb a x) (memb a xs) (at_memb xs j (omega arith))

-- none of the first k entries of a list has the property
abbrev pub NoneOf : (ℕ → Type 0) → List ℕ → ℕ → Type 0
NoneOf P xs k = (j : ℕ) → j < k → P (get_or xs j 0) → ⊥

-- the next entry does not have it either
pub none_of_more : (P : ℕ → Type 0) (xs : List ℕ) (k x : ℕ) → NoneOf P xs k → x ≡ get_or xs k 0 → (P x → ⊥) → NoneOf P xs (k + 1)
none_of_more P xs k x before at never =
    below_more (λ j. P (get_or xs j 0) → ⊥) k before (subst (λ (y : ℕ). P y → ⊥) at never)

-- no entry has it
pub none_of_all : (P : ℕ → Type 0) (xs : List ℕ) (k x : ℕ) → length xs ≤ k → NoneOf P xs k → T (memb x xs) → P x → ⊥
none_of_all P xs k x long never m p =
    let (j, h, at) = memb_at x xs m in
    never j (omega arith) (subst P (sym at) p)

-- what the test finds is an entry
pub memb_mem : (x : ℕ) (xs : List ℕ) → T (memb x xs) → Memᴰ x xs
memb_mem x [] h = absurd h
memb_mem x (y ∷ ys) h =
    elim (either (eqb x y) (memb x ys) h) [
      | inl e ↦ mathlib.Core.List.Memᴰ.head (eqb→eq x y e)
      | inr m ↦ mathlib.Core.List.Memᴰ.tail (memb_mem x ys m)
    ]

-- an entry is found by the test
pub mem_memb : {x : ℕ} {xs : List ℕ} → Memᴰ x xs → T (memb x xs)
mem_memb {x} (mathlib.Core.List.Memᴰ.head {x = y} {xs = ys} e) = or_l (eqb x y) (memb x ys) (eq→eqb x y e)
mem_memb {x} (mathlib.Core.List.Memᴰ.tail {x = y} {xs = ys} m) = or_r (eqb x y) (memb x ys) (mem_memb m)

-- the entry at a place is an entry
pub get_d_mem : {A : Type 0} (xs : List A) (i : ℕ) (d : A) → i < length xs → Memᴰ (get_or xs i d) xs
get_d_mem [] i d h = absurd (omega arith)
get_d_mem (x ∷ xs) zero d h = mathlib.Core.List.Memᴰ.head refl
get_d_mem (x ∷ xs) (suc i) d h = mathlib.Core.List.Memᴰ.tail (get_d_mem xs i d (omega arith))

-- the first entry is the one at place 0
pub head_at : {A : Type 0} (xs : List A) → head? xs ≡ get_elem? xs 0
head_at [] = refl
head_at (x ∷ xs) = refl

-- the first entry is an entry
pub head_mem : {A : Type 0} (xs : List A) (x : A) → head? xs ≡ some x → Memᴰ x xs
head_mem [] x e = let z : ◌≡◌ {A = ℕ} 0 1 = cc in absurd (omega arith)
head_mem (y ∷ ys) x e = let q : x ≡ y = cc in mathlib.Core.List.Memᴰ.head q

-- a list that is not empty has an entry
pub non_empty_some : {A : Type 0} (xs : List A) → T (non_emptyb xs) → (x : A) × Memᴰ x xs
non_empty_some [] h = absurd h
non_empty_some (x ∷ xs) h = (x, mathlib.Core.List.Memᴰ.head refl)

-- a list that has an entry is not empty
pub some_non_empty : {A : Type 0} {x : A} (xs : List A) → Memᴰ x xs → T (non_emptyb xs)
some_non_empty [] m = mathlib.Core.List.Memᴰ.not-nil m
some_non_empty (x ∷ xs) m = tt

-- some entry passes the test: it and its membership
pub anyb_some : {A : Type 0} (p : A → Bool) (xs : List A) → T (anyb p xs) → (x : A) × Memᴰ x xs × T (p x)
anyb_some p [] h = absurd h
anyb_some {A} p (y ∷ ys) h =
    elim (either (p y) (anyb p ys) h) [
      | inl t ↦ (y, mathlib.Core.List.Memᴰ.head refl, t)
      | inr m ↦ let r : (x : A) × Memᴰ x ys × T (p x) = anyb_some p ys m in (r.0, mathlib.Core.List.Memᴰ.tail r.1, r.2)
    ]

-- an entry that passes the test makes the test of the list pass
pub some_anyb : {A : Type 0} {x : A} {xs : List A} (p : A → Bool) → Memᴰ x xs → T (p x) → T (anyb p xs)
some_anyb p (mathlib.Core.List.Memᴰ.head {x = y} {xs = ys} e) h = or_l (p y) (anyb p ys) (rw e at h)
some_anyb p (mathlib.Core.List.Memᴰ.tail {x = y} {xs = ys} m) h = or_r (p y) (anyb p ys) (some_anyb p m h)

-- the entries of up_from a n are at least a and below a + n
pub up_from_range : (a n : ℕ) {x : ℕ} → Memᴰ x (up_from a n) → (a ≤ x) × (x < a + n)
up_from_range a zero x3 = elim x3 [ ]
up_from_range a (suc n) (mathlib.Core.List.Memᴰ.head e) = omega arith
up_from_range a (suc n) (mathlib.Core.List.Memᴰ.tail m) = omega (arith, up_from_range (suc a) n m)

-- each number at least a and below a + n is an entry of up_from a n
pub range_up_from : (a n x : ℕ) → a ≤ x → x < a + n → Memᴰ x (up_from a n)
range_up_from a zero x p q = absurd (omega arith)
range_up_from a (suc n) x p q =
    elim (lt_or_ge a x) [
      | inl l ↦ mathlib.Core.List.Memᴰ.tail (range_up_from (suc a) n x l (omega arith))
      | inr g ↦ let e : x ≡ a = omega arith in mathlib.Core.List.Memᴰ.head e
    ]

-- the numbers below n are the entries of below n
pub below_lt : (n : ℕ) {x : ℕ} → Memᴰ x (below n) → x < n
below_lt n m = omega (arith, up_from_range 0 n m)

-- each number below n is an entry of below n
pub lt_below : (n x : ℕ) → x < n → Memᴰ x (below n)
lt_below n x h = range_up_from 0 n x (omega arith) (omega arith)

-- what is kept was an entry and passes the test
pub keep_mem : {A : Type 0} (p : A → Bool) (xs : List A) {x : A} → Memᴰ x (keep p xs) → Memᴰ x xs × T (p x)
keep_mem p [] m = absurd (mathlib.Core.List.Memᴰ.not-nil m)
keep_mem {A} p (y ∷ ys) {x} m =
    (elim (p y) as (λ b. p y ≡ b → Memᴰ x (cons_if b y (keep p ys)) → Memᴰ x (y ∷ ys) × T (p x)) [
      | true ↦ λ e n. elim (mathlib.Core.List.Memᴰ.cases_cons n) [
        | inl q ↦ (mathlib.Core.List.Memᴰ.head q, rw (q, e) tt)
        | inr r ↦ let k : Memᴰ x ys × T (p x) = keep_mem p ys r in (mathlib.Core.List.Memᴰ.tail k.0, k.1)
      ]
      | false ↦ λ e n. let k : Memᴰ x ys × T (p x) = keep_mem p ys n in (mathlib.Core.List.Memᴰ.tail k.0, k.1)
    ]) refl m

-- an entry that passes the test is kept
pub mem_keep : {A : Type 0} (p : A → Bool) {x : A} {xs : List A} → Memᴰ x xs → T (p x) → Memᴰ x (keep p xs)
mem_keep p (mathlib.Core.List.Memᴰ.head {x = y} {xs = ys} e) h = rw (T_true (p y) (rw e at h)) (mathlib.Core.List.Memᴰ.head e)
mem_keep p {x} (mathlib.Core.List.Memᴰ.tail {x = y} {xs = ys} m) h =
    elim (p y) as (λ b. Memᴰ x (cons_if b y (keep p ys))) [
      | true ↦ mathlib.Core.List.Memᴰ.tail (mem_keep p m h)
      | false ↦ mem_keep p m h
    ]

-- entries at two places of a list with all entries different differ
pub different_places : (xs : List ℕ) → T (differentb xs) → (i j : ℕ) → i < j → j < length xs
    → get_or xs i 0 ≡ get_or xs j 0 → ⊥
different_places [] d i j p q e = absurd (omega arith)
different_places (x ∷ xs) d i zero p q e = absurd (omega arith)
different_places (x ∷ xs) d zero (suc j) p q e =
    T_not (memb x xs) (fst (not (memb x xs)) (differentb xs) d) (subst (λ (y : ℕ). T (memb y xs)) (sym e) (at_memb xs j (omega arith)))
different_places (x ∷ xs) d (suc i) (suc j) p q e =
    different_places xs (snd (not (memb x xs)) (differentb xs) d) i j (omega arith) (omega arith) e

-- two places i < j that hold the same entry
pub record Repeat (xs : List ℕ) : Type 0 where
  pub i : ℕ
  pub j : ℕ
  pub order : i < j
  pub inside : j < length xs
  pub same : get_or xs i 0 ≡ get_or xs j 0

-- a list whose entries are not all different holds some entry twice
pub not_different_repeats : (xs : List ℕ) → T (not (differentb xs)) → Repeat xs
not_different_repeats [] d = absurd d
not_different_repeats (x ∷ xs) d =
    elim (decide (memb x xs)) [
      | inl m ↦
          let r : (j : ℕ) × (j < length xs) × (get_or xs j 0 ≡ x) = memb_at x xs m in
          record { i = 0; j = suc r.0; order = omega arith; inside = omega arith; same = sym r.2 }
      | inr n ↦
          let r : Repeat xs = not_different_repeats xs (rw (T_false (memb x xs) n) at d) in
          record { i = suc r.i; j = suc r.j; order = omega arith; inside = omega arith; same = r.same }
    ]

-- a list whose places all hold different entries passes the test
pub places_different : (xs : List ℕ) → ((i j : ℕ) → i < j → j < length xs → get_or xs i 0 ≡ get_or xs j 0 → ⊥)
    → T (differentb xs)
places_different xs apart =
    elim (decide (differentb xs)) [
      | inl d ↦ d
      | inr n ↦ let r : Repeat xs = not_different_repeats xs n in absurd (apart r.i r.j r.order r.inside r.same)
    ]
