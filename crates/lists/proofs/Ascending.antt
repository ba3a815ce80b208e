-- Lists that ascend: their entries by places.
use Prim.Native.Nat.{ℕ, zero, suc, ◌≤◌, ◌<◌}
use mathlib.Core.Path.{◌≡◌, ap}
use mathlib.Core.Logic.{inl, inr}
use mathlib.Core.List.{List, [], ◌∷◌}
use native.Mathlib.Omega.{arith}
use native.Mathlib.Nat.{le_of_eq}
use lib.ListN.{length, get_or}
use lib.Dec.{T, ltb, ltb→lt, lt→ltb}
use Rattle.lists.specs.Lists.{ascendingb}
use Rattle.lists.proofs.Tests.{fst, snd, both, lt_or_ge}
use Rattle.lists.proofs.Sorted.{All, Sorted, all_mem, all_of_mem}

-- the rest of an ascending list ascends
ascending_tail : (x : ℕ) (xs : List ℕ) → T (ascendingb (x ∷ xs)) → T (ascendingb xs)
ascending_tail x [] h = tt
ascending_tail x (y ∷ ys) h = snd (ltb x y) (ascendingb (y ∷ ys)) h

-- the first entry of an ascending list is less than each later one
ascending_first : (x : ℕ) (xs : List ℕ) → T (ascendingb (x ∷ xs)) → (j : ℕ) → j < length xs → x < get_or xs j 0
ascending_first x [] h j q = absurd (omega arith)
ascending_first x (y ∷ ys) h zero q = ltb→lt x y (fst (ltb x y) (ascendingb (y ∷ ys)) h)
ascending_first x (y ∷ ys) h (suc j) q =
    omega (arith, ltb→lt x y (fst (ltb x y) (ascendingb (y ∷ ys)) h), ascending_first y ys (ascending_tail x (y ∷ ys) h) j (omega arith))

-- the entries of an ascending list ascend from place to place
pub ascending_places : (xs : List ℕ) → T (ascendingb xs) → (i j : ℕ) → i < j → j < length xs → get_or xs i 0 < get_or xs j 0
ascending_places [] h i j p q = absurd (omega arith)
ascending_places (x ∷ xs) h i zero p q = absurd (omega arith)
ascending_places (x ∷ xs) h zero (suc j) p q = ascending_first x xs h j (omega arith)
ascending_places (x ∷ xs) h (suc i) (suc j) p q = ascending_places xs (ascending_tail x xs h) i j (omega arith) (omega arith)

-- numbers that are each at most the other are equal
pub equal : (i j : ℕ) → j ≤ i → i ≤ j → i ≡ j
equal i j p q = omega arith

-- the entries of an ascending list do not fall from place to place
pub ascending_le : (xs : List ℕ) → T (ascendingb xs) → (i j : ℕ) → i ≤ j → j < length xs → get_or xs i 0 ≤ get_or xs j 0
ascending_le xs h i j p q =
    elim (lt_or_ge i j) [
      | inl l ↦ omega (arith, ascending_places xs h i j l q)
      | inr l ↦ le_of_eq (ap (λ (k : ℕ). get_or xs k 0) (equal i j l p))
    ]

-- an entry of an ascending list is at least its place
pub ascending_ge_place : (xs : List ℕ) → T (ascendingb xs) → (j : ℕ) → j < length xs → j ≤ get_or xs j 0
ascending_ge_place xs h zero q = omega arith
ascending_ge_place xs h (suc j) q =
    omega (arith, ascending_ge_place xs h j (omega arith), ascending_places xs h j (suc j) (omega arith) q)

-- each entry is less than every later one
abbrev pub Ascending : List ℕ → Type 0
Ascending xs = Sorted (λ (x y : ℕ). x < y) xs

-- what ascends after a smaller number is greater than that number
pub later_greater : (x y : ℕ) (ys : List ℕ) → x < y → All (λ z. y < z) ys → All (λ z. x < z) ys
later_greater x y ys h a =
    all_of_mem (λ z. x < z) ys (λ z m. let k : y < z = all_mem (λ z. y < z) z ys a m in omega arith)

-- a list that passes the test ascends
pub ascends : (xs : List ℕ) → T (ascendingb xs) → Ascending xs
ascends [] h = tt
ascends (x ∷ []) h = (tt, tt)
ascends (x ∷ y ∷ ys) h =
    let l : x < y = ltb→lt x y (fst (ltb x y) (ascendingb (y ∷ ys)) h) in
    let r : Ascending (y ∷ ys) = ascends (y ∷ ys) (snd (ltb x y) (ascendingb (y ∷ ys)) h) in
    ((l, later_greater x y ys l r.0), r)

-- a list that ascends passes the test
pub ascends_test : (xs : List ℕ) → Ascending xs → T (ascendingb xs)
ascends_test [] h = tt
ascends_test (x ∷ []) h = tt
ascends_test (x ∷ y ∷ ys) h = both (ltb x y) (ascendingb (y ∷ ys)) (lt→ltb x y h.0.0) (ascends_test (y ∷ ys) h.1)
