-- Places of a list: the first place of an entry, lists put together, first entries that agree, and a store after them.
use Prim.Native.Nat.{ℕ, zero, suc, ◌+◌, ◌≤◌, ◌<◌}
use mathlib.Core.Path.{◌≡◌, refl, sym, ◌∙◌, ap}
use mathlib.Core.Logic.{inl, inr}
use mathlib.Core.List.{List, [], ◌∷◌, ◌++◌}
use native.Mathlib.Omega.{arith}
use native.Mathlib.Numerals.{add-one}
use lib.ListN.{length, get_or, take, set, get_or-append}
use lib.Seq.{get_or-take, take-suc-set}
use lib.Dec.{eqb, eqb→eq}
use Rattle.lists.specs.Lists.{place_of}
use Rattle.lists.proofs.Tests.{decide, T_true, T_false, eq→eqb}

-- the first place of an entry: it holds the entry and is no later than any place that does
pub place_of_first : (x : ℕ) (xs : List ℕ) (m : ℕ) → m < length xs → get_or xs m 0 ≡ x
    → (place_of x xs ≤ m) × (get_or xs (place_of x xs) 0 ≡ x)
place_of_first x [] m h e = absurd (omega arith)
place_of_first x (y ∷ ys) zero h e = rw (T_true (eqb x y) (eq→eqb x y (sym e))) (omega arith, e)
place_of_first x (y ∷ ys) (suc m) h e =
    let (low, holds) = place_of_first x ys m (omega arith) e in
    elim (decide (eqb x y)) [
      | inl t ↦ rw (T_true (eqb x y) t) (omega arith, sym (eqb→eq x y t))
      | inr n ↦ rw (T_false (eqb x y) n) (omega arith, holds)
    ]

-- what follows does not change the first entry
pub joined_start : (q : List ℕ) (t : ℕ) (us : List ℕ) → get_or (q ++ t ∷ us) 0 0 ≡ get_or (q ++ t ∷ []) 0 0
joined_start [] t us = refl
joined_start (x ∷ q) t us = refl

-- what follows does not change the entries before it
pub joined_passed : (q : List ℕ) (t : ℕ) (us : List ℕ) (j : ℕ) → j < length q → get_or (q ++ t ∷ us) j 0 ≡ get_or q j 0
joined_passed q t us j h = get_or-append q (t ∷ us) 0 j h

-- lists with the same first j entries have the same entry at each place below j
pub take_same : (xs ys : List ℕ) (j i : ℕ) → take j xs ≡ take j ys → i < j → get_or xs i 0 ≡ get_or ys i 0
take_same xs ys j i e h = sym (get_or-take j xs i 0 h) ∙ ap (λ (zs : List ℕ). get_or zs i 0) e ∙ get_or-take j ys i 0 h

-- a store after the first p entries makes them one more
pub set-take : (w : List ℕ) (p t : ℕ) → p < length w → take (p + 1) (set w p t) ≡ take p w ++ t ∷ []
set-take w p t h = rw (add-one p) (take-suc-set w p t h)
