-- The entries of a list that pass a test: how many there are from a place on, and that agreeing tests keep the same.
use Prim.Native.Nat.{ℕ, ◌+◌, ◌<◌}
use mathlib.Core.Path.{◌≡◌, refl, sym, ◌∙◌, ap}
use mathlib.Core.Bool.{Bool, true, false}
use mathlib.Core.List.{List, [], ◌∷◌}
use native.Mathlib.Omega.{arith}
use native.Mathlib.Numerals.{add-one}
use lib.ListN.{length, get_or, drop}
use lib.Seq.{drop-cons}
use Rattle.lists.specs.Lists.{pick, cons_if, keep}
use Rattle.lists.proofs.Sorted.{All}

-- an entry that passes counts as one, another as none
pub cons_if-length : (b : Bool) (x : ℕ) (xs : List ℕ) → length (cons_if b x xs) ≡ pick b 1 0 + length xs
cons_if-length true x xs = omega arith
cons_if-length false x xs = omega arith

-- the entries from a place on that pass: the one there, if it passes, and those after it
pub keep_from : (p : ℕ → Bool) (ws : List ℕ) (k : ℕ) → k < length ws
    → length (keep p (drop k ws)) ≡ pick (p (get_or ws k 0)) 1 0 + length (keep p (drop (k + 1) ws))
keep_from p ws k less =
    ap (λ (xs : List ℕ). length (keep p xs)) (drop-cons ws k 0 less ∙ ap (λ (j : ℕ). get_or ws k 0 ∷ drop j ws) (sym (add-one k)))
    ∙ cons_if-length (p (get_or ws k 0)) (get_or ws k 0) (keep p (drop (k + 1) ws))

-- tests that agree on the entries keep the same
pub keep_same : (p q : ℕ → Bool) (xs : List ℕ) → All (λ x. p x ≡ q x) xs → keep p xs ≡ keep q xs
keep_same p q [] a = refl
keep_same p q (x ∷ xs) a = rw a.0 (ap (λ (r : List ℕ). cons_if (q x) x r) (keep_same p q xs a.1))
