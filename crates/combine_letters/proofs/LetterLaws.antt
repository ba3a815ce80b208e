-- The letter table: letters that are none above 15.
use Prim.Native.Nat.{ℕ, zero, suc, ◌≤◌}
use mathlib.Core.Path.{◌≡◌}
use mathlib.Core.Bool.{false, not}
use mathlib.Core.List.{List, [], ◌∷◌}
use native.Mathlib.Omega.{arith}
use lib.ListN.{length, get_or}
use lib.Dec.{T, eqb, ltb, eqb→eq, nltb→le}
use Rattle.lists.specs.Lists.{anyb}
use Rattle.lists.proofs.Fails.{false_not, neither_l, neither_r, kept}
use Rattle.combine_letters.specs.Letters.{bad_letters}

-- no letter is above 15 where none is found to be
letters_small : (letters : List ℕ) → T (not (anyb (ltb 15) letters)) → (s : ℕ) → get_or letters s 0 ≤ 15
letters_small [] none s = omega arith
letters_small (l ∷ ls) none zero = nltb→le 15 l (neither_l (ltb 15 l) (anyb (ltb 15) ls) none)
letters_small (l ∷ ls) none (suc s) = letters_small ls (neither_r (ltb 15 l) (anyb (ltb 15) ls) none) s

-- a letter table to which reason 16 does not apply has one letter up to 15 for each state
pub letters_kept : (n : ℕ) (letters : List ℕ) → bad_letters n letters ≡ false
    → (length letters ≡ n) × ((s : ℕ) → get_or letters s 0 ≤ 15)
letters_kept n letters e =
    let clear = false_not (bad_letters n letters) e in
    let same : T (eqb (length letters) n) = search kept in
    (eqb→eq (length letters) n same, letters_small letters (search kept))
