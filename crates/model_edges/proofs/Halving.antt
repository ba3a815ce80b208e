-- A loop that looks for a number in an ascending list by halving: the places where it can stand.
use Prim.Native.Nat.{ℕ, ◌+◌, ◌≤◌, ◌<◌}
use mathlib.Core.Path.{◌≡◌, subst}
use mathlib.Core.Logic.{inl, inr}
use mathlib.Core.Bool.{true, false}
use mathlib.Core.List.{List}
use native.Mathlib.Omega.{arith}
use lib.ListN.{length, get_or}
use lib.Dec.{T, not_T}
use Rattle.lists.specs.Lists.{memb, ascendingb}
use Rattle.lists.proofs.Tests.{T_true, T_false, lt_or_ge, memb_at, at_memb}
use Rattle.lists.proofs.Ascending.{ascending_le, ascending_ge_place}

-- The list ascends, and every place that holds t is one from low to before high.
pub record Between (t : ℕ) (ws : List ℕ) (low high : ℕ) : Type 0 where
  pub ascends : T (ascendingb ws)
  pub within : high ≤ length ws
  pub places : (j : ℕ) → j < length ws → get_or ws j 0 ≡ t → (low ≤ j) × (j < high)

-- at first it is every place
pub between_all : (t : ℕ) (ws : List ℕ) → T (ascendingb ws) → (high : ℕ) → high ≡ length ws → Between t ws 0 high
between_all t ws a high e = record { ascends = a; within = omega arith; places = λ j i q. omega arith }

-- or every place up to t, since an entry is at least its place
pub between_first : (t : ℕ) (ws : List ℕ) → T (ascendingb ws) → t < length ws → (high : ℕ) → high ≡ t + 1 → Between t ws 0 high
between_first t ws a l high e =
    record { ascends = a; within = omega arith; places = λ j i q. omega (arith, ascending_ge_place ws a j i) }

module _ {t : ℕ} {ws : List ℕ} {low high : ℕ} (B : Between t ws low high) (m : ℕ) (inside : m < high) where
  -- an entry below t leaves the places after it
  pub between_after : get_or ws m 0 < t → Between t ws (m + 1) high
  between_after less =
      record {
        ascends = B.ascends;
        within = B.within;
        places = λ j i q. elim (lt_or_ge m j) [
          | inl l ↦ omega (arith, B.places j i q)
          | inr l ↦ absurd (omega (arith, B.within, ascending_le ws B.ascends j m l (omega (arith, B.within))))
        ];
      }

  -- an entry above t leaves the places before it
  pub between_before : t < get_or ws m 0 → Between t ws low m
  between_before more =
      record {
        ascends = B.ascends;
        within = omega (arith, B.within);
        places = λ j i q. elim (lt_or_ge j m) [
          | inl l ↦ omega (arith, B.places j i q)
          | inr l ↦ absurd (omega (arith, ascending_le ws B.ascends m j l i))
        ];
      }

  -- an entry that is t is found
  pub between_found : get_or ws m 0 ≡ t → memb t ws ≡ true
  between_found e =
      T_true (memb t ws) (subst (λ (x : ℕ). T (memb x ws)) e (at_memb ws m (omega (arith, B.within))))

-- where no place is left t is not found
pub between_none : {t : ℕ} {ws : List ℕ} {low high : ℕ} → Between t ws low high → high ≤ low → memb t ws ≡ false
between_none {t} {ws} B done = T_false (memb t ws) (not_T (memb t ws) gone)
  where
    gone : T (memb t ws) → ⊥
    gone m = let (j, i, e) = memb_at t ws m in omega (arith, B.places j i e)
