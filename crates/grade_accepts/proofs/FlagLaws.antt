-- Whether the entries of a list are all different, by a flag for each number that stood at an earlier place.
use Prim.Native.Nat.{ℕ, ◌+◌, ◌≤◌, ◌<◌}
use mathlib.Core.Path.{◌≡◌, sym, ◌∙◌, ap}
use mathlib.Core.Logic.{◌⊎◌, inl, inr}
use mathlib.Core.Bool.{true, false}
use mathlib.Core.List.{List}
use native.Mathlib.Omega.{arith}
use lib.ListN.{length, get_or, set, take, length-set}
use lib.Seq.{get_or-set_same, get_or-set_other, get_or-take, length-take-le}
use lib.Dec.{T, not_T}
use Rattle.lists.specs.Lists.{differentb}
use Rattle.lasso.specs.Graph.{edges}
use Rattle.lists.proofs.Tests.{T_true, T_false, lt_or_ge, eq_or_apart, different_places, places_different}
use Rattle.paths.specs.Breaks.{AllBelow}

-- Up to place j the entries are all different, and the entry s of the table is not zero exactly if s stood at one of those
-- places.
pub record Flags (n : ℕ) (xs w : List ℕ) (j : ℕ) : Type 0 where
  pub below : AllBelow n xs
  pub room : n ≤ length w
  pub within : j ≤ length xs
  pub apart : (i m : ℕ) → i < m → m < j → get_or xs i 0 ≡ get_or xs m 0 → ⊥
  pub flagged : (s : ℕ) → s < n → (get_or w s 0 ≡ 0 → ⊥) → (i : ℕ) × (i < j) × (get_or xs i 0 ≡ s)
  pub unflagged : (s : ℕ) → s < n → get_or w s 0 ≡ 0 → (i : ℕ) → i < j → get_or xs i 0 ≡ s → ⊥

-- on a cleared table no place was seen
pub no_flags : (n : ℕ) (xs w : List ℕ) → AllBelow n xs → n ≤ length w → ((s : ℕ) → s < n → get_or w s 0 ≡ 0) → Flags n xs w 0
no_flags n xs w low room zeros = record {
  below = low;
  room = room;
  within = omega arith;
  apart = λ i m l b e. omega arith;
  flagged = λ s l f. absurd (f (zeros s l));
  unflagged = λ s l z i b e. omega arith;
}

module _ {n : ℕ} {xs w : List ℕ} {j : ℕ} (F : Flags n xs w j) where
  -- the entry at place j is a number with a flag
  entry-below : j < length xs → get_or xs j 0 < n
  entry-below h = F.below j (omega arith)

  -- an entry whose flag is set stood at an earlier place
  pub flags_repeat : j < length xs → (get_or w (get_or xs j 0) 0 ≡ 0 → ⊥) → differentb xs ≡ false
  flags_repeat h f = T_false (differentb xs) (not_T (differentb xs) (λ d. twice d))
    where
      twice : T (differentb xs) → ⊥
      twice d =
          let (i, before, same) = F.flagged (get_or xs j 0) (entry-below h) f in different_places xs d i j before h same

  -- an entry whose flag is zero is new, and its flag is set
  pub flags_next : j < length xs → get_or w (get_or xs j 0) 0 ≡ 0 → Flags n xs (set w (get_or xs j 0) 1) (j + 1)
  flags_next h z = record {
    below = F.below;
    room = omega (arith, F.room, length-set w (get_or xs j 0) 1);
    within = omega arith;
    apart = λ i m l b e. elim (lt_or_ge m j) [
      | inl less ↦ F.apart i m l less e
      | inr more ↦
          let q : m ≡ j = omega arith in
          F.unflagged (get_or xs j 0) (entry-below h) z i (omega arith) (e ∙ ap (λ (k : ℕ). get_or xs k 0) q)
    ];
    flagged = λ s l f. elim (eq_or_apart s (get_or xs j 0)) [
      | inl q ↦ (j, omega arith, sym q)
      | inr d ↦
          let (i, before, same) = F.flagged s l (λ e. f (other s d ∙ e)) in
          (i, omega arith, same)
    ];
    unflagged = λ s l e i b same. elim (eq_or_apart s (get_or xs j 0)) [
      | inl q ↦ omega (arith, get_or-set_same w (get_or xs j 0) 1 0 (omega (arith, F.room, entry-below h)), ap (λ (k : ℕ). get_or (set w (get_or xs j 0) 1) k 0) q)
      | inr d ↦ elim (lt_or_ge i j) [
        | inl less ↦ F.unflagged s l (sym (other s d) ∙ e) i less same
        | inr more ↦
            let q : i ≡ j = omega arith in
            let at : get_or xs j 0 ≡ s = ap (λ (k : ℕ). get_or xs k 0) (sym q) ∙ same in
            elim d [ inl a ↦ omega arith | inr a ↦ omega arith ]
      ]
    ];
  }
    where
      other : (s : ℕ) → (s < get_or xs j 0) ⊎ (get_or xs j 0 < s) → get_or (set w (get_or xs j 0) 1) s 0 ≡ get_or w s 0
      other s (inl a) = get_or-set_other w (get_or xs j 0) s 1 0 (omega arith)
      other s (inr a) = get_or-set_other w (get_or xs j 0) s 1 0 (omega arith)

  -- past the last place all are different
  pub flags_end : length xs ≤ j → differentb xs ≡ true
  flags_end last = T_true (differentb xs) (places_different xs (λ i m l b e. F.apart i m l (omega arith) e))
