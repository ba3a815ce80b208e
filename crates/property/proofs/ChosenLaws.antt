-- The targets of a row whose masks hold a letter: how many there are, that they are the property's, and one place more.
use Prim.Native.Nat.{ℕ, zero, suc, ◌+◌, ◌-◌, ◌<◌}
use mathlib.Core.Path.{◌≡◌, refl, sym, ap, ◌∙◌}
use mathlib.Core.Bool.{Bool, true, false, ◌&&◌, ◌||◌}
use mathlib.Core.List.{List, [], ◌∷◌, ◌++◌, map}
use native.Mathlib.Omega.{arith}
use native.Mathlib.Numerals.{add-one}
use borrow.Author.Tests.{lt-ltb, ne_eqb}
use lib.ListN.{length, get_or, take}
use lib.Dec.{eqb, eqb_refl}
use Rattle.lists.specs.Lists.{anyb, pick, cons_if, keep, up_from}
use Rattle.lists.proofs.Tests.{T_true}
use Rattle.lists.proofs.KeepLaws.{cons_if-length, keep_same}
use Rattle.lists.proofs.Sorted.{All, Sorted}
use Rattle.format.specs.Bytes.{bitb}
use Rattle.format.specs.Layout.{states, row_entry, target, row_targets}
use Rattle.model.proofs.Laws.{Facts}
use Rattle.combine_model.specs.Product.{agreeing}
use Rattle.lists.proofs.Ascending.{ascends}
use Rattle.property.specs.Property.{mask_at, row_masks, property_of, chosen}

-- as many targets are chosen as masks hold the letter
pub chosen-length : (letter : ℕ) (ms ts : List ℕ) → length ms ≡ length ts
    → length (chosen letter ms ts) ≡ length (keep (λ (m : ℕ). bitb m letter) ms)
chosen-length letter [] ts e = refl
chosen-length letter (m ∷ ms) [] e = absurd (omega arith)
chosen-length letter (m ∷ ms) (t ∷ ts) e =
    cons_if-length (bitb m letter) t (chosen letter ms ts)
    ∙ ap (λ (n : ℕ). pick (bitb m letter) 1 0 + n) (chosen-length letter ms ts (omega arith))
    ∙ sym (cons_if-length (bitb m letter) m (keep (λ (x : ℕ). bitb x letter) ms))

-- the targets chosen from the first k + 1 places: those from the first k, and the one at k if its mask holds the letter
pub chosen_next : (letter : ℕ) (ms ts : List ℕ) (k : ℕ) → k < length ms → k < length ts
    → chosen letter (take (k + 1) ms) (take (k + 1) ts)
    ≡ chosen letter (take k ms) (take k ts) ++ cons_if (bitb (get_or ms k 0) letter) (get_or ts k 0) []
chosen_next letter ms ts k lm lt =
    ap (λ (j : ℕ). chosen letter (take j ms) (take j ts)) (add-one k) ∙ go ms ts k lm lt
  where
    cons_append : (b : Bool) (x : ℕ) (xs ys : List ℕ) → cons_if b x (xs ++ ys) ≡ cons_if b x xs ++ ys
    cons_append true x xs ys = refl
    cons_append false x xs ys = refl

    go : (ms ts : List ℕ) (k : ℕ) → k < length ms → k < length ts
        → chosen letter (take (suc k) ms) (take (suc k) ts)
        ≡ chosen letter (take k ms) (take k ts) ++ cons_if (bitb (get_or ms k 0) letter) (get_or ts k 0) []
    go [] ts k lm lt = absurd (omega arith)
    go (m ∷ ms) [] k lm lt = absurd (omega arith)
    go (m ∷ ms) (t ∷ ts) zero lm lt = refl
    go (m ∷ ms) (t ∷ ts) (suc k) lm lt =
        ap (λ (r : List ℕ). cons_if (bitb m letter) t r) (go ms ts k (omega arith) (omega arith))
        ∙ cons_append (bitb m letter) t (chosen letter (take k ms) (take k ts)) (cons_if (bitb (get_or ms k 0) letter) (get_or ts k 0) [])

module _ (t : ℕ → ℕ) (b : ℕ → Bool) where
  -- some place holds x and passes
  abbrev held_at : List ℕ → ℕ → Bool
  held_at es x = anyb (λ e. eqb (t e) x && b e) es

  -- no place holds a number below all that the places hold
  held_at_none : (x : ℕ) (es : List ℕ) → All (λ y. x < y) (map t es) → held_at es x ≡ false
  held_at_none x [] a = refl
  held_at_none x (e ∷ es) a = rw (ne_eqb (t e) x (omega (arith, a.0)), held_at_none x es a.1)

  -- a place that holds another number does not matter
  held_at_past : (e : ℕ) (es : List ℕ) (xs : List ℕ) → All (λ y. t e < y) xs → All (λ x. held_at (e ∷ es) x ≡ held_at es x) xs
  held_at_past e es [] a = tt
  held_at_past e es (x ∷ xs) a = (rw (ne_eqb (t e) x (omega (arith, a.0))), held_at_past e es xs a.1)

  -- a place that holds a number less than all after it decides about that number
  held_at_here : (e : ℕ) (es : List ℕ) → All (λ y. t e < y) (map t es) → held_at (e ∷ es) (t e) ≡ b e
  held_at_here e es a = rw (T_true (eqb (t e) (t e)) (eqb_refl (t e)), held_at_none (t e) es a) (or_false (b e))
    where
      or_false : (c : Bool) → c || false ≡ c
      or_false true = refl
      or_false false = refl

module _ (t m : ℕ → ℕ) (letter : ℕ) where
  -- the numbers that ascending places hold, kept if a place that holds them passes, are chosen place by place
  pub kept_chosen : (es : List ℕ) → Sorted (λ (x y : ℕ). x < y) (map t es)
      → keep (λ (x : ℕ). anyb (λ e. eqb (t e) x && bitb (m e) letter) es) (map t es) ≡ chosen letter (map m es) (map t es)
  kept_chosen [] s = refl
  kept_chosen (e ∷ es) s =
      let b : ℕ → Bool = λ k. bitb (m k) letter in
      let behind : keep (held_at t b (e ∷ es)) (map t es) ≡ chosen letter (map m es) (map t es) =
      keep_same (held_at t b (e ∷ es)) (held_at t b es) (map t es) (held_at_past t b e es (map t es) s.0) ∙ kept_chosen es s.1 in
      ap (λ (c : Bool). cons_if c (t e) (keep (held_at t b (e ∷ es)) (map t es))) (held_at_here t b e es s.0)
      ∙ ap (λ (r : List ℕ). cons_if (b e) (t e) r) behind

-- the property's states that an edge leads to from q whose mask holds the letter are those chosen from its row
pub agreeing-chosen : {p : List ℕ} → Facts p → (letter q : ℕ) → q < states p
    → agreeing (property_of p) letter q ≡ chosen letter (row_masks p q) (row_targets p q)
agreeing-chosen {p} F letter q less =
    rw (lt-ltb q (states p) less)
    (kept_chosen (target p) (mask_at p) letter (up_from (row_entry p q) (row_entry p (q + 1) - row_entry p q))
    (ascends (row_targets p q) (F.targets_ascend q less)))
