-- The 16-bit numbers of a part of a file: how many there are, which one stands at a place, and which part a row is.
use Prim.Native.Nat.{ℕ, zero, suc, ◌+◌, ◌*◌, ◌/◌, ◌-◌, ◌≤◌, ◌<◌}
use mathlib.Core.Path.{◌≡◌, refl, ◌∙◌}
use mathlib.Core.Bool.{true, false, ◌&&◌}
use mathlib.Core.List.{List, [], ◌∷◌, map}
use native.Mathlib.Omega.{arith}
use native.Mathlib.Numerals.{add-one}
use lib.ListN.{length, get_or, take, drop}
use lib.Seq.{drop-cons}
use lib.Dec.{ltb}
use borrow.Author.Tests.{lt-ltb, le-ltb}
use Rattle.lists.specs.Lists.{ascendingb, up_from}
use Rattle.format.specs.Bytes.{word, words}
use Rattle.format.specs.Layout.{row_entry, row_numbers}

-- a part holds half as many numbers as bytes
pub words-length : (xs : List ℕ) → length (words xs) ≡ length xs / 2
words-length [] = refl
words-length (a ∷ []) = refl
words-length (a ∷ b ∷ r) = omega (arith, words-length r)

-- the number at a place of a part is the one at twice that byte place
pub words_at : (xs : List ℕ) (k : ℕ) → k < length (words xs) → get_or (words xs) k 0 ≡ word xs (2 * k)
words_at [] k h = absurd (omega arith)
words_at (a ∷ []) k h = absurd (omega arith)
words_at (a ∷ b ∷ r) zero h = refl
words_at (a ∷ b ∷ r) (suc k) h =
    let e : 2 * suc k ≡ suc (suc (2 * k)) = omega arith in
    rw (e, add-one) (words_at r k (omega arith) ∙ rw add-one)

-- from a place on stand the bytes at that place and at the next, then the rest
two_more :
    (f : List ℕ) (at : ℕ) → suc at < length f → drop at f ≡ get_or f at 0 ∷ get_or f (suc at) 0 ∷ drop (suc (suc at)) f
two_more f at h = let l : at < length f = omega arith in drop-cons f at 0 l ∙ rw (drop-cons f (suc at) 0)

-- the numbers of the part from place a of a table that starts at base are the table's entries a, a + 1, ..
pub words_part :
    (f : List ℕ) (base a n : ℕ) → base + 2 * (a + n) ≤ length f
    → words (take (2 * n) (drop (base + 2 * a) f)) ≡ map (λ (e : ℕ). word f (base + 2 * e)) (up_from a n)
words_part f base a zero h = refl
words_part f base a (suc n) h =
    let at : ℕ = base + 2 * a in
    let e : 2 * suc n ≡ suc (suc (2 * n)) = omega arith in
    let q : base + 2 * suc a ≡ suc (suc at) = omega arith in
    let d : drop at f ≡ get_or f at 0 ∷ get_or f (suc at) 0 ∷ drop (suc (suc at)) f = two_more f at (omega arith) in
    rw (e, d, add-one at, ← words_part f base (suc a) n (omega arith), q)

-- the part of a table between two row entries holds the numbers of that row
pub words_row :
    (f : List ℕ) (base s a b : ℕ) → a ≡ row_entry f s → b ≡ row_entry f (s + 1) → a ≤ b → base + 2 * b ≤ length f
    → words (take (base + 2 * b - (base + 2 * a)) (drop (base + 2 * a) f)) ≡ row_numbers f base s
words_row f base s a b ea eb l h =
    let q : base + 2 * b - (base + 2 * a) ≡ 2 * (b - a) = omega arith in
    rw (q, words_part f base a (b - a) (omega arith), ea, eb)

-- the test of the numbers from place k on compares the first two and goes on after the first
ascending_step :
    (ws : List ℕ) (k : ℕ) → suc k < length ws
    → ascendingb (drop k ws) ≡ (ltb (get_or ws k 0) (get_or ws (suc k) 0) && ascendingb (drop (suc k) ws))
ascending_step [] k h = absurd (omega arith)
ascending_step (x ∷ []) k h = absurd (omega arith)
ascending_step (x ∷ y ∷ r) zero h = refl
ascending_step (x ∷ y ∷ r) (suc k) h = ascending_step (y ∷ r) k (omega arith)

-- fewer than two numbers ascend
pub ascending_end : (ws : List ℕ) (k : ℕ) → length ws ≤ suc k → ascendingb (drop k ws) ≡ true
ascending_end [] zero h = refl
ascending_end [] (suc k) h = refl
ascending_end (x ∷ []) zero h = refl
ascending_end (x ∷ y ∷ r) zero h = absurd (omega arith)
ascending_end (x ∷ ws) (suc k) h = ascending_end ws k (omega arith)

module _ (part : List ℕ) (k : ℕ) (first : 0 < k) (more : k < length part / 2) where
  -- the test from the number before place k on, by the numbers that stand in the part
  part_step :
      ascendingb (drop (k - 1) (words part)) ≡ (ltb (word part (2 * (k - 1))) (word part (2 * k)) && ascendingb (drop k (words part)))
  part_step =
      let e : suc (k - 1) ≡ k = omega arith in
      let n : length (words part) ≡ length part / 2 = words-length part in
      ascending_step (words part) (k - 1) (omega arith) ∙ rw (e, words_at part (k - 1) (omega arith), words_at part k (omega arith))

  -- a number greater than the one before leaves the test to it and the numbers after it
  pub part_rises :
      word part (2 * (k - 1)) < word part (2 * k) → ascendingb (drop (k - 1) (words part)) ≡ ascendingb (drop k (words part))
  part_rises h = part_step ∙ rw (lt-ltb (word part (2 * (k - 1))) (word part (2 * k)) h)

  -- a number not greater than the one before settles the test
  pub part_falls : word part (2 * k) ≤ word part (2 * (k - 1)) → ascendingb (drop (k - 1) (words part)) ≡ false
  part_falls h = part_step ∙ rw (le-ltb (word part (2 * (k - 1))) (word part (2 * k)) h)
