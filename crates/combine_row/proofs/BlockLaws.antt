-- The first block, mask by mask: what one place more writes, the room for it, and the targets that it is made from.
use Prim.Native.Nat.{ℕ, zero, suc, ◌+◌, ◌*◌, ◌≤◌, ◌<◌}
use mathlib.Core.Path.{◌≡◌, sym, ap, ◌∙◌}
use mathlib.Core.Bool.{Bool, true, false}
use mathlib.Core.List.{List, [], ◌∷◌, ◌++◌, append-nil}
use native.Mathlib.Omega.{arith}
use lib.ListN.{length, get_or, take, length-append, length-map}
use lib.Seq.{take_all}
use Rattle.lists.specs.Lists.{cons_if}
use Rattle.lists.proofs.BelowLaws.{map-append}
use Rattle.format.specs.Bytes.{bitb}
use Rattle.text.specs.Writing.{Wrote}
use Rattle.text.proofs.WroteLaws.{wrote_then, wrote_as, wrote_length}
use Rattle.writer.specs.File.{word16, words16}
use Rattle.writer.proofs.FileLaws.{words16-length, words16-append}
use Rattle.property.specs.Property.{chosen}
use Rattle.property.proofs.ChosenLaws.{chosen_next}
use Rattle.combine_row.specs.Row.{block}

-- a block takes two bytes for each of its entries
pub block_bytes_lem : (base : ℕ) (qs : List ℕ) → length (words16 (block base qs)) ≡ 2 * length qs
block_bytes_lem base qs = omega (arith, words16-length (block base qs), length-map qs (λ (q : ℕ). base + q))

-- a list no longer than another stays so with the same in front of both
cons_le : (b : Bool) (t : ℕ) (xs ys : List ℕ) → length xs ≤ length ys → length (cons_if b t xs) ≤ length (cons_if b t ys)
cons_le true t xs ys l = omega arith
cons_le false t xs ys l = l

-- no more targets are chosen from the first k places than from all
chosen-take_le : (letter : ℕ) (ms ts : List ℕ) (k : ℕ)
    → length (chosen letter (take k ms) (take k ts)) ≤ length (chosen letter ms ts)
chosen-take_le letter ms ts zero = omega arith
chosen-take_le letter [] ts (suc k) = omega arith
chosen-take_le letter (m ∷ ms) [] (suc k) = omega arith
chosen-take_le letter (m ∷ ms) (t ∷ ts) (suc k) =
    cons_le (bitb m letter) t (chosen letter (take k ms) (take k ts)) (chosen letter ms ts) (chosen-take_le letter ms ts k)

-- entries below a bound stay below it with another in front
chosen_cons_below : (b : Bool) (t size : ℕ) (xs : List ℕ) → t < size → ((j : ℕ) → j < length xs → get_or xs j 0 < size)
    → (j : ℕ) → j < length (cons_if b t xs) → get_or (cons_if b t xs) j 0 < size
chosen_cons_below true t size xs l h zero less = l
chosen_cons_below true t size xs l h (suc j) less = h j (omega arith)
chosen_cons_below false t size xs l h j less = h j less

-- the chosen targets are below a bound that all targets are below
pub chosen-below : (letter size : ℕ) (ms ts : List ℕ) → ((k : ℕ) → k < length ts → get_or ts k 0 < size)
    → (j : ℕ) → j < length (chosen letter ms ts) → get_or (chosen letter ms ts) j 0 < size
chosen-below letter size [] ts h j less = absurd (omega arith)
chosen-below letter size (m ∷ ms) [] h j less = absurd (omega arith)
chosen-below letter size (m ∷ ms) (t ∷ ts) h j less =
    chosen_cons_below (bitb m letter) t size (chosen letter ms ts) (h 0 (omega arith))
    (chosen-below letter size ms ts (λ (k : ℕ) (l : k < length ts). h (suc k) (omega arith))) j less

module _ (letter base : ℕ) (ms ts : List ℕ) where
  -- the bytes of the block that the first k places give
  abbrev pub block_bytes : ℕ → List ℕ
  block_bytes k = words16 (block base (chosen letter (take k ms) (take k ts)))

  -- one place more adds its target's number, if its mask holds the letter
  block_next : (k : ℕ) → k < length ms → k < length ts
      → block_bytes (k + 1) ≡ block_bytes k ++ words16 (block base (cons_if (bitb (get_or ms k 0) letter) (get_or ts k 0) []))
  block_next k lm lt =
      let now : List ℕ = chosen letter (take k ms) (take k ts) in
      let more : List ℕ = cons_if (bitb (get_or ms k 0) letter) (get_or ts k 0) [] in
      ap (λ (qs : List ℕ). words16 (block base qs)) (chosen_next letter ms ts k lm lt)
      ∙ ap words16 (map-append (λ (q : ℕ). base + q) now more)
      ∙ words16-append (block base now) (block base more)

  -- a mask that holds the letter: its target's number comes after
  block_held : (k : ℕ) → k < length ms → k < length ts → bitb (get_or ms k 0) letter ≡ true
      → block_bytes (k + 1) ≡ block_bytes k ++ word16 (base + get_or ts k 0)
  block_held k lm lt e =
      block_next k lm lt ∙ ap (λ (b : Bool). block_bytes k ++ words16 (block base (cons_if b (get_or ts k 0) []))) e

  -- a mask that does not hold the letter: nothing comes after
  block_passed : (k : ℕ) → k < length ms → k < length ts → bitb (get_or ms k 0) letter ≡ false
      → block_bytes (k + 1) ≡ block_bytes k
  block_passed k lm lt e =
      block_next k lm lt
      ∙ ap (λ (b : Bool). block_bytes k ++ words16 (block base (cons_if b (get_or ts k 0) []))) e
      ∙ append-nil (block_bytes k)

  -- where all chosen targets have room, the next has room if its mask holds the letter
  pub held_room : {t t' : List ℕ} {at next : ℕ} (k : ℕ) → k < length ms → k < length ts → bitb (get_or ms k 0) letter ≡ true
      → at + 2 * length (chosen letter ms ts) ≤ length t → Wrote t at (block_bytes k) t' next → next + 2 ≤ length t'
  held_room k lm lt e room w =
      let x : ℕ = base + get_or ts k 0 in
      omega (
        arith,
        ap length (block_held k lm lt e),
        length-append (block_bytes k) (word16 x),
        block_bytes_lem base (chosen letter (take (k + 1) ms) (take (k + 1) ts)),
        chosen-take_le letter ms ts (k + 1),
        wrote_length w,
        w.place,
      )

  -- a writer of the target's number where the mask holds the letter, after writers of the places before it
  pub wrote_held : {t t' t'' : List ℕ} {at next next' : ℕ} (k x : ℕ) → k < length ms → k < length ts
      → bitb (get_or ms k 0) letter ≡ true → x ≡ base + get_or ts k 0
      → Wrote t at (block_bytes k) t' next → Wrote t' next (word16 x) t'' next' → Wrote t at (block_bytes (k + 1)) t'' next'
  wrote_held k x lm lt e q w v = wrote_as (sym (block_held k lm lt e)) (wrote_then w (wrote_as (ap word16 q) v))

  -- where the mask does not hold the letter nothing is written
  pub wrote_passed : {t t' : List ℕ} {at next : ℕ} (k : ℕ) → k < length ms → k < length ts
      → bitb (get_or ms k 0) letter ≡ false → Wrote t at (block_bytes k) t' next → Wrote t at (block_bytes (k + 1)) t' next
  wrote_passed k lm lt e w = wrote_as (sym (block_passed k lm lt e)) w

  -- the block is written once all places are looked at
  pub wrote_block : {t t' : List ℕ} {at next : ℕ} (k : ℕ) → length ms ≤ k → length ts ≤ k
      → Wrote t at (block_bytes k) t' next → Wrote t at (words16 (block base (chosen letter ms ts))) t' next
  wrote_block k lm lt w =
      wrote_as
      (ap (λ (xs : List ℕ). words16 (block base (chosen letter xs (take k ts)))) (take_all k ms lm)
      ∙ ap (λ (xs : List ℕ). words16 (block base (chosen letter ms xs))) (take_all k ts lt)) w
