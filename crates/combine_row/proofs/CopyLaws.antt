-- A block made from an earlier one, entry by entry: what is read is as it was, and what one entry more writes.
use Prim.Native.Nat.{ℕ, ◌+◌, ◌*◌, ◌-◌, ◌<◌}
use mathlib.Core.Path.{◌≡◌, sym, ap, ◌∙◌}
use mathlib.Core.List.{List, ◌++◌, map}
use native.Mathlib.Omega.{arith}
use lib.ListN.{length, get_or}
use Rattle.lists.specs.Lists.{below}
use Rattle.lists.proofs.BelowLaws.{map-below-length, map-below_next}
use Rattle.format.specs.Bytes.{word}
use Rattle.text.specs.Writing.{Wrote}
use Rattle.text.proofs.WroteLaws.{wrote_then, wrote_as}
use Rattle.writer.specs.File.{word16, words16}
use Rattle.writer.proofs.FileLaws.{words16-length, words16-append}
use Rattle.writer.proofs.PutLaws.{put_bytes, wrote_put, put_at_before}
use Rattle.combine_row.specs.Row.{copied}

-- a number before the place is as it was before the writer
pub word_before : {t bytes t' : List ℕ} {at next : ℕ} (i : ℕ) → i + 1 < at → Wrote t at bytes t' next → word t' i ≡ word t i
word_before {t} {bytes} {t'} {at} i less w =
    ap (λ (x : List ℕ). word x i) (wrote_put w)
    ∙ ap (λ (a : ℕ). a + 256 * get_or (put_bytes at bytes t) (i + 1) 0) (put_at_before t at bytes i (omega (arith, w.room)) (omega arith))
    ∙ ap (λ (b : ℕ). get_or t i 0 + 256 * b) (put_at_before t at bytes (i + 1) (omega (arith, w.room)) less)

module _ (out : List ℕ) (from base other : ℕ) where
  -- so many copied numbers take two bytes each
  pub copied_bytes : (count : ℕ) → length (words16 (copied out from count base other)) ≡ 2 * count
  copied_bytes count =
      omega (
        arith,
        words16-length (copied out from count base other),
        map-below-length (λ (j : ℕ). other + (word out (from + 2 * j) - base)) count,
      )

  -- one number more
  copied_next : (j : ℕ)
      → words16 (copied out from (j + 1) base other)
      ≡ words16 (copied out from j base other) ++ word16 (other + (word out (from + 2 * j) - base))
  copied_next j =
      let f : ℕ → ℕ = λ i. other + (word out (from + 2 * i) - base) in
      ap words16 (map-below_next f j) ∙ words16-append (map f (below j)) _

  -- a writer of the next number, after writers of those before it
  pub wrote_copied : {t t' t'' : List ℕ} {at next next' : ℕ} (j x : ℕ) → x ≡ other + (word out (from + 2 * j) - base)
      → Wrote t at (words16 (copied out from j base other)) t' next → Wrote t' next (word16 x) t'' next'
      → Wrote t at (words16 (copied out from (j + 1) base other)) t'' next'
  wrote_copied j x e w v = wrote_as (sym (copied_next j)) (wrote_then w (wrote_as (ap word16 e) v))
