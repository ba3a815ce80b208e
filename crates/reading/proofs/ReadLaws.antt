-- What was read of an input are its first bytes.
use Rattle.std.proofs.Common.{◌≡◌, ℕ, ◌<◌, ◌≤◌, false, List, [], ◌++◌, length, take, Option, None, Some, inl, inr, refl, sym, ap, ◌∙◌, arith, append-nil, take_all}
use Rattle.std.proofs.Math.Seq.{take_at}
use Rattle.lists.proofs.Tests.{lt_or_ge}
use Rattle.reading.specs.Reading.{FirstBytes, InputRead}

-- the bytes at the front of an input are its first ones, if they are as many as decide or all that there are
at_front : (enough : ℕ) (input read rest : List ℕ) → input ≡ read ++ rest → length read ≤ enough → (length read < enough → rest ≡ [])
    → read ≡ take enough input
at_front enough input read rest e most ended =
    elim (lt_or_ge (length read) enough) [
      | inl less ↦
          let all : input ≡ read = e ∙ ap (λ l. read ++ l) (ended less) ∙ append-nil read in
          sym (ap (take enough) all ∙ take_all enough read most)
      | inr more ↦ sym (ap (take enough) e ∙ take_at read rest enough (omega (arith, most, more)))
    ]

-- what was read, by a reader that had the bytes of an input left, and with no failed read, are its first bytes
pub first_read : {enough : ℕ} {input read : List ℕ} {after : Option (List ℕ)} → InputRead enough (Some input) after false read
    → FirstBytes enough input read
first_read {after = None} was = absurd was.bytes
first_read {enough} {input} {read} {after = Some rest} was =
    record { are = at_front enough input read rest was.bytes was.most (was.ended refl) }
