-- What a writer took of a text.
use Rattle.std.proofs.Common.{◌≡◌, ℕ, ◌+◌, true, List, length, take, drop, Option, Result, Ok, Err, OnOk, is_ok, ap, ◌∙◌, subst, arith}
use Rattle.std.proofs.lemmas.Bool.{false≢true}
use Rattle.std.proofs.Math.Seq.{take_at}
use Rattle.std.specs.Io.KnownBytes.{Appends}
use Rattle.text.specs.Writing.{Wrote}

-- the bytes before the place after those written at the front are those written
front : {t bytes t' : List ℕ} {next : ℕ} → Wrote t 0 bytes t' next → take next t' ≡ bytes
front {t} {bytes} {next = next} w =
    ap (take next) w.text ∙ take_at bytes (drop (0 + length bytes) t) next (omega (arith, w.place))

-- a writer that took the bytes at the front of a text, with no failed write, took those that were written there
pub taken : {T E : Type 0} {t bytes t' : List ℕ} {next : ℕ} (held holds : Option (List ℕ)) (r : Result T E) → Wrote t 0 bytes t' next
    → OnOk r (Appends held holds (take next t')) → is_ok r ≡ true → Appends held holds bytes
taken held holds (Ok x) w took ok = subst (Appends held holds) (front w) took
taken held holds (Err e) w took ok = absurd (false≢true ok)
