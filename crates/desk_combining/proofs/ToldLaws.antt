-- What a combination tells is what its answer and its output say.
use Prim.Native.Nat.{ℕ, ◌+◌}
use mathlib.Core.Path.{◌≡◌, refl, sym, ◌∙◌, ap, subst}
use mathlib.Core.List.{List, ◌++◌}
use mathlib.Core.Option.{Option, some, none}
use native.Mathlib.Omega.{arith}
use native.Mathlib.Nat.{zero-add}
use lib.ListN.{length, drop}
use Rattle.numbers.specs.Limits.{output_bytes}
use Rattle.text.specs.Writing.{Wrote}
use Rattle.text.proofs.WroteLaws.{wrote_none, wrote_as}
use Rattle.outcomes.specs.Outcome.{Outcome, outcome}
use Rattle.outcomes.specs.Tables.{unless_refused, written}
use Rattle.combine.specs.Combine.{combined_file, combine_broken, combine_outcome, combine_output}
use Rattle.combine_outcome.proofs.ClaimLaws.{combination_holds}
use Rattle.desk_combining.specs.Combining.{file_told, bytes_told, line_told, output_text, error_text}

module _ (f letters p out : List ℕ) (long : length out ≡ output_bytes) where
  -- the output holds the file, unless the combination is refused
  output_wrote : (o : Option ℕ) → combine_broken f letters p (length out) ≡ o → let file : List ℕ = combined_file f letters p in
      Wrote out 0 (file_told (outcome o (length file)) file) (written (unless_refused o (some file)) out) (bytes_told (outcome o (length file)))
  output_wrote (some n) e = wrote_none out 0 (omega arith)
  output_wrote none e =
      let file : List ℕ = combined_file f letters p in
      let zero : 0 + length file ≡ length file = zero-add (length file) in
      record {
        room = omega (arith, (combination_holds f letters p out e).bytes_limit);
        text = ap (λ (k : ℕ). file ++ drop k out) (sym zero);
        place = sym zero;
      }

  -- the bytes for standard output
  pub output_told : {o : Outcome ℕ} {out' : List ℕ} {n : ℕ} → o ≡ combine_outcome f letters p (length out)
      → out' ≡ combine_output f letters p out → n ≡ bytes_told o → Wrote out 0 (output_text f letters p) out' n
  output_told {o} {out'} {n} e output bytes =
      let w = output_wrote (combine_broken f letters p (length out)) refl in
      let here = wrote_as (ap (λ (k : ℕ). file_told (combine_outcome f letters p k) (combined_file f letters p)) long) w in
      subst (λ (k : ℕ). Wrote out 0 (output_text f letters p) out' k) (sym (bytes ∙ ap bytes_told e))
      (subst (λ (x : List ℕ). Wrote out 0 (output_text f letters p) x (bytes_told (combine_outcome f letters p (length out)))) (sym output) here)

  -- the bytes for standard error
  pub line_told_lem : {o : Outcome ℕ} → o ≡ combine_outcome f letters p (length out) → line_told o ≡ error_text f letters p
  line_told_lem {o} e = ap line_told (e ∙ ap (λ (k : ℕ). combine_outcome f letters p k) long)
