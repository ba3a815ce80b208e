-- What a combination answers and writes, by the first reason to refuse it that holds; and that its outcome loses nothing.
use Prim.Native.Nat.{ℕ, ◌+◌, ◌*◌, ◌≤◌, ◌<◌}
use mathlib.Core.Path.{◌≡◌, refl, sym, ap, ◌∙◌}
use mathlib.Core.Bool.{true, false}
use mathlib.Core.List.{List, ◌++◌}
use mathlib.Core.Option.{some, none}
use native.Mathlib.Omega.{arith}
use native.Mathlib.Nat.{zero-add}
use borrow.Author.Tests.{lt-ltb, le-ltb}
use lib.ListN.{length, drop}
use Rattle.format.specs.Layout.{states}
use Rattle.format.specs.Rules.{first_broken, rules, Accepted}
use Rattle.model.specs.declared.Header.{Header}
use Rattle.model.specs.Values.{Valid}
use Rattle.model.proofs.Laws.{header_numbers}
use Rattle.outcomes.specs.Outcome.{Outcome, refused, answered}
use Rattle.outcomes.proofs.OutcomeLaws.{call_answer, call_broken, call_kept}
use Rattle.outcomes.proofs.ReadBack.{result_loses_nothing}
use Rattle.text.specs.Writing.{Wrote}
use Rattle.property.specs.Property.{bad_property, ValidProperty}
use Rattle.combine_graph.specs.Combined.{combined, Combinable}
use Rattle.combine_letters.specs.Letters.{bad_letters}
use Rattle.combine_letters.proofs.LetterLaws.{letters_kept}
use Rattle.combine_outcome.specs.Combination.{too_large, combined_file, combine_reasons, combine_broken, combine_outcome, combine_output}
use Rattle.combine_outcome.proofs.ReasonLaws.{rule_decides, reasons_behind_decide}
use Rattle.combine.specs.Combine.{CombineLosesNothing}

-- no answer of a combination is lost in its outcome
pub combine_loses_nothing : CombineLosesNothing
combine_loses_nothing = result_loses_nothing (λ bytes. bytes) (λ a b e. e)

-- two files, the letters and the headers to which the reasons 1 to 17 and the bound on states do not apply can be combined
pub combinable : {f letters p : List ℕ} {h k : Header} → Valid f h → bad_letters (states f) letters ≡ false → ValidProperty p k
    → h.states * k.states ≤ 4096 → Combinable f letters p h k
combinable {f} {letters} v l w few =
    let kept-letters = letters_kept (states f) letters l in
    record {
      rule_valid = v;
      property_valid = w;
      letters_length = omega (arith, kept-letters.0, (header_numbers f v.header).0);
      letters_range = kept-letters.1;
      pairs_limit = few;
    }

module _ (f letters p out : List ℕ) where
  -- a call with these reasons, the file to be written and its length
  abbrev pub CombineIs : Outcome ℕ → List ℕ → Type 0
  CombineIs o out' = (o ≡ combine_outcome f letters p (length out)) × (out' ≡ combine_output f letters p out)

  -- a reason holds: refused with the first, and the output is untouched
  refused_is : (n : ℕ) → combine_broken f letters p (length out) ≡ some n → CombineIs (refused n) out
  refused_is n e =
      let call = call_broken (combine_reasons f letters p (length out)) (length (combined_file f letters p)) (some (combined_file f letters p)) n e in
      (sym call.outcome_is, sym (call_answer out call))

  -- one of the rule's own
  pub refused_rule : (n : ℕ) → first_broken (rules f) ≡ some n → CombineIs (refused n) out
  refused_rule n e = refused_is n (rule_decides f letters p (length out) n e)

  module _ (a : Accepted f) where
    -- 16 holds
    pub refused_16 : bad_letters (states f) letters ≡ true → CombineIs (refused 16) out
    refused_16 e = refused_is 16 (reasons_behind_decide f letters p (length out) a ∙ rw e)

    module _ (l : bad_letters (states f) letters ≡ false) where
      -- 17 holds
      pub refused_17 : bad_property p ≡ true → CombineIs (refused 17) out
      refused_17 e = refused_is 17 (reasons_behind_decide f letters p (length out) a ∙ rw (l, e))

      module _ (q : bad_property p ≡ false) where
        -- 18 holds
        pub refused_18 : too_large (combined f letters p) ≡ true → CombineIs (refused 18) out
        refused_18 e = refused_is 18 (reasons_behind_decide f letters p (length out) a ∙ rw (l, q, e))

        module _ (s : too_large (combined f letters p) ≡ false) where
          -- 15 holds
          pub refused_15 : length out < length (combined_file f letters p) → CombineIs (refused 15) out
          refused_15 less = refused_is 15 (reasons_behind_decide f letters p (length out) a ∙ rw (l, q, s, lt-ltb (length out) (length (combined_file f letters p)) less))

          -- no reason holds: the file is written from the first byte on
          pub written_is : length (combined_file f letters p) ≤ length out → {n : ℕ} {out' : List ℕ}
              → Wrote out 0 (combined_file f letters p) out' n → CombineIs (answered n) out'
          written_is room {n} {out'} w =
              let file : List ℕ = combined_file f letters p in
              let passes : combine_broken f letters p (length out) ≡ none = reasons_behind_decide f letters p (length out) a ∙ rw (l, q, s, le-ltb (length out) (length file) room) in
              let long : 0 + length file ≡ length file = zero-add (length file) in
              let bytes : length file ≡ n = sym (w.place ∙ long) in
              let call = call_kept (combine_reasons f letters p (length out)) (length file) n (some file) (some file) passes bytes refl in
              (sym call.outcome_is, w.text ∙ ap (λ (k : ℕ). file ++ drop k out) long ∙ sym (call_answer out call))
