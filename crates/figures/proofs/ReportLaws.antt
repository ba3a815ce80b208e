-- Figures written one after another, and reports of equal answers.
use Prim.Native.Nat.{ℕ}
use mathlib.Core.Path.{◌≡◌, sym, ◌∙◌, ap}
use mathlib.Core.List.{List}
use Rattle.std.specs.Prelude.{Result, Ok, Err}
use Rattle.numbers.specs.declared.reason.Reason.{Reason}
use Rattle.numbers.specs.Numbered.{number_of}
use Rattle.outcomes.specs.Outcome.{Outcome, refused, answered, outcome_of}
use Rattle.figures.specs.Kinds.{Report, refusal, figures_in, KindTold, figures_told}

-- the report of an answer that is known
pub reports_known : {A : Type 0} (report : A → Report) (out : List ℕ) {kind : ℕ} {after : List ℕ} {answer known : A} → answer ≡ known
    → kind ≡ (report known).kind → after ≡ figures_in out (report known)
    → (kind ≡ (report answer).kind) × (after ≡ figures_in out (report answer))
reports_known report out e k p =
    (k ∙ ap (λ x. (report x).kind) (sym e), p ∙ ap (λ x. figures_in out (report x)) (sym e))

module _ {A B : Type 0} (report : Outcome B → Report) (value : A → B) (plain : (n : ℕ) → report (refused n) ≡ refusal n) where
  -- the report of a result with a reason, of which the number is told, is that of its outcome
  pub result_reported : (r : Result A Reason) (out : List ℕ) {kind : ℕ} {after : List ℕ}
      → KindTold (λ reason n. n ≡ number_of reason) (λ a. report (answered (value a))) r kind
      → after ≡ figures_told out (λ a. report (answered (value a))) r
      → (kind ≡ (report (outcome_of value r)).kind) × (after ≡ figures_in out (report (outcome_of value r)))
  result_reported (Err reason) out k p =
      let e = sym (plain (number_of reason)) in (k ∙ ap (λ (s : Report). s.kind) e, p ∙ ap (figures_in out) e)
  result_reported (Ok a) out k p = (k, p)
