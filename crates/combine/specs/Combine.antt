-- What a combination promises: its answer and its output, which are defined in `combination`, and what each answer of the
-- code says.
use Rattle.std.specs.Prelude.{ℕ, Result}
use Rattle.numbers.specs.declared.reason.Reason.{Reason}
use Rattle.outcomes.specs.Outcome.{Outcome, outcome_of, LosesNothing}
pub use Rattle.combine_letters.specs.Letters.{bad_letters}
pub use Rattle.combine_outcome.specs.Combination.{too_large, combined_file, combine_reasons, combine_broken, combine_outcome, combine_output}

-- which outcome each result of the code is: refused with the number of its reason, or so many bytes written
abbrev pub combine_outcome_of : Result ℕ Reason → Outcome ℕ
combine_outcome_of = outcome_of (λ bytes. bytes)

-- no answer of the code is lost in these words
abbrev pub CombineLosesNothing : Type 0
CombineLosesNothing = LosesNothing combine_outcome_of
