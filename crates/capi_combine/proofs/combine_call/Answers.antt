-- `combine_call` meets its contract: the number of bytes that a combination answers fits the figure.
use Prim.Native.Nat.{ℕ}
use mathlib.Core.Path.{◌≡◌}
use mathlib.Core.List.{List}
use native.Mathlib.Omega.{arith}
use lib.ListN.{length}
use Rattle.std.specs.Prelude.{Result, Ok, Err}
use Rattle.numbers.specs.declared.reason.Reason.{Reason}
use Rattle.combine.specs.Combine.{combine_outcome_of}
use Rattle.combine_outcome.specs.Combination.{combine_outcome}
use Rattle.combine_outcome.proofs.ClaimLaws.{answered_bytes}
use Rattle.capi_combine.specs.Figures.{FigureFits}
use Rattle.capi_combine.proofs.combine_call.Goals as goal

-- a number of bytes that a combination answers fits 16 bits
answer_fits : (f letters p out : List ℕ) (r : Result ℕ Reason) → combine_outcome_of r ≡ combine_outcome f letters p (length out) → FigureFits r
answer_fits f letters p out (Err reason) e = tt
answer_fits f letters p out (Ok bytes) e = omega (arith, answered_bytes f letters p out bytes e)

pub report_combine-requires-clause-figure_fits : goal.report_combine-requires-clause-figure_fits
report_combine-requires-clause-figure_fits c =
    let a = c.args in answer_fits a.rule.now a.letters.now a.property.now a.output.now c.combine-combined.result c.combine-combined.ensures.outcome
