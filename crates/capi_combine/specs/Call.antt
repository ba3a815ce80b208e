-- What a combination in C does: its report, and the output afterwards.
use Rattle.std.specs.Prelude.{ℕ, List, length}
use Rattle.combine_outcome.specs.Combination.{combine_outcome, combine_output}
use Rattle.figures.specs.Kinds.{Report, written_report}
use Rattle.figures.specs.Short.{out_too_short, if_short}

-- the report of a combination, lent the output
abbrev pub combine_call : (f letters p output out : List ℕ) → Report
combine_call f letters p output out =
    if_short out out_too_short (written_report (combine_outcome f letters p (length output)))

-- the output after a combination: untouched if `out` is too short
abbrev pub output_after_combine : (f letters p output out : List ℕ) → List ℕ
output_after_combine f letters p output out = if_short out output (combine_output f letters p output)
