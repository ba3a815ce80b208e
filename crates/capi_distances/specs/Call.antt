-- What a distance call in C does: its report, and the output afterwards.
use Rattle.std.specs.Prelude.{ℕ, List, length}
use Rattle.distances.specs.Distances.{distances_outcome, distances_output}
use Rattle.figures.specs.Kinds.{Report, written_report}
use Rattle.figures.specs.Short.{out_too_short, if_short}

-- the report of a distance call up to a ceiling, lent the output, the working table and `out`
abbrev pub distances_call : List ℕ → (ceiling : ℕ) → (output w out : List ℕ) → Report
distances_call f ceiling output w out =
    if_short out out_too_short (written_report (distances_outcome f ceiling (length output) (length w)))

-- the output after a distance call: untouched if `out` is too short
abbrev pub output_after_distances : List ℕ → (ceiling : ℕ) → (output w out : List ℕ) → List ℕ
output_after_distances f ceiling output w out = if_short out output (distances_output f ceiling output (length w))
