-- A grade as numbers: a kind and one figure, and the place where the list breaks in a table of its own.
use Rattle.std.specs.Prelude.{ℕ, List, [], ◌∷◌, Result, Ok, Err}
use Rattle.std.proofs.Math.Option.{Option, some, none}
use Rattle.outcomes.specs.Outcome.{Outcome, refused, answered}
use Rattle.outcomes.specs.Tables.{written}
use Rattle.grade.specs.Grade.{Grade, graded_of}
use Rattle.grade.specs.declared.Graded.{Graded}
use Rattle.grade_verdicts.specs.Verdict.{Said, accepting, shortest}
use Rattle.figures.specs.Kinds.{Report, is_there, refusal}

-- the kind of a verdict: 108 false, 109 accepting, 110 shortest
abbrev pub verdict_kind : Said → ℕ
verdict_kind Said.false = 108
verdict_kind accepting = 109
verdict_kind shortest = 110

-- a grade: the kind of its verdict, and whether there is a place where the list breaks (1 or 0)
abbrev pub grade_report : Outcome Grade → Report
grade_report (refused n) = refusal n
grade_report (answered g) = record { kind = verdict_kind g.verdict; figures = is_there g.place ∷ [] }

-- the same of what the code's grader answers
abbrev pub report_of_graded : Graded → Report
report_of_graded graded = grade_report (answered (graded_of graded))

-- what is written to the table that is lent for a place: the place, if there is one
abbrev pub place_due : Option ℕ → Option (List ℕ)
place_due none = none
place_due (some j) = some (j ∷ [])

-- that table after a grade: the place at entry 0; no other entry changes, and none does where there is no place
abbrev pub place_in : List ℕ → Outcome Grade → List ℕ
place_in table (refused n) = table
place_in table (answered g) = written (place_due g.place) table

-- the same after the report of a result: no entry changes for an error
abbrev pub place_told : {E : Type 0} → List ℕ → Result Graded E → List ℕ
place_told table (Err e) = table
place_told table (Ok graded) = place_in table (answered (graded_of graded))
