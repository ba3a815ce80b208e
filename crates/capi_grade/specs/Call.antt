-- What a grade in C does: its report, and the tables afterwards.
use Rattle.std.specs.Prelude.{ℕ, Bool, ◌||◌, List, length, ltb}
use Rattle.lists.specs.Lists.{pick}
use Rattle.gate.specs.Gate.{work_of}
use Rattle.grade.specs.Grade.{grade_outcome}
use Rattle.figures.specs.Kinds.{Report}
use Rattle.figures.specs.Short.{out_too_short, out_short}
use Rattle.grade_report.specs.Grades.{grade_report, place_in}

-- so many entries are too few for a place
abbrev pub no_entry : ℕ → Bool
no_entry entries = ltb entries 1

-- `out` has fewer than 4 entries, or the table for a place has none
abbrev pub place_short : (place out : List ℕ) → Bool
place_short place out = out_short out || no_entry (length place)

-- what happens with both as they are
abbrev pub if_place_short : {A : Type 0} → (place out : List ℕ) → A → A → A
if_place_short place out short enough = pick (place_short place out) short enough

-- the report of a grade of a list with a claimed k by mark table t, lent a table for the place, the working table and `out`
abbrev pub grade_call : List ℕ → (t : ℕ) → List ℕ → (k : ℕ) → (place w out : List ℕ) → Report
grade_call f t xs k place w out = if_place_short place out out_too_short (grade_report (grade_outcome f t xs k (length w)))

-- the table for the place after a grade: untouched if it or `out` is too short
abbrev pub place_after_grade : List ℕ → (t : ℕ) → List ℕ → (k : ℕ) → (place w out : List ℕ) → List ℕ
place_after_grade f t xs k place w out = if_place_short place out place (place_in place (grade_outcome f t xs k (length w)))

-- the working table after a grade: untouched if `out` or the table for the place is too short
abbrev pub work_after_grade : List ℕ → (t : ℕ) → (place w out : List ℕ) → List ℕ
work_after_grade f t place w out = if_place_short place out w (work_of f t w)
