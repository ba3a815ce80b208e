-- Lists graded in the examples: one table, and one claim about its rows.
use Rattle.std.specs.Prelude.{ℕ, ◌*◌, ◌≡◌, List, [], ◌∷◌, map}
use Rattle.std.proofs.Math.Option.{Option, some, none}
use Rattle.format.specs.Layout.{states}
use Rattle.outcomes.specs.Outcome.{Outcome, refused, answered}
use Rattle.grade.specs.Grade.{Said, accepting, shortest, Grade, grade_outcome}
use Rattle.format.specs.ExampleD.{file_two}
use Rattle.examples.specs.Examples.{file_a, file_a1, file_b, file_d, file_h}

-- A row of the table: a file, a mark table, a list with a claimed k, and the answer expected.
pub record GradeRow : Type 0 where
  pub file : List ℕ
  pub table : ℕ
  pub list : List ℕ
  pub k : ℕ
  pub answer : Outcome Grade

-- the row of a list by a mark table: the verdict, and the first place that breaks, if any
abbrev pub grades_naming : List ℕ → (t : ℕ) → List ℕ → ℕ → Said → Option ℕ → GradeRow
grades_naming f t xs k v p =
    record { file = f; table = t; list = xs; k = k; answer = answered (record { verdict = v; place = p }) }

-- the row of a list by table 0
abbrev pub grades : List ℕ → List ℕ → ℕ → Said → Option ℕ → GradeRow
grades f xs k v p = grades_naming f 0 xs k v p

-- the row of a list by table 2, which is refused
abbrev pub grade_refused : List ℕ → List ℕ → ℕ → GradeRow
grade_refused f xs k = record { file = f; table = 2; list = xs; k = k; answer = refused 22 }

-- the lists graded
abbrev pub grade_rows : List GradeRow
grade_rows =
    -- D: its two shortest lists, and a longer one
    grades file_d (0 ∷ 1 ∷ 3 ∷ 1 ∷ []) 1 shortest none ∷
    grades file_d (0 ∷ 2 ∷ 3 ∷ 2 ∷ []) 1 shortest none ∷
    grades file_d (0 ∷ 1 ∷ 3 ∷ 2 ∷ 3 ∷ []) 2 accepting none ∷
    -- another k, and a k that is not below L
    grades file_d (0 ∷ 1 ∷ 3 ∷ 1 ∷ []) 0 Said.false none ∷
    grades file_d (0 ∷ 1 ∷ 3 ∷ 1 ∷ []) 3 Said.false none ∷
    grades file_d (0 ∷ 1 ∷ 3 ∷ 1 ∷ []) 65535 Said.false none ∷
    -- all edges exist, the end does not close
    grades file_d (0 ∷ 2 ∷ 3 ∷ 1 ∷ []) 1 Said.false none ∷
    -- no edge from 0 to 3
    grades file_d (0 ∷ 3 ∷ []) 0 Said.false (some 1) ∷
    -- not from the initial state
    grades file_d (1 ∷ 3 ∷ 1 ∷ []) 0 Said.false none ∷
    -- a state twice before the end
    grades file_d (0 ∷ 1 ∷ 3 ∷ 1 ∷ 3 ∷ []) 2 Said.false none ∷
    -- 5 is no state
    grades file_d (5 ∷ []) 0 Said.false (some 0) ∷
    grades file_d (0 ∷ 1 ∷ 5 ∷ []) 0 Said.false (some 2) ∷
    -- fewer than two entries
    grades file_d [] 0 Said.false none ∷
    grades file_d (0 ∷ []) 0 Said.false none ∷
    -- H
    grades file_h (0 ∷ 1 ∷ 2 ∷ 3 ∷ 4 ∷ 1 ∷ []) 1 accepting none ∷
    grades file_h (0 ∷ 5 ∷ 6 ∷ 6 ∷ []) 2 shortest none ∷
    -- B
    grades file_b (0 ∷ 0 ∷ []) 0 shortest none ∷
    -- A with 1 and with 0 in bytes 6–7
    grades file_a1 (0 ∷ 0 ∷ []) 0 shortest none ∷
    grades file_a (0 ∷ 0 ∷ []) 0 Said.false (some 1) ∷
    -- D with two tables: table 0 marks both lists, table 1 the first alone
    grades_naming file_two 0 (0 ∷ 2 ∷ 3 ∷ 2 ∷ []) 1 shortest none ∷
    grades_naming file_two 1 (0 ∷ 1 ∷ 3 ∷ 1 ∷ []) 1 shortest none ∷
    grades_naming file_two 1 (0 ∷ 2 ∷ 3 ∷ 2 ∷ []) 1 Said.false none ∷
    -- D with one table: table 1 holds no marks
    grades_naming file_d 1 (0 ∷ 1 ∷ 3 ∷ 1 ∷ []) 1 Said.false none ∷
    -- table 2, also with an empty file
    grade_refused file_d (0 ∷ 1 ∷ 3 ∷ 1 ∷ []) 1 ∷
    grade_refused [] [] 0 ∷ []

-- what the grader answers at a row, with 6 × N working entries
abbrev pub grade_given : GradeRow → Outcome Grade
grade_given r = grade_outcome r.file r.table r.list r.k (6 * states r.file)

-- every row is graded as expected
abbrev pub GradesHold : Type 0
GradesHold = map grade_given grade_rows ≡ map (λ (r : GradeRow). r.answer) grade_rows
