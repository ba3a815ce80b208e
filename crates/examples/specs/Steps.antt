-- Steps in the examples, under ceilings and by either mark table: one table, and one claim about its rows.
use Rattle.std.specs.Prelude.{ℕ, ◌*◌, ◌≡◌, List, [], ◌∷◌, map}
use Rattle.std.proofs.Math.Option.{Option, some, none}
use Rattle.lasso.specs.Rounds.{Record}
use Rattle.format.specs.Layout.{states}
use Rattle.outcomes.specs.Outcome.{Outcome, refused, answered}
use Rattle.step.specs.Step.{Stepped, finished, advanced, step_outcome}
use Rattle.format.specs.ExampleD.{file_two}
use Rattle.examples.specs.Examples.{file_d, file_bare, file_h}

-- A row of the table: a file, a mark table, a ceiling, a record, and the answer expected of a step from that record.
pub record StepRow : Type 0 where
  pub file : List ℕ
  pub table : ℕ
  pub ceiling : ℕ
  pub from : Record
  pub answer : Outcome Stepped

-- the record with so many rounds done and this best
abbrev pub after : (done : ℕ) → (best : Option ℕ) → Record
after done best = record { done = done; best = best }

-- the row of a step of H, whose rounds have the lengths 5 and 3
abbrev pub step_row : (ceiling : ℕ) → Record → Outcome Stepped → StepRow
step_row ceiling rec o = record { file = file_h; table = 0; ceiling = ceiling; from = rec; answer = o }

-- the row of a step that names a mark table, with the greatest ceiling
abbrev pub step_naming : List ℕ → (t : ℕ) → Record → Outcome Stepped → StepRow
step_naming f t rec o = record { file = f; table = t; ceiling = 4096; from = rec; answer = o }

-- the steps
abbrev pub step_rows : List StepRow
step_rows =
    -- the first round, whose length is within the ceiling or above it
    step_row 4096 (after 0 none) (answered (advanced (after 1 (some 5)))) ∷
    step_row 5 (after 0 none) (answered (advanced (after 1 (some 5)))) ∷
    step_row 4 (after 0 none) (answered (advanced (after 1 none))) ∷
    -- a best above the ceiling is kept, until a round is shorter
    step_row 4 (after 0 (some 9)) (answered (advanced (after 1 (some 9)))) ∷
    step_row 5 (after 0 (some 9)) (answered (advanced (after 1 (some 5)))) ∷
    -- the second round
    step_row 3 (after 1 (some 9)) (answered (advanced (after 2 (some 3)))) ∷
    step_row 2 (after 1 (some 9)) (answered (advanced (after 2 (some 9)))) ∷
    -- no candidate is left
    step_row 0 (after 2 (some 9)) (answered (finished (after 2 (some 9)))) ∷
    step_row 4097 (after 2 (some 9)) (refused 21) ∷
    -- D with two tables: the round of table 0 and that of table 1
    step_naming file_two 0 (after 0 none) (answered (advanced (after 1 (some 3)))) ∷
    step_naming file_two 1 (after 0 none) (answered (advanced (after 1 (some 3)))) ∷
    -- B with two tables: table 1 marks nothing
    step_naming file_bare 0 (after 0 none) (answered (advanced (after 1 (some 1)))) ∷
    step_naming file_bare 1 (after 0 none) (answered (finished (after 0 none))) ∷
    -- D with one table: table 1 holds no marks
    step_naming file_d 1 (after 0 none) (answered (finished (after 0 none))) ∷
    -- table 2, also with an empty file
    step_naming file_d 2 (after 0 none) (refused 22) ∷
    step_naming [] 2 (after 0 none) (refused 22) ∷ []

-- what a step answers at a row, with 6 × N working entries
abbrev pub step_given : StepRow → Outcome Stepped
step_given r = step_outcome r.file r.table r.ceiling r.from (6 * states r.file)

-- every row gives what is expected
abbrev pub StepsHold : Type 0
StepsHold = map step_given step_rows ≡ map (λ (r : StepRow). r.answer) step_rows
