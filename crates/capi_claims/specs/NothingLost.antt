-- What a report tells: a refusal by its number, which is below 100, every other answer by a kind above 100. Nothing is
-- lost: equal reports come from equal answers; of grades, equal reports with equal places.
use Rattle.std.specs.Prelude.{ℕ, ◌≤◌, ◌<◌, ◌≡◌, List, get_or, T}
use Rattle.lists.specs.Lists.{memb}
use Rattle.gate.specs.declared.Ask.{Ask}
use Rattle.lasso.specs.Rounds.{Record}
use Rattle.outcomes.specs.Numbers.{step_numbers, search_numbers, next_numbers, grade_numbers, distance_numbers}
use Rattle.outcomes.specs.Outcome.{Outcome, refused, answered}
use Rattle.step.specs.Step.{step_outcome}
use Rattle.search.specs.Search.{search_outcome}
use Rattle.next.specs.Next.{next_outcome}
use Rattle.grade.specs.Grade.{Grade, grade_outcome}
use Rattle.distances.specs.Distances.{distances_outcome}
use Rattle.figures.specs.Kinds.{Report, is_there, best_figure, record_given, refusal, written_report}
use Rattle.answers.specs.Kinds.{search_report, next_report}
use Rattle.capi_step.specs.Call.{step_report}
use Rattle.grade_report.specs.Grades.{grade_report, place_in}

-- the number of a refusal is one of these
abbrev pub OneOf : {A : Type 0} → List ℕ → Outcome A → Type 0
OneOf numbers (refused n) = T (memb n numbers)
OneOf numbers (answered a) = Unit {0}

-- the number of a refusal is one of 1 to so many
abbrev pub Numbered : {A : Type 0} → ℕ → Outcome A → Type 0
Numbered most (refused n) = (1 ≤ n) × (n ≤ most)
Numbered most (answered a) = Unit {0}

-- A report of a call's outcomes: a refusal is its number with no figures, every other answer has a kind above 100.
pub record Reports {A : Type 0} (report : Outcome A → Report) : Type 0 where
  pub refusals : (n : ℕ) → report (refused n) ≡ refusal n
  pub kinds : (a : A) → 100 < (report (answered a)).kind

-- A report that tells the outcome: equal reports come from equal outcomes if their refusals have numbers below 100.
pub record Tells {A : Type 0} (report : Outcome A → Report) : Type 0 where
  pub reports : Reports report
  pub injective : (o p : Outcome A) → Numbered 99 o → Numbered 99 p → report o ≡ report p → o ≡ p

-- Nothing is lost: so are the reports of all but a grade, whose report does not hold the place where the list breaks.
-- With the first entry of the table that is lent for the place it tells the grade, whatever stood in that table before.
-- Every refusal of a step, a search, a next, a grade or a distance call has one of the numbers of the reasons that the call
-- applies; and the record that comes out of a step is the one that its figures give to the next.
pub record NothingLost : Type 0 where
  pub step : Tells step_report
  pub search : Tells search_report
  pub next : Tells next_report
  pub written : Tells written_report
  pub grade : Reports grade_report
  pub grade_injective : (o p : Outcome Grade) (before-o before-p : List ℕ) → Numbered 99 o → Numbered 99 p
      → grade_report o ≡ grade_report p → get_or (place_in before-o o) 0 0 ≡ get_or (place_in before-p p) 0 0 → o ≡ p
  pub step_numbers : (f : List ℕ) (t ceiling : ℕ) (rec : Record) (workRoom : ℕ)
      → OneOf step_numbers (step_outcome f t ceiling rec workRoom)
  pub search_numbers : (f : List ℕ) (ask : Ask) (answerRoom workRoom : ℕ)
      → OneOf search_numbers (search_outcome f ask answerRoom workRoom)
  pub next_numbers : (f : List ℕ) (t : ℕ) (earlier : List ℕ) (answerRoom workRoom : ℕ)
      → OneOf next_numbers (next_outcome f t earlier answerRoom workRoom)
  pub grade_numbers : (f : List ℕ) (t : ℕ) (xs : List ℕ) (k workRoom : ℕ)
      → OneOf grade_numbers (grade_outcome f t xs k workRoom)
  pub distances_numbers : (f : List ℕ) (ceiling outputRoom workRoom : ℕ)
      → OneOf distance_numbers (distances_outcome f ceiling outputRoom workRoom)
  pub record_back : (rec : Record) → record_given rec.done (is_there rec.best) (best_figure rec.best) ≡ rec
