-- "A department's answers, lists, rounds and refusals depend only on the file's length, its bytes outside the other's marks, and
-- all else given or lent with the call."
use Rattle.std.specs.Prelude.{ℕ, ◌-◌, ◌≤◌, ◌≡◌, List}
use Rattle.lasso.specs.Rounds.{Record}
use Rattle.gate.specs.Gate.{asking, work_of}
use Rattle.step.specs.Step.{step_outcome}
use Rattle.search.specs.Search.{search_outcome, search_answer}
use Rattle.next.specs.Next.{next_outcome, next_answer}
use Rattle.grade.specs.Grade.{grade_outcome}
use Rattle.isolation.specs.SameBut.{SameBut}

-- With either file every call that names mark table t answers the same, and leaves the same in the tables that it is lent.
pub record Isolated (t : ℕ) (f f' : List ℕ) : Type 0 where
  -- a step: refused alike, or the same record
  pub step_alike : (ceiling : ℕ) (rec : Record) (workRoom : ℕ)
      → step_outcome f t ceiling rec workRoom ≡ step_outcome f' t ceiling rec workRoom
  -- a search: refused alike, or the same figures, rounds among them, and the same list
  pub search_alike : (ceiling allowance answerRoom workRoom : ℕ) → let ask = asking t ceiling allowance in
      search_outcome f ask answerRoom workRoom ≡ search_outcome f' ask answerRoom workRoom
  pub search_writes_alike : (ceiling allowance : ℕ) (a : List ℕ) (workRoom : ℕ) → let ask = asking t ceiling allowance in
      search_answer f ask a workRoom ≡ search_answer f' ask a workRoom
  -- "next": refused alike, or the same figures and the same list
  pub next_alike : (earlier : List ℕ) (answerRoom workRoom : ℕ)
      → next_outcome f t earlier answerRoom workRoom ≡ next_outcome f' t earlier answerRoom workRoom
  pub next_writes_alike : (earlier a : List ℕ) (workRoom : ℕ)
      → next_answer f t earlier a workRoom ≡ next_answer f' t earlier a workRoom
  -- the grader: refused alike, or the same grade
  pub grade_alike : (xs : List ℕ) (k workRoom : ℕ) → grade_outcome f t xs k workRoom ≡ grade_outcome f' t xs k workRoom
  -- the working table after any of them
  pub work_alike : (w : List ℕ) → work_of f t w ≡ work_of f' t w

-- So it is for both departments, and all files that differ only in the marks of the other one.
abbrev pub Isolation : Type 0
Isolation = (t : ℕ) → t ≤ 1 → (f f' : List ℕ) → SameBut (1 - t) f f' → Isolated t f f'
