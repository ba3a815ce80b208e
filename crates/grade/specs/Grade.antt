-- The grader: what it says of a list with a claimed k, by the marks of the table that it names.
use Rattle.std.specs.Prelude.{ℕ, List, Result}
use Rattle.numbers.specs.declared.reason.Reason as code
use Rattle.std.proofs.Math.Option.{Option}
use Rattle.lasso.specs.Graph.{Graph}
use Rattle.model.specs.Model.{graph_of}
use Rattle.format.specs.Rules.{first_broken}
use Rattle.paths.specs.Breaks.{first_break, break_of}
use Rattle.outcomes.specs.Outcome.{Outcome, outcome, outcome_of, LosesNothing}
use Rattle.gate.specs.Gate.{named_rules}
pub use Rattle.grade_verdicts.specs.Verdict.{Said, accepting, shortest, verdict}
use Rattle.grade.specs.declared.Verdict.{Verdict}
use Rattle.grade.specs.declared.Verdict.TheVariants as Verdicts
use Rattle.grade.specs.declared.Graded.{Graded}

-- which of them each verdict of the code is
abbrev pub verdict_of : Verdict → Said
verdict_of Verdicts.False = Said.false
verdict_of Verdicts.Accepting = accepting
verdict_of Verdicts.Shortest = shortest

-- A grade: the verdict, and the first place where the list breaks, if any.
pub record Grade : Type 0 where
  pub verdict : Said
  pub place : Option ℕ

-- which grade each answer of the code's grader is
abbrev pub graded_of : Graded → Grade
graded_of graded = record { verdict = verdict_of graded.verdict; place = break_of graded.first_break }

-- which outcome each result of the code's grader is
abbrev pub grade_outcome_of : Result Graded code.Reason → Outcome Grade
grade_outcome_of = outcome_of graded_of

-- no figure of the grader's answer is lost in its outcome
abbrev pub GradeLosesNothing : Type 0
GradeLosesNothing = LosesNothing grade_outcome_of

-- the grade of a list with a claimed k in a model
abbrev pub grade_of : Graph → List ℕ → ℕ → Grade
grade_of g xs k = record { verdict = verdict g xs k; place = first_break g xs }

-- what the grader answers that names mark table t: refused by 22 and 1 to 12 alone
abbrev pub grade_outcome : List ℕ → (t : ℕ) → List ℕ → ℕ → ℕ → Outcome Grade
grade_outcome f t xs k workRoom = outcome (first_broken (named_rules f t workRoom)) (grade_of (graph_of f t) xs k)
