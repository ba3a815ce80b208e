-- One step: the record after one more round under a ceiling, by the marks of the table that it names.
use Rattle.std.specs.Prelude.{ℕ, List, [], ◌∷◌, ◌++◌, Result}
use Rattle.numbers.specs.declared.reason.Reason as code
use Rattle.lists.specs.Lists.{pick}
use Rattle.lasso.specs.Graph.{Graph}
use Rattle.lasso.specs.Rounds.{Record, finishedb, after_round}
use Rattle.lasso.specs.Values.{record_of}
use Rattle.model.specs.Model.{graph_of}
use Rattle.format.specs.Rules.{Reason, first_broken}
use Rattle.outcomes.specs.Outcome.{Outcome, outcome, outcome_of, LosesNothing}
use Rattle.gate.specs.Gate.{named_rules, ceiling_reason}
use Rattle.step.specs.declared.StepAnswer.{StepAnswer}
use Rattle.step.specs.declared.StepAnswer.TheVariants as StepAnswers

-- A step not refused: the record comes back the same, or after one more round.
pub data Stepped : Type 0 where
  finished : Record → Stepped
  advanced : Record → Stepped

-- what each answer of the code's step says
abbrev pub stepped_of : StepAnswer → Stepped
stepped_of (StepAnswers.Finished r) = finished (record_of r)
stepped_of (StepAnswers.Advanced r) = advanced (record_of r)

-- which outcome each result of the code's step is
abbrev pub step_outcome_of : Result StepAnswer code.Reason → Outcome Stepped
step_outcome_of = outcome_of stepped_of

-- no figure of a step's answer is lost in its outcome
abbrev pub StepLosesNothing : Type 0
StepLosesNothing = LosesNothing step_outcome_of

-- finished with the same record if no candidate is left, else the record after the round for the candidate whose place
-- is the count
abbrev pub stepped : Graph → (ceiling : ℕ) → Record → Stepped
stepped g ceiling rec = pick (finishedb g rec) (finished rec) (advanced (after_round g ceiling rec))

-- the reasons that a step applies: 22 before 1, 21 after 12, and no further
abbrev pub step_reasons : List ℕ → (t ceiling workRoom : ℕ) → List Reason
step_reasons f t ceiling workRoom = named_rules f t workRoom ++ ceiling_reason ceiling ∷ []

-- what a step answers that names mark table t
abbrev pub step_outcome : List ℕ → (t ceiling : ℕ) → Record → (workRoom : ℕ) → Outcome Stepped
step_outcome f t ceiling rec workRoom =
    outcome (first_broken (step_reasons f t ceiling workRoom)) (stepped (graph_of f t) ceiling rec)
