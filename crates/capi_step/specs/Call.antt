-- What a step in C does: its report.
use Rattle.std.specs.Prelude.{ℕ, List, length}
use Rattle.lasso.specs.Rounds.{Record}
use Rattle.outcomes.specs.Outcome.{Outcome, refused, answered}
use Rattle.step.specs.Step.{Stepped, finished, advanced, step_outcome}
use Rattle.figures.specs.Kinds.{Report, record_figures, refusal}
use Rattle.figures.specs.Short.{out_too_short, if_short}

-- a step: 105 finished, 106 advanced
abbrev pub step_report : Outcome Stepped → Report
step_report (refused n) = refusal n
step_report (answered (finished rec)) = record { kind = 105; figures = record_figures rec }
step_report (answered (advanced rec)) = record { kind = 106; figures = record_figures rec }

-- the report of a step on a file by mark table t under a ceiling from a record, lent the working table and `out`
abbrev pub step_call : List ℕ → (t ceiling : ℕ) → Record → (w out : List ℕ) → Report
step_call f t ceiling rec w out = if_short out out_too_short (step_report (step_outcome f t ceiling rec (length w)))
