-- What a step answers: refused, finished, or the record after one more round; and that its outcome loses nothing.
use Prim.Native.Nat.{ℕ, ◌≤◌, ◌<◌}
use mathlib.Core.Path.{◌≡◌, sym, ◌∙◌, ap}
use mathlib.Core.Bool.{Bool}
use mathlib.Core.List.{List, [], ◌∷◌}
use mathlib.Core.Option.{Option, some, none}
use borrow.Author.Tests.{le-leb, lt-leb}
use lib.ListN.{length}
use Rattle.lists.specs.Lists.{pick}
use Rattle.lasso.specs.Graph.{Graph}
use Rattle.lasso.specs.Rounds.{Record, candidates, after_round}
use Rattle.model.specs.Model.{graph_of}
use Rattle.format.specs.Rules.{first_broken}
use Rattle.outcomes.specs.Outcome.{refused, answered, outcome}
use Rattle.outcomes.proofs.ReadBack.{read_record, read_record_record_of, loses_nothing, result_loses_nothing}
use Rattle.gate.specs.Gate.{named_rules, ceiling_reason}
use Rattle.format.proofs.Reasons.{broken_append}
use Rattle.gate.proofs.GateLaws.{ceiling_high, ceiling_low}
use Rattle.step.specs.declared.StepAnswer.{StepAnswer}
use Rattle.step.specs.declared.StepAnswer.TheVariants as StepAnswers
use Rattle.step.specs.Step.{Stepped, finished, advanced, stepped_of, StepLosesNothing, stepped, step_reasons, step_outcome}

module _ (f : List ℕ) (t ceiling : ℕ) (rec : Record) (workRoom : ℕ) where
  -- refused with the first reason that holds
  step_broken : (n : ℕ) → first_broken (step_reasons f t ceiling workRoom) ≡ some n → refused n ≡ step_outcome f t ceiling rec workRoom
  step_broken n e = sym (ap (λ (o : Option ℕ). outcome o (stepped (graph_of f t) ceiling rec)) e)

  -- refused with a reason of 22 and 1 to 12
  pub step_refused : (n : ℕ) → first_broken (named_rules f t workRoom) ≡ some n → refused n ≡ step_outcome f t ceiling rec workRoom
  step_refused n e = step_broken n (broken_append (named_rules f t workRoom) (ceiling_reason ceiling ∷ []) n e)

  -- refused with 21
  pub step_too_high : first_broken (named_rules f t workRoom) ≡ none → 4096 < ceiling → refused 21 ≡ step_outcome f t ceiling rec workRoom
  step_too_high e high = step_broken 21 (ceiling_high (named_rules f t workRoom) ceiling [] e high)

  module _ (e : first_broken (named_rules f t workRoom) ≡ none) (low : ceiling ≤ 4096) where
    -- not refused: answered with what the step gives
    step_answered : (s : Stepped) → stepped (graph_of f t) ceiling rec ≡ s → answered s ≡ step_outcome f t ceiling rec workRoom
    step_answered s q =
        sym (ap (λ (o : Option ℕ). outcome o (stepped (graph_of f t) ceiling rec)) (ceiling_low (named_rules f t workRoom) ceiling [] e low) ∙ ap (λ (x : Stepped). answered x) q)

    -- no candidate is left: finished, with the same record
    pub step_finished : length (candidates (graph_of f t)) ≤ rec.done → answered (finished rec) ≡ step_outcome f t ceiling rec workRoom
    step_finished le =
        let g : Graph = graph_of f t in
        step_answered (finished rec)
        (ap (λ (b : Bool). pick b (finished rec) (advanced (after_round g ceiling rec))) (le-leb (length (candidates g)) rec.done le))

    -- a candidate is left: the record after its round
    pub step_advanced : rec.done < length (candidates (graph_of f t)) → (after : Record) → after ≡ after_round (graph_of f t) ceiling rec
        → answered (advanced after) ≡ step_outcome f t ceiling rec workRoom
    step_advanced less after q =
        let g : Graph = graph_of f t in
        step_answered (advanced after)
        (ap (λ (b : Bool). pick b (finished rec) (advanced (after_round g ceiling rec))) (lt-leb (length (candidates g)) rec.done less)
        ∙ ap (λ (r : Record). advanced r) (sym q))

-- the answer of a step that says this
abbrev read_step : Stepped → StepAnswer
read_step (finished r) = StepAnswers.Finished (read_record r)
read_step (advanced r) = StepAnswers.Advanced (read_record r)

-- a step's answer is read off what it says
read_step_stepped_of : (a : StepAnswer) → read_step (stepped_of a) ≡ a
read_step_stepped_of (StepAnswers.Finished r) = ap StepAnswers.Finished (read_record_record_of r)
read_step_stepped_of (StepAnswers.Advanced r) = ap StepAnswers.Advanced (read_record_record_of r)

-- equal outcomes of a step are of equal results
pub step_loses_nothing : StepLosesNothing
step_loses_nothing = result_loses_nothing stepped_of (loses_nothing stepped_of read_step read_step_stepped_of)
