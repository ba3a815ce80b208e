-- The step and the search of a finder that knows no ceiling, and that a ceiling of N or more changes nothing: every answer,
-- list and figure is the same.
use Rattle.std.specs.Prelude.{ℕ, zero, suc, ◌≤◌, ◌≡◌, length, get_or}
use mathlib.Core.List.{List, ◌++◌, head?}
use Rattle.std.proofs.Math.Option.{Option, none}
use Rattle.lists.specs.Lists.{pick}
use Rattle.lasso.specs.Graph.{Graph}
use Rattle.lasso.specs.Roll.{roll}
use Rattle.lasso.specs.Rounds.{Record, candidates, round_length, with_round, finishedb}
use Rattle.numbers.specs.Limits.{highest_ceiling}
use Rattle.format.specs.Layout.{states}
use Rattle.format.specs.Rules.{Reason, first_broken, Accepted}
use Rattle.model.specs.Model.{graph_of}
use Rattle.gate.specs.declared.Ask.{Ask}
use Rattle.gate.specs.Gate.{named_rules}
use Rattle.outcomes.specs.Outcome.{Outcome, outcome}
use Rattle.outcomes.specs.Tables.{list_reasons, unless_refused, written}
use Rattle.step.specs.Step.{Stepped, finished, advanced, step_outcome}
use Rattle.search.specs.Search.{Searched, stopped, stopsb, first_of, search_outcome, search_answer}

-- the record after the round for the candidate whose place is the count, whatever that round's length
abbrev pub whole_round : Graph → Record → Record
whole_round g rec = with_round rec (round_length g (get_or (candidates g) rec.done 0))

-- the record after n rounds of a search, which starts from count 0 and best none
abbrev pub whole_rounds : Graph → (n : ℕ) → Record
whole_rounds g zero = record { done = 0; best = none }
whole_rounds g (suc n) = whole_round g (whole_rounds g n)

-- what a step answers that knows no ceiling: it goes no further than reason 12
abbrev pub whole_step_outcome : List ℕ → (t : ℕ) → Record → (workRoom : ℕ) → Outcome Stepped
whole_step_outcome f t rec workRoom =
    let g : Graph = graph_of f t in
    outcome (first_broken (named_rules f t workRoom)) (pick (finishedb g rec) (finished rec) (advanced (whole_round g rec)))

-- what a search not refused answers that knows no ceiling, in the model of the mark table that it names
abbrev pub whole_searched : Graph → (allowance : ℕ) → Searched
whole_searched g allowance =
    pick (stopsb g allowance) (stopped (whole_rounds g allowance)) (first_of (roll g) (length (candidates g)))

-- the list that it is to write: the first of the roll, unless it is stopped
abbrev pub whole_due : Graph → (allowance : ℕ) → Option (List ℕ)
whole_due g allowance = pick (stopsb g allowance) none (head? (roll g))

-- the reasons that it applies: 22, 1 to 12, 14 and 15
abbrev pub whole_reasons : List ℕ → (t allowance answerRoom workRoom : ℕ) → List Reason
whole_reasons f t allowance answerRoom workRoom =
    named_rules f t workRoom ++ list_reasons (graph_of f t) (whole_due (graph_of f t) allowance) answerRoom

-- what it answers
abbrev pub whole_search_outcome : List ℕ → (t allowance answerRoom workRoom : ℕ) → Outcome Searched
whole_search_outcome f t allowance answerRoom workRoom =
    outcome (first_broken (whole_reasons f t allowance answerRoom workRoom)) (whole_searched (graph_of f t) allowance)

-- the answer table after it
abbrev pub whole_search_answer : List ℕ → (t allowance : ℕ) → List ℕ → (workRoom : ℕ) → List ℕ
whole_search_answer f t allowance a workRoom =
    written (unless_refused (first_broken (whole_reasons f t allowance (length a) workRoom)) (whole_due (graph_of f t) allowance)) a

-- the ceiling is at most 4,096 and, for an accepted file, N or more
pub record Full (f : List ℕ) (ceiling : ℕ) : Type 0 where
  pub low : ceiling ≤ highest_ceiling
  pub covers : Accepted f → states f ≤ ceiling

-- With such a ceiling every call answers and writes what it does without one, refused calls included; and 4,096, which the
-- sheet program passes, is such a ceiling for every file.
pub record SameAsWithout : Type 0 where
  pub step : (f : List ℕ) (t ceiling : ℕ) (rec : Record) (workRoom : ℕ) → Full f ceiling
      → step_outcome f t ceiling rec workRoom ≡ whole_step_outcome f t rec workRoom
  pub search : (f : List ℕ) (ask : Ask) (answerRoom workRoom : ℕ) → Full f ask.ceiling.0
      → search_outcome f ask answerRoom workRoom ≡ whole_search_outcome f ask.table ask.allowance answerRoom workRoom
  pub table : (f : List ℕ) (ask : Ask) (a : List ℕ) (workRoom : ℕ) → Full f ask.ceiling.0
      → search_answer f ask a workRoom ≡ whole_search_answer f ask.table ask.allowance a workRoom
  pub greatest : (f : List ℕ) → Full f highest_ceiling
