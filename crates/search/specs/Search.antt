-- A search: the first of the shortest accepting paths, if the allowance suffices and they are within the ceiling.
use Rattle.std.specs.Prelude.{ℕ, ◌≤◌, ◌≡◌, Bool, length, ltb, Result}
use Rattle.numbers.specs.declared.reason.Reason as code
use mathlib.Core.List.{List, [], ◌∷◌, ◌++◌, head?}
use Rattle.std.proofs.Math.Option.{Option, none}
use Rattle.lists.specs.Lists.{pick}
use Rattle.lasso.specs.Graph.{Graph, edges, loop_start}
use Rattle.lasso.specs.Roll.{roll_within}
use Rattle.lasso.specs.Rounds.{Record, candidates, after_rounds}
use Rattle.lasso.specs.Values.{record_of}
use Rattle.numbers.specs.Limits.{highest_ceiling}
use Rattle.gate.specs.declared.Ask.{Ask}
use Rattle.model.specs.Model.{graph_of}
use Rattle.format.specs.Rules.{Reason, first_broken}
use Rattle.outcomes.specs.Outcome.{Outcome, outcome, outcome_of, LosesNothing}
use Rattle.outcomes.specs.Tables.{list_reasons, unless_refused, written}
use Rattle.gate.specs.Gate.{named_rules, ceiling_reason}
use Rattle.search.specs.declared.SearchAnswer.{SearchAnswer}
use Rattle.search.specs.declared.SearchAnswer.TheVariants as SearchAnswers

-- A search not refused: stopped with the record, found (L, k, rounds), or none within the ceiling (rounds).
pub data Searched : Type 0 where
  stopped : Record → Searched
  found : (l k rounds : ℕ) → Searched
  none_within : (rounds : ℕ) → Searched

-- what each answer of the code's search says
abbrev pub searched_of : SearchAnswer → Searched
searched_of (SearchAnswers.Stopped r) = stopped (record_of r)
searched_of (SearchAnswers.Found l k rounds) = found l.0 k rounds
searched_of (SearchAnswers.NoneWithin rounds) = none_within rounds

-- which outcome each result of the code's search is
abbrev pub search_outcome_of : Result SearchAnswer code.Reason → Outcome Searched
search_outcome_of = outcome_of searched_of

-- no figure of a search's answer is lost in its outcome
abbrev pub SearchLosesNothing : Type 0
SearchLosesNothing = LosesNothing search_outcome_of

-- the allowance is less than the number of candidates
abbrev pub stopsb : Graph → ℕ → Bool
stopsb g allowance = ltb allowance (length (candidates g))

-- found with the list's length, its loop start and the rounds, or none within the ceiling
abbrev pub first_of : List (List ℕ) → ℕ → Searched
first_of [] rounds = none_within rounds
first_of (xs ∷ rest) rounds = found (edges xs) (loop_start xs) rounds

-- what a search not refused answers
abbrev pub searched : Graph → Ask → Searched
searched g ask =
    pick (stopsb g ask.allowance) (stopped (after_rounds g ask.ceiling.0 ask.allowance))
    (first_of (roll_within g ask.ceiling.0) (length (candidates g)))

-- the list that is to be written: the first of the roll, unless the search is stopped or the lists are longer than the
-- ceiling
abbrev pub first_due : Graph → Ask → Option (List ℕ)
first_due g ask = pick (stopsb g ask.allowance) none (head? (roll_within g ask.ceiling.0))

-- the model that a search is about: the file's, with the marks of the table that it names
abbrev pub graph_asked : List ℕ → Ask → Graph
graph_asked f ask = graph_of f ask.table

-- the reasons that a search applies: 22 before 1, 21 after 12, then 14 and 15; it skips 13
abbrev pub search_reasons : List ℕ → Ask → ℕ → ℕ → List Reason
search_reasons f ask answerRoom workRoom =
    named_rules f ask.table workRoom ++
    ceiling_reason ask.ceiling.0 ∷ list_reasons (graph_asked f ask) (first_due (graph_asked f ask) ask) answerRoom

-- what a search answers
abbrev pub search_outcome : List ℕ → Ask → ℕ → ℕ → Outcome Searched
search_outcome f ask answerRoom workRoom =
    outcome (first_broken (search_reasons f ask answerRoom workRoom)) (searched (graph_asked f ask) ask)

-- a search asks enough: it names that mark table, it is allowed so many rounds, its ceiling is not below that length, and 21
-- does not refuse it
pub record AsksEnough (t rounds l : ℕ) (ask : Ask) : Type 0 where
  pub named : ask.table ≡ t
  pub allowed : rounds ≤ ask.allowance
  pub within : l ≤ ask.ceiling.0
  pub not_high : ask.ceiling.0 ≤ highest_ceiling

-- something is so of every search that asks enough
abbrev pub WithEnough : (t rounds l : ℕ) → (Ask → Type 0) → Type 0
WithEnough t rounds l P = (ask : Ask) → AsksEnough t rounds l ask → P ask

-- the list that a search writes
abbrev pub search_list : List ℕ → Ask → ℕ → ℕ → Option (List ℕ)
search_list f ask answerRoom workRoom =
    unless_refused (first_broken (search_reasons f ask answerRoom workRoom)) (first_due (graph_asked f ask) ask)

-- the answer table after a search
abbrev pub search_answer : List ℕ → Ask → List ℕ → ℕ → List ℕ
search_answer f ask a workRoom = written (search_list f ask (length a) workRoom) a
