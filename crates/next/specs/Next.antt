-- "Next": the shortest accepting path that follows an earlier one, by the marks of the table that it names.
use Rattle.std.specs.Prelude as code
use Rattle.std.specs.Prelude.{ℕ, Bool, not, List, ◌∷◌, ◌++◌, length, Result, None, Some}
use Rattle.numbers.specs.declared.reason.Reason as reasons
use Rattle.std.proofs.Math.Option.{Option, some, none}
use Rattle.numbers.specs.Reasons as reason
use Rattle.lists.specs.Lists.{anyb}
use Rattle.lasso.specs.Graph.{Graph, edges, loop_start}
use Rattle.lasso.specs.Roll.{roll}
use Rattle.lasso.specs.Following.{sameb, following}
use Rattle.model.specs.Model.{graph_of}
use Rattle.format.specs.Rules.{Reason, first_broken}
use Rattle.outcomes.specs.Outcome.{Outcome, outcome, outcome_of, LosesNothing}
use Rattle.outcomes.specs.Tables.{list_reasons, unless_refused, written}
use Rattle.gate.specs.Gate.{named_rules}
use Rattle.next.specs.declared.NextList.{NextList}

-- A next not refused: found (L, k), or no more.
pub data Followed : Type 0 where
  found : (l k : ℕ) → Followed
  no_more : Followed

-- what each answer of the code's next says
abbrev pub followed_of : code.Option NextList → Followed
followed_of (Some listed) = found listed.length.0 listed.loop_start
followed_of None = no_more

-- which outcome each result of the code's next is
abbrev pub next_outcome_of : Result (code.Option NextList) reasons.Reason → Outcome Followed
next_outcome_of = outcome_of followed_of

-- no figure of next's answer is lost in its outcome
abbrev pub NextLosesNothing : Type 0
NextLosesNothing = LosesNothing next_outcome_of

-- 13. the earlier list, with all its entries, is not a shortest accepting path of this model
abbrev pub not_shortest : Graph → List ℕ → Bool
not_shortest g earlier = not (anyb (sameb earlier) (roll g))

-- found with the list's length and its loop start, or no more
abbrev pub followed : Option (List ℕ) → Followed
followed none = no_more
followed (some xs) = found (edges xs) (loop_start xs)

-- the reasons 13 to 15, where the model and the list that is to be written are given
abbrev pub due_reasons : Graph → List ℕ → Option (List ℕ) → ℕ → List Reason
due_reasons g earlier due answerRoom =
    record { number = reason.not_shortest; holds = not_shortest g earlier } ∷ list_reasons g due answerRoom

-- the reasons that next applies: 22 before 1, then all to 15; the list that is to be written is the one that follows the
-- earlier one
abbrev pub next_reasons : List ℕ → (t : ℕ) → List ℕ → ℕ → ℕ → List Reason
next_reasons f t earlier answerRoom workRoom =
    named_rules f t workRoom ++ due_reasons (graph_of f t) earlier (following earlier (roll (graph_of f t))) answerRoom

-- what next answers that names mark table t
abbrev pub next_outcome : List ℕ → (t : ℕ) → List ℕ → ℕ → ℕ → Outcome Followed
next_outcome f t earlier answerRoom workRoom =
    outcome (first_broken (next_reasons f t earlier answerRoom workRoom)) (followed (following earlier (roll (graph_of f t))))

-- the list that next writes
abbrev pub next_list : List ℕ → (t : ℕ) → List ℕ → ℕ → ℕ → Option (List ℕ)
next_list f t earlier answerRoom workRoom =
    unless_refused (first_broken (next_reasons f t earlier answerRoom workRoom)) (following earlier (roll (graph_of f t)))

-- the answer table after next
abbrev pub next_answer : List ℕ → (t : ℕ) → List ℕ → List ℕ → ℕ → List ℕ
next_answer f t earlier a workRoom = written (next_list f t earlier (length a) workRoom) a
