-- What a grade says of a file's model, and that what a search or a next finds is graded "shortest".
use Rattle.std.specs.Prelude.{ℕ, ◌+◌, ◌*◌, ◌≤◌, ◌<◌, ◌≡◌, ◌↔◌, length, take, T}
use mathlib.Core.List.{List, Memᴰ}
use Rattle.std.proofs.Math.Option.{Option, some, none}
use Rattle.lasso.specs.Graph.{edges, pathb, acceptingb, loop_start}
use Rattle.lasso.specs.Roll.{roll}
use Rattle.lasso.specs.Shown.{OfLeastLength}
use Rattle.gate.specs.declared.Ask.{Ask}
use Rattle.gate.specs.Gate.{named_rules}
use Rattle.format.specs.Layout.{states}
use Rattle.model.specs.Model.{graph_of}
use Rattle.outcomes.specs.Outcome.{answered}
use Rattle.search.specs.Search.{Searched, search_outcome, search_answer}
use Rattle.next.specs.Next.{Followed, next_outcome, next_answer}
use Rattle.paths.specs.Breaks.{AllBelow, BreaksFirst}
use Rattle.grade.specs.Grade.{Said, accepting, shortest, grade_outcome}
use Rattle.grade_verdicts.specs.Shown.{AcceptingAt}
use Rattle.conditions.specs.Reasons.{NoneHolds}

-- the answer is this verdict with this place
abbrev pub IsGraded : (f : List ℕ) (t : ℕ) (xs : List ℕ) (k workRoom : ℕ) → Said → Option ℕ → Type 0
IsGraded f t xs k workRoom v p = grade_outcome f t xs k workRoom ≡ answered (record { verdict = v; place = p })

-- What a grade that is not refused says of the list with that k, in the model of the file with the marks of table t.
pub record GradeSays (f : List ℕ) (t : ℕ) (xs : List ℕ) (k workRoom : ℕ) : Type 0 where
  -- "false", with a place or without, exactly if the list with that k is no accepting path
  pub false_exactly : ((p : Option ℕ) × IsGraded f t xs k workRoom Said.false p) ↔ (AcceptingAt (graph_of f t) xs k → ⊥)
  -- "accepting", without a place, exactly if it is one and one with fewer transitions exists
  pub accepting_exactly : IsGraded f t xs k workRoom accepting none
      ↔ (AcceptingAt (graph_of f t) xs k × ((ys : List ℕ) × T (acceptingb (graph_of f t) ys) × (edges ys < edges xs)))
  -- "shortest", without a place, exactly if it is one of least length
  pub shortest_exactly : IsGraded f t xs k workRoom shortest none
      ↔ (OfLeastLength (acceptingb (graph_of f t)) xs × (k ≡ loop_start xs))
  -- that is, exactly if it is in the roll with that k
  pub shortest_in_roll : IsGraded f t xs k workRoom shortest none ↔ (Memᴰ xs (roll (graph_of f t)) × (k ≡ loop_start xs))
  -- the place j, whatever the verdict, exactly if the list breaks there and at no place before it
  pub place_exactly : (j : ℕ) → ((v : Said) × IsGraded f t xs k workRoom v (some j)) ↔ BreaksFirst (graph_of f t) xs j
  -- no place, whatever the verdict, exactly if the list is a path of states
  pub no_place_exactly : ((v : Said) × IsGraded f t xs k workRoom v none)
      ↔ (T (pathb (graph_of f t) xs) × AllBelow (graph_of f t).size xs)

-- So it is with every file, mark table, list, k and working table for which none of 22 and 1 to 12 holds.
abbrev pub GradesSay : Type 0
GradesSay =
    (f : List ℕ) (t : ℕ) (xs : List ℕ) (k workRoom : ℕ) → NoneHolds (named_rules f t workRoom) → GradeSays f t xs k workRoom

-- the list, with that k, is graded "shortest" and breaks nowhere, with every working table that has 6 × N entries
abbrev pub GradedShortest : (f : List ℕ) (t : ℕ) (xs : List ℕ) → ℕ → Type 0
GradedShortest f t xs k = (workRoom : ℕ) → 6 * states f ≤ workRoom → IsGraded f t xs k workRoom shortest none

-- whatever "found" (L, k) brings, in entries 0 to L of the answer table, is graded so by the same mark table
pub record FoundIsShortest : Type 0 where
  pub search : (f : List ℕ) (ask : Ask) (a : List ℕ) (workRoom L k rounds : ℕ)
      → search_outcome f ask (length a) workRoom ≡ answered (Searched.found L k rounds)
      → GradedShortest f ask.table (take (L + 1) (search_answer f ask a workRoom)) k
  pub next : (f : List ℕ) (t : ℕ) (earlier a : List ℕ) (workRoom L k : ℕ)
      → next_outcome f t earlier (length a) workRoom ≡ answered (Followed.found L k)
      → GradedShortest f t (take (L + 1) (next_answer f t earlier a workRoom)) k
