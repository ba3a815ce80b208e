-- What the value that a C function returns tells: 1 to 99 is the number of a refusal, and then nothing that was lent is
-- changed but the working table; 100 says that a table is too short, every value above is the kind of an answer.
use Rattle.std.specs.Prelude.{ℕ, ◌≤◌, ◌<◌, ◌≡◌, ◌⊎◌, List, length, T}
use Rattle.lists.specs.Lists.{memb}
use Rattle.gate.specs.declared.Ask.{Ask}
use Rattle.lasso.specs.Rounds.{Record}
use Rattle.outcomes.specs.Numbers.{step_numbers, search_numbers, next_numbers, grade_numbers, distance_numbers, combine_numbers}
use Rattle.outcomes.specs.Outcome.{Outcome, refused, answered}
use Rattle.step.specs.Step.{step_outcome}
use Rattle.search.specs.Search.{search_outcome}
use Rattle.next.specs.Next.{next_outcome}
use Rattle.grade.specs.Grade.{grade_outcome}
use Rattle.distances.specs.Distances.{distances_outcome}
use Rattle.combine_outcome.specs.Combination.{combine_outcome}
use Rattle.figures.specs.Kinds.{Report, figures_in}
use Rattle.capi_step.specs.Call.{step_call}
use Rattle.capi_search.specs.Call.{search_call, answer_after_search}
use Rattle.capi_next.specs.Call.{next_call, answer_after_next}
use Rattle.capi_grade.specs.Call.{grade_call, place_after_grade}
use Rattle.capi_distances.specs.Call.{distances_call, output_after_distances}
use Rattle.capi_combine.specs.Call.{combine_call, output_after_combine}

-- What a report tells, where the finder answers o, refusals having one of these numbers, and `out` was lent. A table
-- that every answer needs is too short if `Short` holds.
pub record Value {A : Type 0} (numbers : List ℕ) (o : Outcome A) (Short : Type 0) (out : List ℕ) (r : Report) : Type 0 where
  -- below 100 it is the number of the refusal
  pub number : r.kind < 100 → o ≡ refused r.kind
  pub among : r.kind < 100 → T (memb r.kind numbers)
  -- and every refusal is told so, if no table is too short
  pub refusals : (n : ℕ) → o ≡ refused n → (Short → ⊥) → r.kind ≡ n
  -- 100 is for a table that is, and for nothing else
  pub short : (r.kind ≡ 100 → Short) × (Short → r.kind ≡ 100)
  -- up to 100 no entry of `out` changes
  pub unchanged : r.kind ≤ 100 → figures_in out r ≡ out
  -- above 100 the call is not refused
  pub kinds : 100 < r.kind → (a : A) × (o ≡ answered a)

-- `out` is too short if it has fewer than 4 entries
abbrev pub ShortOut : List ℕ → Type 0
ShortOut out = length out < 4

-- So it is with all six functions, where `out` is too short or, for a grade, the table for the place is; and up to 100
-- no entry of the answer table, of that for the place and of the output changes.
pub record RefusalsChangeNothing : Type 0 where
  pub step : (f : List ℕ) (t ceiling : ℕ) (rec : Record) (w out : List ℕ)
      → Value step_numbers (step_outcome f t ceiling rec (length w)) (ShortOut out) out (step_call f t ceiling rec w out)
  pub search : (f : List ℕ) (ask : Ask) (a w out : List ℕ)
      → Value search_numbers (search_outcome f ask (length a) (length w)) (ShortOut out) out (search_call f ask a w out)
  pub next : (f : List ℕ) (t : ℕ) (earlier a w out : List ℕ)
      → Value next_numbers (next_outcome f t earlier (length a) (length w)) (ShortOut out) out (next_call f t earlier a w out)
  pub grade : (f : List ℕ) (t : ℕ) (xs : List ℕ) (k : ℕ) (place w out : List ℕ)
      → Value grade_numbers (grade_outcome f t xs k (length w)) (ShortOut out ⊎ (length place < 1)) out
      (grade_call f t xs k place w out)
  pub distances : (f : List ℕ) (ceiling : ℕ) (output w out : List ℕ)
      → Value distance_numbers (distances_outcome f ceiling (length output) (length w)) (ShortOut out) out
      (distances_call f ceiling output w out)
  pub combine : (f letters p output out : List ℕ)
      → Value combine_numbers (combine_outcome f letters p (length output)) (ShortOut out) out (combine_call f letters p output out)
  pub search_answer : (f : List ℕ) (ask : Ask) (a w out : List ℕ) → (search_call f ask a w out).kind ≤ 100
      → answer_after_search f ask a w out ≡ a
  pub next_answer : (f : List ℕ) (t : ℕ) (earlier a w out : List ℕ) → (next_call f t earlier a w out).kind ≤ 100
      → answer_after_next f t earlier a w out ≡ a
  pub grade_place : (f : List ℕ) (t : ℕ) (xs : List ℕ) (k : ℕ) (place w out : List ℕ) → (grade_call f t xs k place w out).kind ≤ 100
      → place_after_grade f t xs k place w out ≡ place
  pub distances_output : (f : List ℕ) (ceiling : ℕ) (output w out : List ℕ)
      → (distances_call f ceiling output w out).kind ≤ 100 → output_after_distances f ceiling output w out ≡ output
  pub combine_output : (f letters p output out : List ℕ) → (combine_call f letters p output out).kind ≤ 100
      → output_after_combine f letters p output out ≡ output
