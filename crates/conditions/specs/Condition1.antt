-- Condition 1: when a call is refused, with which number, and what becomes of the tables that were lent.
use Rattle.std.specs.Prelude.{ℕ, ◌≤◌, ◌<◌, ◌≡◌, ◌↔◌, List, length, replicate, T}
use Rattle.lists.specs.Lists.{differentb}
use Rattle.lasso.specs.Rounds.{Record}
use Rattle.numbers.specs.Reasons as reason
use Rattle.gate.specs.declared.Ask.{Ask}
use Rattle.format.specs.Rules.{Reason}
use Rattle.outcomes.specs.Numbers.{step_numbers, search_numbers, next_numbers, grade_numbers, distance_numbers, combine_numbers}
use Rattle.outcomes.specs.Outcome.{Outcome, refused, answered}
use Rattle.step.specs.Step.{step_reasons, step_outcome}
use Rattle.search.specs.Search.{search_reasons, search_outcome, search_answer}
use Rattle.next.specs.Next.{next_reasons, next_outcome, next_answer}
use Rattle.grade.specs.Grade.{grade_outcome}
use Rattle.distances.specs.Distances.{distance_reasons, distances_outcome, distances_output}
use Rattle.combine.specs.Combine.{combine_reasons, combine_outcome, combine_output}
use Rattle.gate.specs.Gate.{named_rules, work_of}
use Rattle.conditions.specs.Reasons.{numbers_of, NoneHolds, FirstHolds}

-- a call with these reasons: they have these numbers, in this order, and no two have the same; the call is refused with n
-- exactly if reason n holds and none before it, answered exactly if no reason holds, and never both
pub record Refuses {A : Type 0} (reasons : List Reason) (numbers : List ℕ) (o : Outcome A) : Type 0 where
  pub numbers_are : numbers_of reasons ≡ numbers
  pub numbers_differ : T (differentb numbers)
  pub refused_exactly : (n : ℕ) → (o ≡ refused n) ↔ FirstHolds reasons n
  pub answered_exactly : ((x : A) × (o ≡ answered x)) ↔ NoneHolds reasons
  pub not_both : (n : ℕ) (x : A) → o ≡ refused n → o ≡ answered x → ⊥

-- the answer table, or the output, after a refusal is the one lent
abbrev pub AnswerKept : {A : Type 0} → Outcome A → List ℕ → List ℕ → Type 0
AnswerKept o a a' = (n : ℕ) → o ≡ refused n → a' ≡ a

-- the working table is untouched after 1 to 12; after every other number and after every answer all its entries are zero,
-- however long it is
pub record WorkLeft {A : Type 0} (o : Outcome A) (w w' : List ℕ) : Type 0 where
  pub untouched : (n : ℕ) → o ≡ refused n → n ≤ reason.small_table → w' ≡ w
  pub zero_refused : (n : ℕ) → o ≡ refused n → reason.small_table < n → w' ≡ replicate (length w) 0
  pub zero_answered : (x : A) → o ≡ answered x → w' ≡ replicate (length w) 0

-- a step, which is lent no answer table, with any mark table number
pub record StepCondition1 (f : List ℕ) (t ceiling : ℕ) (rec : Record) (w : List ℕ) : Type 0 where
  pub refuses : Refuses (step_reasons f t ceiling (length w)) step_numbers (step_outcome f t ceiling rec (length w))
  pub work : WorkLeft (step_outcome f t ceiling rec (length w)) w (work_of f t w)

-- a search
pub record SearchCondition1 (f : List ℕ) (ask : Ask) (a w : List ℕ) : Type 0 where
  pub refuses : Refuses (search_reasons f ask (length a) (length w)) search_numbers
      (search_outcome f ask (length a) (length w))
  pub answer : AnswerKept (search_outcome f ask (length a) (length w)) a (search_answer f ask a (length w))
  pub work : WorkLeft (search_outcome f ask (length a) (length w)) w (work_of f ask.table w)

-- a next
pub record NextCondition1 (f : List ℕ) (t : ℕ) (earlier a w : List ℕ) : Type 0 where
  pub refuses : Refuses (next_reasons f t earlier (length a) (length w)) next_numbers
      (next_outcome f t earlier (length a) (length w))
  pub answer : AnswerKept (next_outcome f t earlier (length a) (length w)) a (next_answer f t earlier a (length w))
  pub work : WorkLeft (next_outcome f t earlier (length a) (length w)) w (work_of f t w)

-- a grade, of any list with any k; it is lent no answer table
pub record GradeCondition1 (f : List ℕ) (t : ℕ) (xs : List ℕ) (k : ℕ) (w : List ℕ) : Type 0 where
  pub refuses : Refuses (named_rules f t (length w)) grade_numbers (grade_outcome f t xs k (length w))
  pub work : WorkLeft (grade_outcome f t xs k (length w)) w (work_of f t w)

-- a distance call, which is lent an output and a working table
pub record DistancesCondition1 (f : List ℕ) (ceiling : ℕ) (output w : List ℕ) : Type 0 where
  pub refuses : Refuses (distance_reasons f ceiling (length output) (length w)) distance_numbers
      (distances_outcome f ceiling (length output) (length w))
  pub kept : AnswerKept (distances_outcome f ceiling (length output) (length w)) output
      (distances_output f ceiling output (length w))
  pub work : WorkLeft (distances_outcome f ceiling (length output) (length w)) w (work_of f 0 w)

-- a combination, which is lent an output and no tables
pub record CombineCondition1 (f letters p output : List ℕ) : Type 0 where
  pub refuses : Refuses (combine_reasons f letters p (length output)) combine_numbers
      (combine_outcome f letters p (length output))
  pub kept : AnswerKept (combine_outcome f letters p (length output)) output (combine_output f letters p output)

-- condition 1: for every call, whatever is given and lent
pub record Condition1Holds : Type 0 where
  pub step : (f : List ℕ) (t ceiling : ℕ) (rec : Record) (w : List ℕ) → StepCondition1 f t ceiling rec w
  pub search : (f : List ℕ) (ask : Ask) (a w : List ℕ) → SearchCondition1 f ask a w
  pub next : (f : List ℕ) (t : ℕ) (earlier a w : List ℕ) → NextCondition1 f t earlier a w
  pub grade : (f : List ℕ) (t : ℕ) (xs : List ℕ) (k : ℕ) (w : List ℕ) → GradeCondition1 f t xs k w
  pub distances : (f : List ℕ) (ceiling : ℕ) (output w : List ℕ) → DistancesCondition1 f ceiling output w
  pub combine : (f letters p output : List ℕ) → CombineCondition1 f letters p output
