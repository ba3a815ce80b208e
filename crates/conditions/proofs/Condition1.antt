-- Condition 1 holds: every call is refused with the first reason that holds, and leaves the tables as the contract says.
use Prim.Native.Nat.{ℕ}
use mathlib.Core.Path.{◌≡◌, refl, sym, ◌∙◌, ap}
use mathlib.Core.Bool.{Bool}
use mathlib.Core.List.{List, [], ◌∷◌, ◌++◌}
use mathlib.Core.Option.{Option, some, none}
use native.Mathlib.Omega.{arith}
use lib.ListN.{length, drop, replicate}
use lib.Dec.{T, leb}
use borrow.Author.Tests.{le-leb, lt-leb}
use Rattle.lists.specs.Lists.{pick, differentb}
use Rattle.lasso.specs.Following.{following}
use Rattle.lasso.specs.Roll.{roll}
use Rattle.format.specs.Layout.{states}
use Rattle.model.specs.Model.{graph_of}
use Rattle.format.specs.Rules.{Reason, first_broken}
use Rattle.outcomes.specs.Numbers.{step_numbers, search_numbers, next_numbers, grade_numbers, distance_numbers, combine_numbers}
use Rattle.outcomes.specs.Outcome.{refused, answered, outcome}
use Rattle.outcomes.specs.Tables.{written, list_reasons, unless_refused}
use Rattle.step.specs.Step.{stepped, step_reasons}
use Rattle.search.specs.Search.{searched, first_due, graph_asked, search_reasons}
use Rattle.next.specs.Next.{followed, due_reasons, next_reasons}
use Rattle.grade.specs.Grade.{grade_of}
use Rattle.distances.specs.Distances.{distance_table, distance_reasons}
use Rattle.combine.specs.Combine.{combined_file, combine_reasons}
use Rattle.gate.specs.Gate.{named_rules, ceiling_reason, zeros, work_after, work_of}
use Rattle.conditions.specs.Reasons.{numbers_of}
use Rattle.conditions.specs.Condition1.{Refuses, AnswerKept, WorkLeft, Condition1Holds}
use Rattle.outcomes.proofs.OutcomeLaws.{refused_some, answered_none}
use Rattle.conditions.proofs.FirstLaws.{none_holds_first_broken, clear_none, broken_first, first_broken_lem, betweenb, broken_between}
use Rattle.format.proofs.Reasons.{clear_append, broken_append}

-- a refusal is no answer
refused_answered : {A : Type 0} {n : ℕ} {x : A} → refused n ≡ answered x → ⊥
refused_answered e = let z : ◌≡◌ {A = ℕ} 0 1 = cc in omega arith

-- a call that is refused with the first of its reasons that holds, and answered otherwise
refuses : {A : Type 0} (reasons : List Reason) (numbers : List ℕ) (x : A) → numbers_of reasons ≡ numbers → T (differentb numbers)
    → Refuses reasons numbers (outcome (first_broken reasons) x)
refuses reasons numbers x are differ = record {
  numbers_are = are;
  numbers_differ = differ;
  refused_exactly = λ n. (
    λ e. broken_first reasons n (refused_some (first_broken reasons) x n e),
    λ h. ap (λ (o : Option ℕ). outcome o x) (first_broken_lem reasons n h),
  );
  answered_exactly = (
    λ p. clear_none reasons (answered_none (first_broken reasons) x p.0 p.1),
    λ h. (x, ap (λ (o : Option ℕ). outcome o x) (none_holds_first_broken reasons h)),
  );
  not_both = λ n y e q. refused_answered (sym e ∙ q);
}

-- a refused call writes no list
answer_kept : {A : Type 0} (o : Option ℕ) (x : A) (due : Option (List ℕ)) (a : List ℕ)
    → AnswerKept (outcome o x) a (written (unless_refused o due) a)
answer_kept o x due a n e = ap (λ (p : Option ℕ). written (unless_refused p due) a) (refused_some o x n e)

-- the reasons 22 and 1 to 12, or 1 to 12, stand in front of those from 13 to 21: the first of the former decides about the
-- working table
first_decides : {A : Type 0} (w : List ℕ) (front rest : List Reason) → T (betweenb 13 21 (numbers_of rest)) → (x : A) (o : Option ℕ)
    → first_broken front ≡ o → WorkLeft (outcome (first_broken (front ++ rest)) x) w (work_after (first_broken front) w)
first_decides w front rest late x none q =
    let zero : work_after (first_broken front) w ≡ replicate (length w) 0 = ap (λ (o : Option ℕ). work_after o w) q in
    record {
      untouched = λ n e small.
          let found : first_broken rest ≡ some n = sym (clear_append front rest q) ∙ refused_some (first_broken (front ++ rest)) x n e in
          absurd (omega (arith, broken_between 13 21 rest late n found));
      zero_refused = λ n e big. zero;
      zero_answered = λ y e. zero;
    }
first_decides w front rest late x (some m) q =
    let left : work_after (first_broken front) w ≡ pick (leb m 12) w (zeros w) = ap (λ (o : Option ℕ). work_after o w) q in
    let first : first_broken (front ++ rest) ≡ some m = broken_append front rest m q in
    record {
      untouched = λ n e small.
          let same : some m ≡ some n = sym first ∙ refused_some (first_broken (front ++ rest)) x n e in
          let m-is : m ≡ n = cc in
          left ∙ ap (λ (b : Bool). pick b w (zeros w)) (le-leb m 12 (omega arith));
      zero_refused = λ n e big.
          let same : some m ≡ some n = sym first ∙ refused_some (first_broken (front ++ rest)) x n e in
          let m-is : m ≡ n = cc in
          left ∙ ap (λ (b : Bool). pick b w (zeros w)) (lt-leb m 12 (omega arith));
      zero_answered = λ y e.
          let none_found : some m ≡ none = sym first ∙ answered_none (first_broken (front ++ rest)) x y e in
          let z : ◌≡◌ {A = ℕ} 0 1 = cc in
          absurd (omega arith);
    }

-- so it is with the reasons of a call that names a mark table after the common ones
work_left-behind : {A : Type 0} (f : List ℕ) (t : ℕ) (w : List ℕ) (rest : List Reason) (x : A) → T (betweenb 13 21 (numbers_of rest))
    → WorkLeft (outcome (first_broken (named_rules f t (length w) ++ rest)) x) w (work_of f t w)
work_left-behind f t w rest x late =
    first_decides w (named_rules f t (length w)) rest late x (first_broken (named_rules f t (length w))) refl

-- condition 1
pub condition_1 : Condition1Holds
condition_1 = record {
  step = λ f t ceiling rec w. record {
    refuses = refuses (step_reasons f t ceiling (length w)) step_numbers (stepped (graph_of f t) ceiling rec) refl tt;
    work = work_left-behind f t w (ceiling_reason ceiling ∷ []) (stepped (graph_of f t) ceiling rec) tt;
  };
  search = λ f ask a w.
      let g = graph_asked f ask in
      let x = searched g ask in
      let reasons = search_reasons f ask (length a) (length w) in
      record {
        refuses = refuses reasons search_numbers x refl tt;
        answer = answer_kept (first_broken reasons) x (first_due g ask) a;
        work = work_left-behind f ask.table w (ceiling_reason ask.ceiling.0 ∷ list_reasons g (first_due g ask) (length a)) x tt;
      };
  next = λ f t earlier a w.
      let due = following earlier (roll (graph_of f t)) in
      let reasons = next_reasons f t earlier (length a) (length w) in
      record {
        refuses = refuses reasons next_numbers (followed due) refl tt;
        answer = answer_kept (first_broken reasons) (followed due) due a;
        work = work_left-behind f t w (due_reasons (graph_of f t) earlier due (length a)) (followed due) tt;
      };
  grade = λ f t xs k w. record {
    refuses = refuses (named_rules f t (length w)) grade_numbers (grade_of (graph_of f t) xs k) refl tt;
    work = work_left-behind f t w [] (grade_of (graph_of f t) xs k) tt;
  };
  distances = λ f ceiling output w.
      let reasons = distance_reasons f ceiling (length output) (length w) in
      record {
        refuses = refuses reasons distance_numbers (states f) refl tt;
        kept = answer_kept (first_broken reasons) (states f) (some (distance_table (graph_of f 0) ceiling)) output;
        work = work_left-behind f 0 w (drop 12 reasons) (states f) tt;
      };
  combine = λ f letters p output.
      let file = combined_file f letters p in
      let reasons = combine_reasons f letters p (length output) in
      record {
        refuses = refuses reasons combine_numbers (length file) refl tt;
        kept = answer_kept (first_broken reasons) (length file) (some file) output;
      };
}
