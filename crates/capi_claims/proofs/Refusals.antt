-- A refused call changes nothing that was lent but the working table: a refusal has no figures, and no list is written.
use Prim.Native.Nat.{ℕ, ◌≤◌, ◌<◌}
use mathlib.Core.Path.{◌≡◌, refl, sym, ◌∙◌, ap, subst}
use mathlib.Core.Bool.{Bool, true, false, ◌&&◌, ◌||◌}
use mathlib.Core.Logic.{◌⊎◌, inl, inr, ⊎_elim}
use mathlib.Core.List.{List, [], ◌∷◌}
use mathlib.Core.Option.{Option, some, none}
use native.Mathlib.Omega.{arith}
use borrow.Author.Tests.{ltb-true, ltb-false}
use lib.ListN.{length}
use lib.Dec.{T, eqb, leb, ltb, eqb→eq, leb→le}
use Rattle.lists.specs.Lists.{memb, pick}
use Rattle.lists.proofs.Tests.{either, fst, snd}
use Rattle.lasso.specs.Roll.{roll}
use Rattle.lasso.specs.Following.{following}
use Rattle.model.specs.Model.{graph_of}
use Rattle.format.specs.Layout.{states}
use Rattle.format.specs.Rules.{first_broken}
use Rattle.outcomes.specs.Numbers.{step_numbers, search_numbers, next_numbers, grade_numbers, distance_numbers, combine_numbers}
use Rattle.outcomes.specs.Outcome.{Outcome, refused, answered, outcome}
use Rattle.outcomes.specs.Tables.{written, unless_refused}
use Rattle.step.specs.Step.{step_outcome}
use Rattle.search.specs.Search.{searched, first_due, graph_asked, search_reasons, search_outcome}
use Rattle.next.specs.Next.{followed, next_reasons, next_outcome}
use Rattle.grade.specs.Grade.{Grade, grade_outcome}
use Rattle.distances.specs.Distances.{distance_table, distance_reasons, distances_outcome}
use Rattle.combine_outcome.specs.Combination.{combined_file, combine_reasons, combine_broken, combine_outcome}
use Rattle.figures.specs.Kinds.{Report, figures_in, refusal, written_report}
use Rattle.figures.specs.Short.{out_too_short, out_short}
use Rattle.answers.specs.Kinds.{search_report, next_report}
use Rattle.capi_step.specs.Call.{step_report}
use Rattle.grade_report.specs.Grades.{grade_report, place_in}
use Rattle.capi_grade.specs.Call.{place_short}
use Rattle.capi_claims.specs.NothingLost.{OneOf, Reports}
use Rattle.capi_claims.specs.Refusals.{Value, ShortOut, RefusalsChangeNothing}
use Rattle.capi_claims.proofs.Numbers.{broken_one}
use Rattle.capi_claims.proofs.NothingLost.{nothing_lost}

-- A test decides a statement.
record Decides (b : Bool) (P : Type 0) : Type 0 where
  holds : b ≡ true → P
  fails : b ≡ false → P → ⊥

-- the test of `out`
out_decides : (out : List ℕ) → Decides (out_short out) (ShortOut out)
out_decides out = record {
  holds = ltb-true (length out) 4;
  fails = λ e s. omega (arith, ltb-false (length out) 4 e);
}

-- one test or another decides whether one of two statements holds
either_decides : (a b : Bool) {P Q : Type 0} → Decides a P → Decides b Q → Decides (a || b) (P ⊎ Q)
either_decides true b d e = record {
  holds = λ t. inl (d.holds refl);
  fails = λ t. let z : ◌≡◌ {A = ℕ} 0 1 = cc in absurd (omega arith);
}
either_decides false b d e = record {
  holds = λ t. inr (e.holds t);
  fails = λ t. ⊎_elim (d.fails refl) (e.fails t);
}

-- the test of `out` and of the table for a place
place_decides : (place out : List ℕ) → Decides (place_short place out) (ShortOut out ⊎ (length place < 1))
place_decides place out =
    either_decides (out_short out) (ltb (length place) 1) (out_decides out)
    (record { holds = ltb-true (length place) 1; fails = λ e s. omega (arith, ltb-false (length place) 1 e) })

-- all these numbers are below 100
abbrev smallb : List ℕ → Bool
smallb [] = true
smallb (n ∷ ns) = leb n 99 && smallb ns

-- so is each of them
small_one : (ns : List ℕ) → T (smallb ns) → (n : ℕ) → T (memb n ns) → n ≤ 99
small_one [] s n m = absurd m
small_one (x ∷ xs) s n m = elim (either (eqb n x) (memb n xs) m) [
  | inl e ↦ omega (arith, eqb→eq n x e, leb→le x 99 (fst (leb x 99) (smallb xs) s))
  | inr later ↦ small_one xs (snd (leb x 99) (smallb xs) s) n later
]

module _ {A : Type 0} (numbers : List ℕ) (small : T (smallb numbers)) (Short : Type 0) (out : List ℕ) where
  -- a table that is too short
  value_short : (o : Outcome A) → Short → Value numbers o Short out out_too_short
  value_short o s = record {
    number = λ l. absurd (omega arith);
    among = λ l. absurd (omega arith);
    refusals = λ n q enough. absurd (enough s);
    short = (λ q. s, λ l. refl);
    unchanged = λ l. refl;
    kinds = λ l. absurd (omega arith);
  }

  -- a refusal
  value_refused : (n : ℕ) (r : Report) → r ≡ refusal n → T (memb n numbers) → (Short → ⊥) → Value {A = A} numbers (refused n) Short out r
  value_refused n r e one enough =
      let k : r.kind ≡ n = ap (λ (x : Report). x.kind) e in
      let low : n ≤ 99 = small_one numbers small n one in
      record {
        number = λ l. ap refused (sym k);
        among = λ l. subst (λ (x : ℕ). T (memb x numbers)) (sym k) one;
        refusals = λ m q l. let same : n ≡ m = cc in k ∙ same;
        short = (λ q. absurd (omega arith), λ s. absurd (enough s));
        unchanged = λ l. ap (figures_in out) e;
        kinds = λ l. absurd (omega arith);
      }

  -- an answer
  value_answered : (a : A) (r : Report) → 100 < r.kind → (Short → ⊥) → Value numbers (answered a) Short out r
  value_answered a r above enough = record {
    number = λ l. absurd (omega arith);
    among = λ l. absurd (omega arith);
    refusals = λ m q l. let z : ◌≡◌ {A = ℕ} 0 1 = cc in absurd (omega arith);
    short = (λ q. absurd (omega arith), λ s. absurd (enough s));
    unchanged = λ l. absurd (omega arith);
    kinds = λ l. (a, refl);
  }

  -- what a report tells, the test of the tables being decided
  value_told : (report : Outcome A → Report) → Reports report → (short : Bool) → Decides short Short → (o : Outcome A)
      → OneOf numbers o → Value numbers o Short out (pick short out_too_short (report o))
  value_told report is true d o h = value_short o (d.holds refl)
  value_told report is false d (refused n) h = value_refused n (report (refused n)) (is.refusals n) h (d.fails refl)
  value_told report is false d (answered a) h = value_answered a (report (answered a)) (is.kinds a) (d.fails refl)

-- what a call writes to, if it tells no answer
answer_untold : {A : Type 0} (report : Outcome A → Report) → Reports report → (x : A) (due : Option (List ℕ)) (a : List ℕ) (short : Bool) (broken : Option ℕ)
    → (pick short out_too_short (report (outcome broken x))).kind ≤ 100 → pick short a (written (unless_refused broken due) a) ≡ a
answer_untold report is x due a true broken l = refl
answer_untold report is x due a false (some n) l = refl
answer_untold report is x due a false none l = absurd (omega (arith, is.kinds x))

-- the table for a place, if no grade is told
place_untold : (place : List ℕ) (short : Bool) (o : Outcome Grade) → (pick short out_too_short (grade_report o)).kind ≤ 100
    → pick short place (place_in place o) ≡ place
place_untold place true o l = refl
place_untold place false (refused n) l = refl
place_untold place false (answered g) l = absurd (omega (arith, nothing_lost.grade.kinds g))

-- a refused call changes nothing that was lent but the working table
pub refusals_change_nothing : RefusalsChangeNothing
refusals_change_nothing = record {
  step = λ f t ceiling rec w out.
      value_told step_numbers tt (ShortOut out) out step_report nothing_lost.step.reports
      (out_short out) (out_decides out)
      (step_outcome f t ceiling rec (length w))
      (nothing_lost.step_numbers f t ceiling rec (length w));
  search = λ f ask a w out.
      value_told search_numbers tt (ShortOut out) out search_report nothing_lost.search.reports
      (out_short out) (out_decides out)
      (search_outcome f ask (length a) (length w))
      (nothing_lost.search_numbers f ask (length a) (length w));
  next = λ f t earlier a w out.
      value_told next_numbers tt (ShortOut out) out next_report nothing_lost.next.reports (out_short out) (out_decides out)
      (next_outcome f t earlier (length a) (length w))
      (nothing_lost.next_numbers f t earlier (length a) (length w));
  grade = λ f t xs k place w out.
      value_told grade_numbers tt (ShortOut out ⊎ (length place < 1)) out grade_report nothing_lost.grade (place_short place out)
      (place_decides place out) (grade_outcome f t xs k (length w)) (nothing_lost.grade_numbers f t xs k (length w));
  distances = λ f ceiling output w out.
      value_told distance_numbers tt (ShortOut out) out written_report nothing_lost.written.reports
      (out_short out) (out_decides out)
      (distances_outcome f ceiling (length output) (length w))
      (nothing_lost.distances_numbers f ceiling (length output) (length w));
  combine = λ f letters p output out.
      value_told combine_numbers tt (ShortOut out) out written_report nothing_lost.written.reports
      (out_short out) (out_decides out)
      (combine_outcome f letters p (length output))
      (broken_one combine_numbers (length (combined_file f letters p)) (combine_reasons f letters p (length output)) tt);
  search_answer = λ f ask a w out.
      answer_untold search_report nothing_lost.search.reports (searched (graph_asked f ask) ask) (first_due (graph_asked f ask) ask) a
      (out_short out) (first_broken (search_reasons f ask (length a) (length w)));
  next_answer = λ f t earlier a w out.
      let due = following earlier (roll (graph_of f t)) in
      answer_untold next_report nothing_lost.next.reports (followed due) due a
      (out_short out) (first_broken (next_reasons f t earlier (length a) (length w)));
  grade_place = λ f t xs k place w out. place_untold place (place_short place out) (grade_outcome f t xs k (length w));
  distances_output = λ f ceiling output w out.
      answer_untold written_report nothing_lost.written.reports (states f)
      (some (distance_table (graph_of f 0) ceiling)) output (out_short out)
      (first_broken (distance_reasons f ceiling (length output) (length w)));
  combine_output = λ f letters p output out.
      answer_untold written_report nothing_lost.written.reports (length (combined_file f letters p))
      (some (combined_file f letters p)) output (out_short out)
      (combine_broken f letters p (length output));
}
