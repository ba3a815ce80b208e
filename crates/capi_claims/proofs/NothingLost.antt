-- A report loses nothing: its answer can be read off it.
use Prim.Native.Nat.{ℕ, ◌≤◌, ◌<◌}
use mathlib.Core.Path.{◌≡◌, refl, sym, ◌∙◌, ap}
use mathlib.Core.Bool.{Bool}
use mathlib.Core.List.{List}
use mathlib.Core.Option.{Option, some, none}
use native.Mathlib.Omega.{arith}
use borrow.Author.Tests.{lt-ltb}
use lib.ListN.{get_or}
use lib.Dec.{eqb, ltb}
use Rattle.lists.specs.Lists.{pick}
use Rattle.lasso.specs.Rounds.{Record}
use Rattle.format.specs.Layout.{states}
use Rattle.model.specs.Model.{graph_of}
use Rattle.lasso.specs.Roll.{roll}
use Rattle.lasso.specs.Following.{following}
use Rattle.outcomes.specs.Numbers as numbers
use Rattle.outcomes.specs.Outcome.{Outcome, refused, answered}
use Rattle.outcomes.specs.Tables.{written}
use Rattle.step.specs.Step.{Stepped, finished, advanced, stepped, step_reasons}
use Rattle.search.specs.Search.{Searched, stopped, none_within, searched, search_reasons}
use Rattle.next.specs.Next.{Followed, no_more, followed, next_reasons}
use Rattle.grade.specs.Grade.{Grade, grade_of}
use Rattle.grade_verdicts.specs.Verdict.{Said, accepting, shortest}
use Rattle.distances.specs.Distances.{distance_reasons}
use Rattle.gate.specs.Gate.{named_rules}
use Rattle.figures.specs.Kinds.{Report, is_there, best_figure, record_given, written_report}
use Rattle.answers.specs.Kinds.{search_report, next_report}
use Rattle.capi_step.specs.Call.{step_report}
use Rattle.grade_report.specs.Grades.{verdict_kind, grade_report, place_due, place_in}
use Rattle.capi_claims.specs.NothingLost.{Numbered, NothingLost}
use Rattle.capi_claims.proofs.Numbers.{broken_one}

-- the record as it came out can be given to the next step
given_back : (done : ℕ) (best : Option ℕ) → record_given done (is_there best) (best_figure best) ≡ record { done = done; best = best }
given_back done none = refl
given_back done (some l) = refl

record_back : (rec : Record) → record_given rec.done (is_there rec.best) (best_figure rec.best) ≡ rec
record_back rec = given_back rec.done rec.best

-- the figure at a place of a report, and the record in its first three
abbrev report_figure : Report → ℕ → ℕ
report_figure r i = get_or r.figures i 0

abbrev record_in : Report → Record
record_in r = record_given (report_figure r 0) (report_figure r 1) (report_figure r 2)

-- the outcome that a report comes from: the refusal with its kind as the number if that is below 100, else the answer
abbrev outcome_back : {A : Type 0} → Report → A → Outcome A
outcome_back r a = pick (ltb r.kind 100) (refused r.kind) (answered a)

-- the refusal is read off its number
refusal_back : {A : Type 0} (n : ℕ) (a : A) → (1 ≤ n) × (n ≤ 99) → pick (ltb n 100) (refused n) (answered a) ≡ refused n
refusal_back n a (least, small) = ap (λ (b : Bool). pick b (refused n) (answered a)) (lt-ltb n 100 (omega arith))

-- the answer of a step that a report comes from
abbrev stepped_in : Report → Stepped
stepped_in r = pick (eqb r.kind 105) (finished (record_in r)) (advanced (record_in r))

step_back : (o : Outcome Stepped) → Numbered 99 o → outcome_back (step_report o) (stepped_in (step_report o)) ≡ o
step_back (refused n) h = refusal_back n (stepped_in (step_report (refused n))) h
step_back (answered (finished rec)) h = ap (λ (x : Record). answered (finished x)) (record_back rec)
step_back (answered (advanced rec)) h = ap (λ (x : Record). answered (advanced x)) (record_back rec)

-- the answer of a search
abbrev searched_in : Report → Searched
searched_in r =
    pick (eqb r.kind 101) (stopped (record_in r))
    (pick (eqb r.kind 102) (Searched.found (report_figure r 0) (report_figure r 1) (report_figure r 2)) (none_within (report_figure r 0)))

search_back : (o : Outcome Searched) → Numbered 99 o → outcome_back (search_report o) (searched_in (search_report o)) ≡ o
search_back (refused n) h = refusal_back n (searched_in (search_report (refused n))) h
search_back (answered (stopped rec)) h = ap (λ (x : Record). answered (stopped x)) (record_back rec)
search_back (answered (Searched.found l k rounds)) h = refl
search_back (answered (none_within rounds)) h = refl

-- the answer of next
abbrev followed_in : Report → Followed
followed_in r = pick (eqb r.kind 102) (Followed.found (report_figure r 0) (report_figure r 1)) no_more

next_back : (o : Outcome Followed) → Numbered 99 o → outcome_back (next_report o) (followed_in (next_report o)) ≡ o
next_back (refused n) h = refusal_back n (followed_in (next_report (refused n))) h
next_back (answered (Followed.found l k)) h = refl
next_back (answered no_more) h = refl

-- the count of bytes or entries written
written_back : (o : Outcome ℕ) → Numbered 99 o → outcome_back (written_report o) (report_figure (written_report o) 0) ≡ o
written_back (refused n) h = refusal_back n 0 h
written_back (answered count) h = refl

-- the verdict of a grade
abbrev verdict_in : ℕ → Said
verdict_in kind = pick (eqb kind 108) Said.false (pick (eqb kind 109) accepting shortest)

-- the place that a figure and the first entry of the table stand for
abbrev place_given : (has first : ℕ) → Option ℕ
place_given has first = pick (eqb has 0) none (some first)

-- the place is read off them, whatever stood in the table before
place_back : (place : Option ℕ) (before : List ℕ) → place_given (is_there place) (get_or (written (place_due place) before) 0 0) ≡ place
place_back none before = refl
place_back (some j) before = refl

-- the grade that a report and the first entry of the table come from
abbrev grade_in : Report → ℕ → Grade
grade_in r first = record { verdict = verdict_in r.kind; place = place_given (report_figure r 0) first }

abbrev grade_back : Report → ℕ → Outcome Grade
grade_back r first = outcome_back r (grade_in r first)

verdict_back : (v : Said) (place : Option ℕ) (before : List ℕ)
    → let o : Outcome Grade = answered (record { verdict = v; place = place }) in grade_back (grade_report o) (get_or (place_in before o) 0 0) ≡ o
verdict_back Said.false place before = ap (λ (p : Option ℕ). answered (record { verdict = Said.false; place = p })) (place_back place before)
verdict_back accepting place before = ap (λ (p : Option ℕ). answered (record { verdict = accepting; place = p })) (place_back place before)
verdict_back shortest place before = ap (λ (p : Option ℕ). answered (record { verdict = shortest; place = p })) (place_back place before)

grade_back_lem : (o : Outcome Grade) (before : List ℕ) → Numbered 99 o → grade_back (grade_report o) (get_or (place_in before o) 0 0) ≡ o
grade_back_lem (refused n) before h = refusal_back n (grade_in (grade_report (refused n)) (get_or before 0 0)) h
grade_back_lem (answered g) before h = verdict_back g.verdict g.place before

-- equal reports with equal places come from equal grades
grade_injective : (o p : Outcome Grade) (before-o before-p : List ℕ) → Numbered 99 o → Numbered 99 p
    → grade_report o ≡ grade_report p → get_or (place_in before-o o) 0 0 ≡ get_or (place_in before-p p) 0 0 → o ≡ p
grade_injective o p before-o before-p h i same-report same_place =
    sym (grade_back_lem o before-o h) ∙ (λ j. grade_back (same-report j) (same_place j)) ∙ grade_back_lem p before-p i

-- equal reports come from equal outcomes, where the outcome is read off its report
injective : {A : Type 0} (report : Outcome A → Report) (back : Report → Outcome A)
    → ((o : Outcome A) → Numbered 99 o → back (report o) ≡ o)
    → (o p : Outcome A) → Numbered 99 o → Numbered 99 p → report o ≡ report p → o ≡ p
injective report back backs o p h i e = sym (backs o h) ∙ ap back e ∙ backs p i

-- the kinds are above 100
step_kinds : (a : Stepped) → 100 < (step_report (answered a)).kind
step_kinds (finished rec) = omega arith
step_kinds (advanced rec) = omega arith

search_kinds : (a : Searched) → 100 < (search_report (answered a)).kind
search_kinds (stopped rec) = omega arith
search_kinds (Searched.found l k rounds) = omega arith
search_kinds (none_within rounds) = omega arith

next_kinds : (a : Followed) → 100 < (next_report (answered a)).kind
next_kinds (Followed.found l k) = omega arith
next_kinds no_more = omega arith

grade_kinds : (v : Said) → 100 < verdict_kind v
grade_kinds Said.false = omega arith
grade_kinds accepting = omega arith
grade_kinds shortest = omega arith

-- nothing is lost
pub nothing_lost : NothingLost
nothing_lost = record {
  step = record {
    reports = record { refusals = λ n. refl; kinds = step_kinds };
    injective = injective step_report (λ (r : Report). outcome_back r (stepped_in r)) step_back;
  };
  search = record {
    reports = record { refusals = λ n. refl; kinds = search_kinds };
    injective = injective search_report (λ (r : Report). outcome_back r (searched_in r)) search_back;
  };
  next = record {
    reports = record { refusals = λ n. refl; kinds = next_kinds };
    injective = injective next_report (λ (r : Report). outcome_back r (followed_in r)) next_back;
  };
  written = record {
    reports = record { refusals = λ n. refl; kinds = λ count. omega arith };
    injective = injective written_report (λ (r : Report). outcome_back r (report_figure r 0)) written_back;
  };
  grade = record { refusals = λ n. refl; kinds = λ g. grade_kinds g.verdict };
  grade_injective = grade_injective;
  step_numbers = λ f t ceiling rec workRoom.
      broken_one numbers.step_numbers (stepped (graph_of f t) ceiling rec) (step_reasons f t ceiling workRoom) tt;
  search_numbers = λ f ask answerRoom workRoom.
      broken_one numbers.search_numbers (searched (graph_of f ask.table) ask) (search_reasons f ask answerRoom workRoom) tt;
  next_numbers = λ f t earlier answerRoom workRoom.
      broken_one numbers.next_numbers (followed (following earlier (roll (graph_of f t)))) (next_reasons f t earlier answerRoom workRoom) tt;
  grade_numbers = λ f t xs k workRoom. broken_one numbers.grade_numbers (grade_of (graph_of f t) xs k) (named_rules f t workRoom) tt;
  distances_numbers = λ f ceiling outputRoom workRoom.
      broken_one numbers.distance_numbers (states f) (distance_reasons f ceiling outputRoom workRoom) tt;
  record_back = record_back;
}
