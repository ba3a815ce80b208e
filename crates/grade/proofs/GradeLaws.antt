-- What the grader answers, case by case; and that its outcome loses nothing.
use Prim.Native.Nat.{ℕ, ◌*◌, ◌≤◌}
use mathlib.Core.Path.{◌≡◌, refl, sym, ◌∙◌, ap}
use mathlib.Core.Bool.{false}
use mathlib.Core.List.{List}
use mathlib.Core.Option.{Option, some, none}
use native.Mathlib.Omega.{arith}
use lib.ListN.{get_or}
use lib.Dec.{T, eqb→eq}
use Rattle.lasso.specs.Graph.{Graph, WellFormed, pathb}
use Rattle.lists.proofs.Tests.{parts}
use Rattle.model.specs.Model.{graph_in, graph_of}
use Rattle.model.specs.Values.{Valid}
use Rattle.model.specs.declared.Header.{Header}
use Rattle.model.proofs.Laws.{valid_graph}
use Rattle.format.specs.Rules.{first_broken}
use Rattle.std.specs.Prelude as code
use Rattle.std.specs.Prelude.{None, Some}
use Rattle.paths.specs.Breaks.{first_break, break_of}
use Rattle.paths.proofs.BreakLaws.{started_unbroken}
use Rattle.outcomes.specs.Outcome.{refused, answered, outcome}
use Rattle.outcomes.proofs.ReadBack.{loses_nothing, result_loses_nothing}
use Rattle.gate.specs.Gate.{named_rules}
use Rattle.gate.proofs.GateLaws.{valid_clear}
use Rattle.grade_verdicts.specs.Verdict.{accepts_at, Said, accepting, shortest}
use Rattle.grade_verdicts.proofs.AcceptLaws.{refuted}
use Rattle.grade.specs.declared.Verdict.{Verdict}
use Rattle.grade.specs.declared.Verdict.TheVariants as Verdicts
use Rattle.grade.specs.declared.Graded.{Graded}
use Rattle.grade.specs.Grade.{verdict_of, Grade, graded_of, grade_of, grade_outcome, GradeLosesNothing}

-- the verdict with a given name
abbrev read_verdict : Said → Verdict
read_verdict Said.false = Verdicts.False
read_verdict accepting = Verdicts.Accepting
read_verdict shortest = Verdicts.Shortest

-- a verdict is read off its name
read_verdict_verdict_of : (v : Verdict) → read_verdict (verdict_of v) ≡ v
read_verdict_verdict_of Verdicts.False = refl
read_verdict_verdict_of Verdicts.Accepting = refl
read_verdict_verdict_of Verdicts.Shortest = refl

-- the first break with a given place
abbrev read_break : Option ℕ → code.Option ℕ
read_break none = None
read_break (some j) = Some j

-- a first break is read off its place
read_break_break_of : (b : code.Option ℕ) → read_break (break_of b) ≡ b
read_break_break_of None = refl
read_break_break_of (Some j) = refl

-- the answer of the grader with a given grade
abbrev read_graded : Grade → Graded
read_graded a = record { verdict = read_verdict a.verdict; first_break = read_break a.place }

-- the grader's answer is read off its grade
read_graded_graded_of : (a : Graded) → read_graded (graded_of a) ≡ a
read_graded_graded_of a = λ i. record { verdict = read_verdict_verdict_of a.verdict i; first_break = read_break_break_of a.first_break i }

-- equal outcomes of the grader are of equal results
pub grade_loses_nothing : GradeLosesNothing
grade_loses_nothing = result_loses_nothing graded_of (loses_nothing graded_of read_graded read_graded_graded_of)

-- a list that breaks is not accepted
pub accepts_broken : (g : Graph) → WellFormed g → (xs : List ℕ) (k j : ℕ) → first_break g xs ≡ some j → accepts_at g xs k ≡ false
accepts_broken g wf xs k j e = refuted g xs k broken
  where
    broken : T (accepts_at g xs k) → ⊥
    broken h =
        let starts : get_or xs 0 0 ≡ g.start = search (parts, eqb→eq) in
        let path : T (pathb g xs) = search parts in
        let z : some j ≡ none = sym e ∙ started_unbroken g wf xs starts path in
        let q : ◌≡◌ {A = ℕ} 0 1 = cc in omega arith

-- refused by a reason of 22 and 1 to 12
pub grade_refused_lem : (f : List ℕ) (t : ℕ) (xs : List ℕ) (k workRoom n : ℕ) → first_broken (named_rules f t workRoom) ≡ some n
    → grade_outcome f t xs k workRoom ≡ refused n
grade_refused_lem f t xs k workRoom n e = ap (λ (b : Option ℕ). outcome b (grade_of (graph_of f t) xs k)) e

-- graded with the list's grade, where none of 22 and 1 to 12 holds
pub grade_answered : (f : List ℕ) (h : Header) → Valid f h → (xs : List ℕ) (k workRoom : ℕ) → 6 * h.states ≤ workRoom → (a : Grade)
    → a ≡ grade_of (graph_in f h) xs k → answered a ≡ grade_outcome f h.table xs k workRoom
grade_answered f h valid xs k workRoom room a is =
    ap answered is
    ∙ ap (λ (g : Graph). answered (grade_of g xs k)) (valid_graph valid)
    ∙ sym (ap (λ (b : Option ℕ). outcome b (grade_of (graph_of f h.table) xs k)) (valid_clear valid workRoom room))
