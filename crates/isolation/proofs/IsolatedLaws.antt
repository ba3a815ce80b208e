-- Each call that names a mark table depends on a file by the first rule that it breaks, and on its model only where it breaks
-- none.
use Prim.Native.Nat.{ℕ, ◌*◌, ◌-◌, ◌≤◌}
use mathlib.Core.Path.{◌≡◌, refl}
use mathlib.Core.List.{List, [], ◌∷◌, ◌++◌}
use mathlib.Core.Option.{Option}
use lib.ListN.{length}
use lib.Dec.{ltb}
use Rattle.lasso.specs.Graph.{Graph}
use Rattle.lasso.specs.Roll.{roll}
use Rattle.lasso.specs.Following.{following}
use Rattle.format.specs.Rules.{Reason, first_broken}
use Rattle.model.specs.Model.{graph_of}
use Rattle.outcomes.specs.Outcome.{outcome}
use Rattle.outcomes.specs.Tables.{list_reasons, unless_refused, written}
use Rattle.gate.specs.declared.Ask.{Ask}
use Rattle.gate.specs.Gate.{asking, no_table, named_rules, ceiling_reason, work_after}
use Rattle.step.specs.Step.{stepped}
use Rattle.search.specs.Search.{searched, first_due}
use Rattle.next.specs.Next.{followed, due_reasons}
use Rattle.grade.specs.Grade.{grade_of}
use Rattle.isolation.specs.SameBut.{SameBut}
use Rattle.isolation.specs.Isolated.{Isolation}
use Rattle.isolation.proofs.TreatedAlike.{RefusalTellsNothing, answered_alike}

module _ {t : ℕ} (limit : t ≤ 1) {f f' : List ℕ} (same : SameBut (1 - t) f f') where
  -- what a call answers that applies 22, then 1 to 12, then reasons that look at the model; 12 looks at its size
  named_alike : {A : Type 0} (workRoom : ℕ) (later : Graph → List Reason) (answer : Option ℕ → Graph → A) → RefusalTellsNothing answer
      → answer (first_broken (named_rules f t workRoom ++ later (graph_of f t))) (graph_of f t)
      ≡ answer (first_broken (named_rules f' t workRoom ++ later (graph_of f' t))) (graph_of f' t)
  named_alike workRoom later answer silent =
      answered_alike limit same (record { number = 22; holds = no_table t })
      (λ g. record { number = 12; holds = ltb workRoom (6 * g.size) } ∷ later g) answer silent

pub isolation : Isolation
isolation t limit f f' same =
    record {
      step_alike = λ ceiling rec workRoom.
          named_alike limit same workRoom (λ g. ceiling_reason ceiling ∷ []) (λ o g. outcome o (stepped g ceiling rec)) (λ n g g'. refl);
      search_alike = λ ceiling allowance answerRoom workRoom.
          let ask : Ask = asking t ceiling allowance in
          named_alike limit same workRoom (λ g. ceiling_reason ceiling ∷ list_reasons g (first_due g ask) answerRoom)
          (λ o g. outcome o (searched g ask)) (λ n g g'. refl);
      search_writes_alike = λ ceiling allowance a workRoom.
          let ask : Ask = asking t ceiling allowance in
          named_alike limit same workRoom (λ g. ceiling_reason ceiling ∷ list_reasons g (first_due g ask) (length a))
          (λ o g. written (unless_refused o (first_due g ask)) a) (λ n g g'. refl);
      next_alike = λ earlier answerRoom workRoom.
          named_alike limit same workRoom (λ g. due_reasons g earlier (following earlier (roll g)) answerRoom)
          (λ o g. outcome o (followed (following earlier (roll g)))) (λ n g g'. refl);
      next_writes_alike = λ earlier a workRoom.
          named_alike limit same workRoom (λ g. due_reasons g earlier (following earlier (roll g)) (length a))
          (λ o g. written (unless_refused o (following earlier (roll g))) a) (λ n g g'. refl);
      grade_alike = λ xs k workRoom. named_alike limit same workRoom (λ g. []) (λ o g. outcome o (grade_of g xs k)) (λ n g g'. refl);
      work_alike = λ w. named_alike limit same (length w) (λ g. []) (λ o g. work_after o w) (λ n g g'. refl);
    }
