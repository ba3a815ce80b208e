-- What depends on a file by the first rule that it breaks, and on its model only where it breaks none, is the same for files
-- that differ in the marks of the other department.
use Prim.Native.Nat.{ℕ, ◌-◌, ◌≤◌}
use mathlib.Core.Path.{◌≡◌, refl, sym, ap, ◌∙◌}
use mathlib.Core.Bool.{Bool, true, false}
use mathlib.Core.List.{List, ◌∷◌, ◌++◌}
use mathlib.Core.Option.{Option, some, none}
use Rattle.lists.specs.Lists.{some_if}
use Rattle.lasso.specs.Graph.{Graph}
use Rattle.format.specs.Rules.{Reason, first_broken, rules}
use Rattle.format.proofs.Reasons.{clear_append, broken_append}
use Rattle.model.specs.Model.{graph_of}
use Rattle.isolation.specs.SameBut.{SameBut}
use Rattle.isolation.proofs.SameButLaws.{same_refusal, same_graph}

-- a refusal tells nothing of the model
abbrev pub RefusalTellsNothing : {A : Type 0} → (Option ℕ → Graph → A) → Type 0
RefusalTellsNothing answer = (n : ℕ) (g g' : Graph) → answer (some n) g ≡ answer (some n) g'

module _ {t : ℕ} (limit : t ≤ 1) {f f' : List ℕ} (same : SameBut (1 - t) f f') where
  -- after the rules 1 to 11 come reasons that look at the model
  pub treated_alike : {A : Type 0} (later : Graph → List Reason) (answer : Option ℕ → Graph → A) → RefusalTellsNothing answer
      → answer (first_broken (rules f ++ later (graph_of f t))) (graph_of f t)
      ≡ answer (first_broken (rules f' ++ later (graph_of f' t))) (graph_of f' t)
  treated_alike later answer silent = go (first_broken (rules f)) refl (sym (same_refusal t limit f f' same))
    where
      g : Graph
      g = graph_of f t

      g' : Graph
      g' = graph_of f' t

      go : (o : Option ℕ) → first_broken (rules f) ≡ o → first_broken (rules f') ≡ o
          → answer (first_broken (rules f ++ later g)) g ≡ answer (first_broken (rules f' ++ later g')) g'
      go none e e' =
          ap (λ (o : Option ℕ). answer o g) (clear_append (rules f) (later g) e)
          ∙ ap (λ (x : Graph). answer (first_broken (later x)) x) (same_graph t limit f f' same e)
          ∙ sym (ap (λ (o : Option ℕ). answer o g') (clear_append (rules f') (later g') e'))
      go (some n) e e' =
          ap (λ (o : Option ℕ). answer o g) (broken_append (rules f) (later g) n e)
          ∙ silent n g g'
          ∙ sym (ap (λ (o : Option ℕ). answer o g') (broken_append (rules f') (later g') n e'))

  -- before them comes a reason that does not look at the file
  pub answered_alike : {A : Type 0} (first : Reason) (later : Graph → List Reason) (answer : Option ℕ → Graph → A) → RefusalTellsNothing answer
      → answer (first_broken (first ∷ rules f ++ later (graph_of f t))) (graph_of f t)
      ≡ answer (first_broken (first ∷ rules f' ++ later (graph_of f' t))) (graph_of f' t)
  answered_alike first later answer silent =
      treated_alike later (λ o g. answer (some_if first.holds first.number o) g) (go first.holds)
    where
      go : (b : Bool) (n : ℕ) (g g' : Graph) → answer (some_if b first.number (some n)) g ≡ answer (some_if b first.number (some n)) g'
      go true n g g' = silent first.number g g'
      go false n g g' = silent n g g'
