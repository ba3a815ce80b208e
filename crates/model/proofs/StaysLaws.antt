-- The steps that bytes 6–7 imply, and the states at which a run ends.
use Prim.Native.Nat.{ℕ, ◌≤◌, ◌<◌}
use mathlib.Core.Path.{◌≡◌, refl, sym, ap, subst, ◌∙◌}
use mathlib.Core.Bool.{Bool, true, false}
use mathlib.Core.List.{List, [], ◌∷◌}
use mathlib.Core.Logic.{inl, inr}
use native.Mathlib.Omega.{arith}
use lib.ListN.{length}
use lib.Dec.{T, eqb, eqb→eq, nltb→le, eqb_refl}
use borrow.Author.Tests.{lt-ltb, le-ltb, eqb-false, ne_eqb}
use Rattle.lists.specs.Lists.{memb}
use Rattle.lasso.specs.Graph.{Graph, edgeb}
use Rattle.lasso.specs.Shown.{EndsRun}
use Rattle.lists.proofs.Tests.{both, eq→eqb, or_l, lt_or_ge}
use Rattle.lasso.proofs.ShownLaws.{no_edge_out}
use Rattle.format.specs.Layout.{states, stays_word, stays, row_targets}
use Rattle.format.specs.Rules.{rules}
use Rattle.format.proofs.Reasons.{none_clear}
use Rattle.model.specs.Model.{list_if, row_graph, with_implied, staying, graph_of}
use Rattle.model.specs.Values.{header_of}
use Rattle.model.specs.Stays.{StepsAreImplied, RunEndsExactly}
use Rattle.model.proofs.Implied.{implied_some, staying_not, implied_memb, edge_implied, stays_implied}
use Rattle.model.proofs.Laws.{succs_row, succs_none}

-- a step to another state is an edge
other_edge : (b : Bool) (s t : ℕ) (ts : List ℕ) → (s ≡ t → ⊥) → memb t (with_implied b s ts) ≡ memb t ts
other_edge true s t [] d = rw (ne_eqb t s (λ e. d (sym e)))
other_edge false s t [] d = refl
other_edge b s t (x ∷ ts) d = refl

-- a list that is not empty has an entry
some_entry : (ts : List ℕ) → (ts ≡ [] → ⊥) → 1 ≤ length ts
some_entry [] d = absurd (d refl)
some_entry (t ∷ ts) d = omega arith

-- a state has no step if its row is empty and it does not stay
implied_empty : (b : Bool) (s : ℕ) (ts : List ℕ) → with_implied b s ts ≡ [] → (ts ≡ []) × (b ≡ false)
implied_empty true s [] e = absurd (omega (arith, ap length e))
implied_empty false s [] e = (refl, refl)
implied_empty b s (t ∷ ts) e = absurd (omega (arith, ap length e))

-- a state that ends the run has no successor
ends_none : (g : Graph) (s : ℕ) → EndsRun g s → (ts : List ℕ) → g.succs s ≡ ts → g.succs s ≡ []
ends_none g s ends [] e = e
ends_none g s ends (t ∷ ts) e =
    let edge : T (edgeb g s t) = subst (λ (us : List ℕ). T (memb t us)) (sym e) (or_l (eqb t t) (memb t ts) (eqb_refl t)) in
    absurd (ends.last (s ∷ t ∷ []) (both (edgeb g s t) true edge tt) 0 refl (omega arith))

module _ (f : List ℕ) (table : ℕ) where
  -- where the successors of all states are their rows' targets the model is the graph of the rows
  rows_alone : ((s : ℕ) → (graph_of f table).succs s ≡ (row_graph f (header_of f table)).succs s) → graph_of f table ≡ row_graph f (header_of f table)
  rows_alone same =
      let g = graph_of f table in
      λ i. record { size = g.size; start = g.start; succs = λ s. same s i; marked = g.marked }

  -- the successors of a state
  succs_are : (s : ℕ) → s < states f → (graph_of f table).succs s ≡ with_implied (stays f) s (row_targets f s)
  succs_are s l = succs_row f (header_of f table) s l

pub steps_are_implied : StepsAreImplied
steps_are_implied f table =
    record {
      to_itself = λ s l.
          let step : List ℕ → Type 0 = λ ts. T (memb s ts) in (
            λ e. elim (implied_memb (stays f) s s (row_targets f s) (subst step (succs_are f table s l) e)) [
              | inl edge ↦ inl edge
              | inr (on, same, none) ↦ inr (eqb→eq (stays_word f) 1 on, none)
            ],
            λ e. subst step (sym (succs_are f table s l)) (elim e [
              | inl edge ↦ edge_implied (stays f) s s (row_targets f s) edge
              | inr (one, none) ↦ stays_implied (stays f) s (row_targets f s) (eq→eqb (stays_word f) 1 one) none
            ]),
          );
      to_another = λ s t l d.
          ap (λ (ts : List ℕ). memb t ts) (succs_are f table s l) ∙ other_edge (stays f) s t (row_targets f s) d;
      zero_rows_alone = λ e.
          ap (λ (b : Bool). staying b (row_graph f (header_of f table))) (ne_eqb (stays_word f) 1 (omega arith))
          ∙ staying_not (row_graph f (header_of f table));
      full_rows_alone = λ full. rows_alone f table (λ s. elim (lt_or_ge s (states f)) [
        | inl l ↦
            succs_are f table s l ∙ implied_some (stays f) s (row_targets f s) (some_entry (row_targets f s) (full s l))
            ∙ sym (ap (λ (b : Bool). list_if b (row_targets f s)) (lt-ltb s (states f) l))
        | inr g ↦ succs_none f (header_of f table) s g ∙ sym (ap (λ (b : Bool). list_if b (row_targets f s)) (le-ltb s (states f) g))
      ]);
    }

pub run_ends_exactly : RunEndsExactly
run_ends_exactly f table a s l = (
  λ ends.
      let none : with_implied (stays f) s (row_targets f s) ≡ [] = sym (succs_are f table s l) ∙ ends_none (graph_of f table) s ends _ refl in
      let row = implied_empty (stays f) s (row_targets f s) none in
      let most : stays_word f ≤ 1 = nltb→le 1 (stays_word f) (none_clear (rules f) a).1.1.1.1.0 in
      let other : stays_word f ≡ 1 → ⊥ = eqb-false (stays_word f) 1 row.1 in
      (row.0, omega arith),
  λ (none, zero). no_edge_out (graph_of f table) s
      (ap (λ (g : Graph). g.succs s) ((steps_are_implied f table).zero_rows_alone zero)
      ∙ ap (λ (b : Bool). list_if b (row_targets f s)) (lt-ltb s (states f) l) ∙ none),
)
