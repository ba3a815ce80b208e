-- The implied steps of a combination are those of the rule, never of the property.
use Prim.Native.Nat.{ℕ, ◌<◌}
use mathlib.Core.Path.{◌≡◌, refl, ap, ap₂, ◌∙◌}
use mathlib.Core.Bool.{Bool, true, false}
use mathlib.Core.List.{List, [], ◌∷◌, append-nil, map}
use lib.Dec.{ltb}
use borrow.Author.Tests.{eq-eqb}
use Rattle.lists.specs.Lists.{keep, collect}
use Rattle.format.specs.Layout.{states, stays_word, row_targets}
use Rattle.model.specs.Model.{list_if, with_implied, graph_of}
use Rattle.model.specs.Values.{header_of}
use Rattle.model.proofs.Laws.{succs_row}
use Rattle.combine_model.specs.Product.{pair_number, agreeing, pair_succs}
use Rattle.combine_model.proofs.PairLaws.{pair_div, pair_mod}
use Rattle.property.specs.Property.{property_of}
use Rattle.combine_graph.specs.Combined.{letter_of, combined}
use Rattle.combine_outcome.specs.Claim.{StepsOfRuleAlone}

-- nothing is collected from empty lists
collect_none : (ss : List ℕ) → collect {B = ℕ} (λ (s : ℕ). []) ss ≡ []
collect_none [] = refl
collect_none (s ∷ ss) = collect_none ss

-- no edge agrees at a state of the property whose row is empty
agreeing_none : (p : List ℕ) (letter q : ℕ) → row_targets p q ≡ [] → agreeing (property_of p) letter q ≡ []
agreeing_none p letter q none =
    ap (λ (ts : List ℕ). keep (λ (r : ℕ). (property_of p).holds q r letter) (list_if (ltb q (states p)) ts)) none
    ∙ ap (keep (λ (r : ℕ). (property_of p).holds q r letter)) (nothing (ltb q (states p)))
  where
    nothing : (b : Bool) → list_if b [] ≡ []
    nothing true = refl
    nothing false = refl

module _ (f letters p : List ℕ) (s q : ℕ) (less : q < states p) where
  -- the successors of a pair, by its two states
  pair_succs_lem : (combined f letters p).succs (pair_number (property_of p) s q)
      ≡ pair_succs (graph_of f 0) (property_of p) (letter_of letters s) s q
  pair_succs_lem =
      ap₂ (λ (r t : ℕ). pair_succs (graph_of f 0) (property_of p) (letter_of letters r) r t)
      (pair_div (states p) s q less) (pair_mod (states p) s q less)

pub steps_of_rule_alone : StepsOfRuleAlone
steps_of_rule_alone f letters p =
    record {
      rule_stays = λ s q l less one none.
          let alone : (graph_of f 0).succs s ≡ s ∷ [] =
          succs_row f (header_of f 0) s l
          ∙ ap₂ (λ (b : Bool) (ts : List ℕ). with_implied b s ts) (eq-eqb (stays_word f) 1 one) none in
          let next : ℕ → List ℕ = λ t. map (pair_number (property_of p) t) (agreeing (property_of p) (letter_of letters s) q) in
          pair_succs_lem f letters p s q less ∙ ap (collect next) alone ∙ append-nil (next s);
      property_ends = λ s q less none.
          let next : List ℕ → ℕ → List ℕ = λ qs t. map (pair_number (property_of p) t) qs in
          pair_succs_lem f letters p s q less
          ∙ ap (λ (qs : List ℕ). collect (next qs) ((graph_of f 0).succs s)) (agreeing_none p (letter_of letters s) q none)
          ∙ collect_none ((graph_of f 0).succs s);
    }
