-- The combined states of two files that can be combined: the parts of their numbers, their edges by rows, and how many.
use Prim.Native.Nat.{ℕ, ◌+◌, ◌*◌, ◌/◌, ◌%◌, ◌≤◌, ◌<◌}
use mathlib.Core.Path.{◌≡◌, sym, ap, ap₂, subst, ◌∙◌}
use mathlib.Core.Bool.{Bool, true, false}
use mathlib.Core.List.{List, [], ◌∷◌, map}
use native.Mathlib.Omega.{arith}
use native.Mathlib.Nat.{mul-le-mul}
use lib.ListN.{length, get_or, length-append, length-map}
use Rattle.lists.specs.Lists.{collect, cons_if, keep}
use Rattle.lasso.specs.Graph.{Graph}
use Rattle.lists.proofs.Tests.{at_memb}
use Rattle.lists.proofs.BelowLaws.{up_from-length}
use Rattle.format.specs.Bytes.{bitb}
use Rattle.format.specs.Layout.{states, edge_count, start_of, row_targets}
use Rattle.model.specs.declared.Header.{Header}
use Rattle.model.specs.Model.{graph_in, graph_of}
use Rattle.model.specs.Values.{Valid}
use Rattle.model.proofs.Laws.{Facts, valid_facts, valid_graph, header_numbers, row_end_le, row_targets-below, succs_length_le, valid_well_formed}
use Rattle.combine_model.proofs.PairLaws.{mod_below, div_below, blocks_apart, pair_below}
use Rattle.property.specs.Property.{row_masks, chosen, ValidProperty}
use Rattle.property.proofs.PropertyLaws.{property_facts, property_numbers}
use Rattle.property.proofs.ChosenLaws.{chosen-length, agreeing-chosen}
use Rattle.combine_row.specs.Row.{RowFits, row_of}
use Rattle.combine_graph.specs.Combined.{letter_of, combined, Combinable}

-- as many numbers as pairs of entries
collect-map-length : (m : ℕ → ℕ → ℕ) (ss qs : List ℕ) → length (collect (λ s. map (m s) qs) ss) ≡ length ss * length qs
collect-map-length m [] qs = omega arith
collect-map-length m (s ∷ ss) qs =
    omega (arith, length-append (map (m s) qs) (collect (λ s. map (m s) qs) ss), length-map qs (m s), collect-map-length m ss qs)

-- no more entries are kept than there are
keep-length_le : (p : ℕ → Bool) (xs : List ℕ) → length (keep p xs) ≤ length xs
keep-length_le p [] = omega arith
keep-length_le p (x ∷ xs) =
    elim (p x) as (λ b. length (cons_if b x (keep p xs)) ≤ length (x ∷ xs)) [
      | true ↦ omega (arith, keep-length_le p xs)
      | false ↦ omega (arith, keep-length_le p xs)
    ]

-- the masks and the targets of a row are as many as its places
pub row_masks-length : {p : List ℕ} → Facts p → (q : ℕ) → q < states p
    → (length (row_masks p q) ≡ length (row_targets p q)) × (length (row_masks p q) ≤ 8192)
row_masks-length {p} F q less =
    (rw (length-map, length-map), rw (length-map, up_from-length) (omega (arith, row_end_le F q less, F.edges_range)))

-- the number of combined states, by the headers of the two files
pub combined_size : {f p : List ℕ} {h k : Header} (letters : List ℕ) → Valid f h → ValidProperty p k
    → (combined f letters p).size ≡ h.states * k.states
combined_size {f} letters v w = sym (ap₂ ◌*◌ (header_numbers f v.header).0 (property_numbers w).0)

module _ {f letters p : List ℕ} {h k : Header} (C : Combinable f letters p h k) where
  -- the rule's header has its numbers
  pub rule_header : (h.states ≡ states f) × (h.edges ≡ edge_count f) × (h.start ≡ start_of f)
  rule_header = header_numbers f C.rule_valid.header

  -- the property's header has its numbers
  pub property_header : (k.states ≡ states p) × (k.edges ≡ edge_count p) × (k.start ≡ start_of p)
  property_header = property_numbers C.property_valid

  -- the number of combined states
  pub pairs_are : (combined f letters p).size ≡ h.states * k.states
  pairs_are = combined_size letters C.rule_valid C.property_valid

  -- the property has a state
  pub some_property_state : 0 < k.states
  some_property_state = omega (arith, property_header.0, (property_facts C.property_valid).states_range)

  -- the initial pair
  pub start_pair_is : (combined f letters p).start ≡ h.start * k.states + k.start
  start_pair_is = sym (ap₂ ◌+◌ (ap₂ ◌*◌ rule_header.2 property_header.0) property_header.2)

  -- the initial pair is a combined state
  pub start_pair_below : h.start * k.states + k.start < h.states * k.states
  start_pair_below =
      pair_below h.states k.states h.start k.start
      (omega (arith, (valid_facts C.rule_valid).start_below, rule_header))
      (omega (arith, (property_facts C.property_valid).start_below, property_header))

  module _ (c : ℕ) (less : c < h.states * k.states) where
    -- the rule's state of a combined state
    pub state_below : c / k.states < h.states
    state_below = div_below h.states k.states c less

    -- the property's state of a combined state
    pub property_below : c % k.states < k.states
    property_below = mod_below k.states c some_property_state

    -- the edges from a combined state, by the rows of its two states
    pub combined_row : (combined f letters p).succs c
        ≡ row_of k.states ((graph_in f h).succs (c / k.states))
        (chosen (letter_of letters (c / k.states)) (row_masks p (c % k.states)) (row_targets p (c % k.states)))
    combined_row =
        let size : k.states ≡ states p = property_header.0 in
        let below : c % states p < states p = subst (λ (n : ℕ). c % n < n) size property_below in
        let s : ℕ = c / states p in
        let letter : ℕ = letter_of letters s in
        let chose = agreeing-chosen (property_facts C.property_valid) letter (c % states p) below in
        ap (λ (qs : List ℕ). row_of (states p) ((graph_of f 0).succs s) qs) chose
        ∙ ap (λ (g : Graph). row_of (states p) (g.succs s) (chosen letter (row_masks p (c % states p)) (row_targets p (c % states p))))
        (sym (valid_graph C.rule_valid))
        ∙ ap (λ (n : ℕ). row_of n ((graph_in f h).succs (c / n)) (chosen (letter_of letters (c / n)) (row_masks p (c % n)) (row_targets p (c % n))))
        (sym size)

    -- as many edges from a combined state as pairs of an edge of the rule and an edge of the property that holds the letter
    pub combined_degree : length ((combined f letters p).succs c)
        ≡ length ((graph_in f h).succs (c / k.states))
        * length (keep (λ (m : ℕ). bitb m (letter_of letters (c / k.states))) (row_masks p (c % k.states)))
    combined_degree =
        let F = property_facts C.property_valid in
        let q : ℕ = c % k.states in
        let letter : ℕ = letter_of letters (c / k.states) in
        let qs : List ℕ = chosen letter (row_masks p q) (row_targets p q) in
        let within : q < states p = omega (arith, property_below, property_header.0) in
        ap length combined_row
        ∙ collect-map-length (λ (s q : ℕ). s * k.states + q) ((graph_in f h).succs (c / k.states)) qs
        ∙ ap (λ (n : ℕ). length ((graph_in f h).succs (c / k.states)) * n)
        (chosen-length letter (row_masks p q) (row_targets p q) (row_masks-length F q within).0)

    -- no combined state has more than 8,192 × 8,192 edges
    pub combined_degree_le : length ((combined f letters p).succs c) ≤ 67108864
    combined_degree_le =
        let q : ℕ = c % k.states in
        let letter : ℕ = letter_of letters (c / k.states) in
        let within : q < states p = omega (arith, property_below, property_header.0) in
        let rows = row_masks-length (property_facts C.property_valid) q within in
        let steps : length ((graph_in f h).succs (c / k.states)) ≤ 8192 =
        subst (λ (g : Graph). length (g.succs (c / k.states)) ≤ 8192) (sym (valid_graph C.rule_valid)) (succs_length_le (valid_facts C.rule_valid) h.table (c / k.states)) in
        let held : length (keep (λ (m : ℕ). bitb m letter) (row_masks p q)) ≤ 8192 =
        omega (arith, keep-length_le (λ (m : ℕ). bitb m letter) (row_masks p q), rows.1) in
        omega (arith, combined_degree, mul-le-mul steps held)

    -- the successors of the rule's state and the targets of the property's form pairs below 4,096
    pub row_fits : RowFits k.states ((graph_in f h).succs (c / k.states)) (row_targets p (c % k.states))
    row_fits =
        let s : ℕ = c / k.states in
        let q : ℕ = c % k.states in
        let ss : List ℕ = (graph_in f h).succs s in
        let within : q < states p = omega (arith, property_below, property_header.0) in
        record {
          successors_fit = λ j less.
              let edge = (valid_well_formed C.rule_valid).edge_states s (get_or ss j 0) (at_memb ss j less) in
              omega (arith, blocks_apart k.states (get_or ss j 0) h.states edge.1, C.pairs_limit);
          targets_fit = λ j less.
              omega (arith, row_targets-below (property_facts C.property_valid) q (get_or (row_targets p q) j 0) within (at_memb (row_targets p q) j less), property_header.0);
        }
