-- What a property file is that keeps the rules 1 to 11: its numbers, its tables, and that its graph is well formed.
use Prim.Native.Nat.{ℕ, ◌+◌, ◌*◌, ◌≤◌, ◌<◌}
use mathlib.Core.Path.{◌≡◌, refl, ap}
use mathlib.Core.Bool.{true, ◌||◌, not}
use mathlib.Core.Option.{Option, some, none}
use mathlib.Core.List.{List}
use native.Mathlib.Omega.{arith}
use lib.ListN.{length}
use lib.Dec.{T}
use Rattle.lists.specs.Lists.{is_some}
use Rattle.lasso.specs.Graph.{WellFormed}
use Rattle.format.specs.Layout.{states, edge_count, start_of, row_entry}
use Rattle.format.specs.Rules.{first_broken}
use Rattle.lists.proofs.Fails.{neither_l}
use Rattle.model.specs.Values.{header_of}
use Rattle.model.specs.declared.Header.{Header}
use Rattle.model.specs.Values.{Refused, Accept}
use Rattle.model.proofs.Answers.{answer_refused, answer_accepted}
use Rattle.model.proofs.Laws.{Facts, kept_facts, kept_length, facts_well_formed, header_numbers, row_end_le}
use Rattle.property.specs.Property.{masks_at, property_total, property_rules, property_check_of, zero_mask, bad_property, property_graph, ValidProperty}

module _ {p : List ℕ} {h : Header} (v : ValidProperty p h) where
  -- the facts of its fields and tables
  pub property_facts : Facts p
  property_facts = kept_facts (property_total (states p) (edge_count p)) 1 p (omega arith) (omega arith) v.kept

  -- its length counts the masks
  pub property_length : length p ≡ property_total (states p) (edge_count p)
  property_length =
      let (t, one, long) = kept_length (property_total (states p) (edge_count p)) 1 p v.kept in
      let first : t ≡ 0 = omega arith in
      omega (arith, rw first at long)

  -- its header has its numbers
  pub property_numbers : (h.states ≡ states p) × (h.edges ≡ edge_count p) × (h.start ≡ start_of p)
  property_numbers = header_numbers p v.header

  -- its graph is well formed
  pub property_well_formed : WellFormed (property_graph p)
  property_well_formed = facts_well_formed property_facts 0

  -- the masks of a row lie within the file
  pub masks_within : (q : ℕ) → q < states p → masks_at (states p) (edge_count p) + 2 * row_entry p (q + 1) ≤ length p
  masks_within q l = omega (arith, property_length, row_end_le property_facts q l)

-- a property file that the check refuses breaks one of 1 to 11, so reason 17 holds
pub refused_bad : (p : List ℕ) (n : ℕ) → Refused n ≡ property_check_of p → bad_property p ≡ true
refused_bad p n e =
    let broken : first_broken (property_rules p) ≡ some n = answer_refused (first_broken (property_rules p)) (header_of p 0) n e in
    ap (λ (o : Option ℕ). is_some o || zero_mask p) broken

-- a property file that the check accepts keeps them, with its own header
pub checked_valid : (p : List ℕ) (h : Header) → Accept h ≡ property_check_of p → ValidProperty p h
checked_valid p h e =
    let accepted = answer_accepted (first_broken (property_rules p)) (header_of p 0) h e in
    record { kept = accepted.0; header = accepted.1 }

-- then a zero mask decides reason 17
pub valid_bad : {p : List ℕ} {h : Header} → ValidProperty p h → bad_property p ≡ zero_mask p
valid_bad {p} v = ap (λ (o : Option ℕ). is_some o || zero_mask p) v.kept

-- a property file to which reason 17 does not apply keeps 1 to 11
pub bad_kept : (p : List ℕ) → T (not (bad_property p)) → ValidProperty p (header_of p 0)
bad_kept p h = record { kept = none_left (first_broken (property_rules p)) (neither_l (is_some (first_broken (property_rules p))) (zero_mask p) h); header = refl }
  where
    none_left : (o : Option ℕ) → T (not (is_some o)) → o ≡ none
    none_left none t = refl
    none_left (some n) t = absurd t
