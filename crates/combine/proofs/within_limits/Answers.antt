-- `within_limits` meets its contract: 18 for too many states or edges, 15 for a short output, else the file is written.
use Rattle.std.proofs.Common.{rules, ◌≡◌, ◌∙◌, sym, ◌≤◌, false, length, arith}
use native.Mathlib.Nat.{mul-le-mul}
use Rattle.model.proofs.Laws.{valid_sizes}
use Rattle.property.proofs.PropertyLaws.{property_facts, property_numbers}
use Rattle.combine_graph.specs.Combined.{combined, Combinable}
use Rattle.combine_graph.proofs.CombinedLaws.{combined_size}
use Rattle.combine_outcome.specs.Combination.{too_large, combined_file}
use Rattle.combine_outcome.proofs.ReasonLaws.{large_states, large_edges, within_both, combined-length}
use Rattle.combine.proofs.ReasonLaws.{combinable, refused_18, refused_15, written_is}
use Rattle.text.proofs.WroteLaws.{adds_left}
use Rattle.combine.proofs.within_limits.Goals as goal
use Rattle.combine.proofs.within_limits.Goals.{After-total_of-total, Else-edges-gt-MOST_EDGES, Else-states-gt-MOST_STATES}

-- with few enough states the files can be combined
ready : (c : Else-states-gt-MOST_STATES) → Combinable c.args.rule.now c.args.letters.now c.args.property.now c.args.h c.args.k
ready c = combinable c.requires.valid c.requires.letters_value c.requires.valid_property (omega (arith, c.if-states-gt-MOST_STATES.false))

-- with few enough edges reason 18 does not hold
not_large : (c : Else-edges-gt-MOST_EDGES) → too_large (combined c.args.rule.now c.args.letters.now c.args.property.now) ≡ false
not_large c =
    let a = c.args in
    within_both a.rule.now a.letters.now a.property.now _ _ (combined_size a.letters.now c.requires.valid c.requires.valid_property)
    (omega (arith, c.if-states-gt-MOST_STATES.false)) c.count_edges-edges.ensures (omega (arith, c.if-edges-gt-MOST_EDGES.false))

-- the total length that is computed is the file's
total_told : (c : After-total_of-total) → length (combined_file c.args.rule.now c.args.letters.now c.args.property.now) ≡ c.total_of-total.result
total_told c =
    let a = c.args in
    combined-length a.rule.now a.letters.now a.property.now _ _ (combined_size a.letters.now c.requires.valid c.requires.valid_property) c.count_edges-edges.ensures
    ∙ sym c.total_of-total.ensures

pub overflow_mul-states : goal.overflow_mul-states
overflow_mul-states c =
    let sizes = valid_sizes c.requires.valid in
    let property = c.requires.valid_property in
    let fewer : c.args.k.states ≤ 4096 = omega (arith, (property_numbers property).0, (property_facts property).states_range) in
    omega (arith, mul-le-mul sizes.states_range.1 fewer)

pub returns-then-states-gt-MOST_STATES : goal.returns-then-states-gt-MOST_STATES
returns-then-states-gt-MOST_STATES c =
    let a = c.args in
    let r = c.requires in
    let is = refused_18 a.rule.now a.letters.now a.property.now a.output.now r.valid.accepted r.letters_value r.property_value
    (large_states a.rule.now a.letters.now a.property.now _ (combined_size a.letters.now r.valid r.valid_property) (omega (arith, c.if-states-gt-MOST_STATES.true))) in record { outcome = is.0; output = is.1 }

pub count_edges-edges-requires : goal.count_edges-edges-requires
count_edges-edges-requires c = ready c

pub returns-then-edges-gt-MOST_EDGES : goal.returns-then-edges-gt-MOST_EDGES
returns-then-edges-gt-MOST_EDGES c =
    let a = c.args in
    let r = c.requires in
    let is = refused_18 a.rule.now a.letters.now a.property.now a.output.now r.valid.accepted r.letters_value r.property_value
    (large_edges a.rule.now a.letters.now a.property.now _ _ (combined_size a.letters.now r.valid r.valid_property) (omega (arith, c.if-states-gt-MOST_STATES.false))
    c.count_edges-edges.ensures (omega (arith, c.if-edges-gt-MOST_EDGES.true))) in record { outcome = is.0; output = is.1 }

pub returns-then-output-total : goal.returns-then-output-total
returns-then-output-total c =
    let total = (goal.at.returns-then-output-total c).After-total_of-total in
    let a = c.args in
    let r = c.requires in
    let is = refused_15 a.rule.now a.letters.now a.property.now a.output.now r.valid.accepted r.letters_value r.property_value (not_large (goal.at.After-total_of-total total).Else-edges-gt-MOST_EDGES)
    (omega (arith, c.if-output-total.true, total_told total)) in record { outcome = is.0; output = is.1 }

pub write_product-requires : goal.write_product-requires
write_product-requires c =
    record {
      combinable = ready (goal.at.write_product-requires c).Else-states-gt-MOST_STATES;
      edges_value = (c.count_edges-edges.ensures, omega (arith, c.if-edges-gt-MOST_EDGES.false));
      edges_in_bounds = omega (arith, c.total_of-total.ensures, c.if-output-total.false);
    }

pub returns : goal.returns
unfolding combined_file
returns c =
    let total = (goal.at.returns c).After-total_of-total in
    let a = c.args in
    let r = c.requires in
    let is = written_is a.rule.now a.letters.now a.property.now a.output.now r.valid.accepted r.letters_value r.property_value (not_large (goal.at.After-total_of-total total).Else-edges-gt-MOST_EDGES)
    (omega (arith, c.if-output-total.false, total_told total)) (adds_left c.write_product.ensures (search rules)) in record {
      outcome = is.0;
      output = is.1;
    }
