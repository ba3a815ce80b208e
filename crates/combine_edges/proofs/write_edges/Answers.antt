-- `write_edges` meets its contract: the parts of the two files hold the rows of the combined state's two states.
use Prim.Native.Nat.{◌/◌, ◌%◌}
use mathlib.Core.Path.{◌≡◌, sym, ap}
use native.Mathlib.Omega.{arith}
use lib.ListN.{length}
use Rattle.text.proofs.WroteLaws.{adds_as}
use Rattle.writer.specs.File.{words16}
use Rattle.format.specs.Bytes.{words}
use Rattle.format.specs.Layout.{row_targets}
use Rattle.property.specs.Property.{chosen, row_masks}
use Rattle.property.proofs.PropertyLaws.{property_facts}
use Rattle.combine_row.specs.Row.{row_of}
use Rattle.combine_graph.specs.Combined.{letter_of, combined}
use Rattle.combine_graph.proofs.CombinedLaws.{property_header, property_below, combined_row, row_fits, row_masks-length}
use Rattle.combine_edges.proofs.write_edges.Goals as goal
use Rattle.combine_edges.proofs.write_edges.Goals.{After-mask_part-masks}

-- what the row's writer is to write are the edges from the combined state
row_told : (c : After-mask_part-masks) → let a = c.args in
    row_of a.k.states c.successors_of-successors.result
    (chosen (letter_of a.letters.now (a.c / a.k.states)) (words c.mask_part-masks.result.now) (words c.target_part-targets.result.now))
    ≡ (combined a.rule.now a.letters.now a.property.now).succs a.c
row_told c =
    let a = c.args in
    let targets-are : words c.target_part-targets.result.now ≡ row_targets a.property.now (a.c % a.k.states) = c.target_part-targets.ensures in
    let masks-are : words c.mask_part-masks.result.now ≡ row_masks a.property.now (a.c % a.k.states) = c.mask_part-masks.ensures in
    rw (c.successors_of-successors.ensures, masks-are, targets-are) (sym (combined_row c.requires.combinable a.c c.requires.c_bound))

pub write_row-requires : goal.write_row-requires
write_row-requires c =
    let at = (goal.at.write_row-requires c).After-mask_part-masks in
    let a = c.args in
    let C = c.requires.combinable in
    let less = c.requires.c_bound in
    let within = property_below C a.c less in record {
      letter_le_highest_letter = C.letters_range (a.c / a.k.states);
      masks_len = rw (at.mask_part-masks.ensures, at.target_part-targets.ensures)
          (row_masks-length (property_facts C.property_valid) (a.c % a.k.states) (omega (arith, within, (property_header C).0))).0;
      row_fits = rw (at.successors_of-successors.ensures, at.target_part-targets.ensures) (row_fits C a.c less);
      targets_in_bounds = omega (arith, ap length (row_told at), c.requires.c_in_bounds);
    }

pub returns : goal.returns
returns c = adds_as (ap words16 (row_told (goal.at.returns c).After-mask_part-masks)) c.write_row.ensures
