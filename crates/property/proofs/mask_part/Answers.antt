-- `mask_part` meets its contract: the masks of the row lie after the marks, within the file.
use mathlib.Core.Path.{◌≡◌, ap₂, ◌∙◌}
use native.Mathlib.Omega.{arith}
use Rattle.format.specs.Layout.{states, edge_count}
use Rattle.property.specs.Property.{masks_at}
use Rattle.property.proofs.PropertyLaws.{property_facts, property_length, property_numbers, masks_within}
use Rattle.property.proofs.mask_part.Goals as goal
use Rattle.property.proofs.mask_part.Goals.{After-total_of}

-- the masks begin after the marks
place : (c : After-total_of) → let f = c.args.file.now in c.total_of.result ≡ masks_at (states f) (edge_count f)
place c =
    let start = c in
    let h = start.args.h in
    let numbers = property_numbers start.requires.valid_property in
    let by-header : c.total_of.result ≡ masks_at h.states h.edges = c.total_of.ensures in
    by-header ∙ ap₂ masks_at numbers.0 numbers.1

pub edge_part-requires : goal.edge_part-requires
edge_part-requires c =
    let start = c in
    let v = start.requires.valid_property in
    let q = start.args.q in
    let F = property_facts v in
    let numbers = property_numbers v in
    let less = start.requires.q_lt_states in
    omega (arith, place c, numbers, F, property_length v, masks_within v q (omega arith), F.rows_ascend q (omega arith))
