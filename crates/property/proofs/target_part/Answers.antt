-- `target_part` meets its contract: the row lies within the edge table.
use native.Mathlib.Omega.{arith}
use Rattle.model.proofs.Laws.{row_end_le}
use Rattle.property.proofs.PropertyLaws.{property_facts, property_numbers}
use Rattle.property.proofs.target_part.Goals as goal

pub row-requires : goal.row-requires
row-requires c =
    let start = c in
    let v = start.requires.valid_property in
    let numbers = property_numbers v in
    let F = property_facts v in
    let q = start.args.q in
    omega (arith, numbers, F, F.rows_ascend q (omega (arith, start.requires.q_lt_states)), row_end_le F q (omega (arith, start.requires.q_lt_states)))
