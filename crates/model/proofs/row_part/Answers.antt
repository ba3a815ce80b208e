-- `row_part` meets its contract: a valid file's row entries are in order and within its edge table.
use native.Mathlib.Omega.{arith}
use Rattle.model.proofs.Laws.{row_end_le, steps_succs, valid_facts, valid_sizes}
use Rattle.model.proofs.row_part.Goals as goal

pub row-requires : goal.row-requires
row-requires c =
    let s = c.args.s in
    let F = valid_facts c.requires.valid in
    let S = valid_sizes c.requires.valid in
    omega (arith, F.rows_ascend s (omega arith), row_end_le F s (omega arith))

pub returns : goal.returns
returns c =
    let a = c.args in
    steps_succs a.file.now a.h a.s _ (omega arith) c.row.ensures
