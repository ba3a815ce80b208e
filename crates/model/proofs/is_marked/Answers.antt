-- `is_marked` meets its contract: the mark of a state of a valid file is its bit in the mark table that the header names; in
-- a table that the file does not have no bit is set.
use native.Mathlib.Omega.{arith}
use Prim.Native.Nat.{ℕ, ◌%◌}
use mathlib.Core.Path.{◌≡◌, sym, ap, ap₂, ◌∙◌}
use lib.ListN.{get_or}
use Rattle.format.specs.Bytes.{bitb}
use Rattle.format.specs.Layout.{states, edge_count, table_at}
use Rattle.format.proofs.Marks.{table_within, past_end}
use Rattle.model.proofs.Laws.{marked_bit, no_part_of_table, valid_sizes}
use Rattle.model.proofs.is_marked.Goals as goal
use Rattle.model.proofs.is_marked.Goals.{After-table_at-at}

-- the table starts where the file's numbers of states and edges put it
placed : (c : After-table_at-at) → let a = c.args in let f = a.file.now in
    c.table_at-at.result ≡ table_at (states f) (edge_count f) a.h.table
placed c =
    let start = c in
    let h = start.args.h in
    let S = valid_sizes start.requires.valid in
    let by-header : c.table_at-at.result ≡ table_at h.states h.edges h.table = omega (arith, c.table_at-at.ensures) in
    by-header ∙ ap₂ (λ (n m : ℕ). table_at n m h.table) S.states_are S.edges_are

pub table_at-at-requires : goal.table_at-at-requires
table_at-at-requires c = omega (arith, valid_sizes c.requires.valid, c.requires.valid.table_limit)

pub mark_bytes-requires : goal.mark_bytes-requires
mark_bytes-requires c = omega (arith, valid_sizes c.requires.valid)

pub overflow_add-at : goal.overflow_add-at
overflow_add-at c =
    let start = c in
    let f = start.args.file.now in
    let v = start.requires.valid in
    let S = valid_sizes v in
    let within = table_within {n = states f} {m = edge_count f} (omega (arith, S)) (omega (arith, S)) v.table_limit in
    omega (arith, S, placed (goal.at.overflow_add-at c).After-table_at-at, c.mark_bytes.ensures, within)

pub returns-then-file-at : goal.returns-then-file-at
returns-then-file-at c =
    let start = c in
    let a = start.args in
    let f = a.file.now in
    let v = start.requires.valid in
    let at = placed (goal.at.returns-then-file-at c).After-table_at-at in
    let S = valid_sizes v in
    let absent = no_part_of_table f v.accepted a.h.table v.table_limit (omega (arith, at, S, c.mark_bytes.ensures, c.if-file-at.true)) in
    sym (marked_bit f a.h a.s (omega arith) ∙ past_end f _ (a.s % 8) (omega (arith, absent)))

pub bit-requires : goal.bit-requires
bit-requires c =
    let start = c in
    omega (arith, valid_sizes start.requires.valid, c.if-file-at.false, c.mark_bytes.ensures)

pub returns : goal.returns
returns c =
    let a = c.args in
    let f = a.file.now in
    let at = placed (goal.at.returns c).After-table_at-at in
    c.bit.ensures
    ∙ ap (λ (i : ℕ). bitb (get_or f i 0) (a.s % 8)) (omega (arith, at))
    ∙ sym (marked_bit f a.h a.s (omega arith))
