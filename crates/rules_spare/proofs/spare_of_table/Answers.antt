use borrow.Author.Rules.{rules}
use mathlib.Core.Path.{◌≡◌, sym, ◌∙◌}
use Rattle.format.specs.Layout.{mark_bit}
use Rattle.lists.proofs.Range.{left_next}
use Rattle.rules_spare.proofs.spare_of_table.Goals as goal
use Rattle.rules_spare.proofs.spare_of_table.Goals.{After-bit_if_there}

-- the bit that a turn of the loop reads
bit_read : (c : After-bit_if_there) →
    let start = c in
    c.bit_if_there.result ≡ mark_bit start.args.file.now start.args.t c.loop-s.s
bit_read c =
    let marks = c in
    let start = marks in
    rw (marks.table_at-at.ensures, start.requires.has_tables.states_are, start.requires.has_tables.edges_are) at c.bit_if_there.ensures

pub loop-s-preserved : goal.loop-s-preserved
loop-s-preserved c = left_next c.loop-s.invariant (search rules) (sym (bit_read (goal.at.loop-s-preserved c).After-bit_if_there) ∙ c.if-bit_if_there.false)
