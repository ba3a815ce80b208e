use borrow.Author.Rules.{rules}
use native.Mathlib.Omega.{arith}
use mathlib.Core.Path.{◌≡◌, sym, ap, ◌∙◌}
use mathlib.Core.Bool.{not}
use lib.Dec.{T}
use Rattle.lists.specs.Lists.{ascendingb}
use Rattle.format.specs.Layout.{row_targets}
use Rattle.format.specs.Rules.{bad_rows}
use Rattle.format.proofs.Kept.{rows_ascend_kept, row_last_kept, row_end_within}
use Rattle.lists.proofs.Range.{left_found, left_next}
use Rattle.rules_rows.proofs.order_broken.Goals as goal
use Rattle.rules_rows.proofs.order_broken.Goals.{After-ascends}

-- the test of row s that a turn of the loop makes
row_tested : (c : After-ascends) →
    let at = c in
    c.ascends.result ≡ ascendingb (row_targets at.args.file.now at.loop-s.s)
row_tested c = c.ascends.ensures ∙ ap ascendingb c.row.ensures

pub row-requires : goal.row-requires
row-requires c =
    let start = c in
    let file = start.args.file.now in
    let kept : T (not (bad_rows file)) = rw start.requires.file_value tt in
    let up = rows_ascend_kept file kept in
    let s = c.loop-s.s in
    omega (arith, up s (omega arith), row_end_within file up (row_last_kept file kept) s (omega arith))

pub returns-then-not-ascends : goal.returns-then-not-ascends
returns-then-not-ascends c =
    let at = c in
    sym (left_found at.loop-s.invariant (search rules) (ap not (sym (row_tested (goal.at.returns-then-not-ascends c).After-ascends) ∙ c.if-not-ascends.true)))

pub loop-s-preserved : goal.loop-s-preserved
loop-s-preserved c =
    let at = c in
    left_next at.loop-s.invariant (search rules) (ap not (sym (row_tested (goal.at.loop-s-preserved c).After-ascends) ∙ c.if-not-ascends.false))
