use borrow.Author.Rules.{rules}
use native.Mathlib.Omega.{arith}
use Prim.Native.Nat.{◌+◌}
use borrow.Author.Tests.{le-ltb}
use Rattle.format.specs.Layout.{row_entry}
use Rattle.lists.proofs.Range.{left_next}
use Rattle.rules_rows.proofs.rows_broken.Goals as goal
use Rattle.rules_rows.proofs.rows_broken.Goals.{After-row_entry-2, Else-row_entry-ne0, Then-row_entry}

pub loop-s-preserved : goal.loop-s-preserved
loop-s-preserved c =
    let at = c in
    let file = at.args.file.now in
    left_next at.loop-s.invariant (search rules) (le-ltb (row_entry file (at.loop-s.s + 1)) (row_entry file at.loop-s.s) (omega arith))
