use native.Mathlib.Omega.{arith}
use mathlib.Core.Path.{◌≡◌}
use borrow.Author.Tests.{lt-ltb}
use Rattle.format.specs.Layout.{states, target}
use Rattle.lists.proofs.Range.{left_next}
use Rattle.rules_rows.proofs.targets_broken.Goals as goal
use Rattle.rules_rows.proofs.targets_broken.Goals.{After-entry_at}

-- the target that a turn of the loop reads
target_read : (c : After-entry_at) →
    let start = c in
    c.entry_at.result ≡ target start.args.file.now c.loop-e.e
target_read c =
    let base = c in
    rw (base.edges_at-base.ensures, base.requires.states_are) at c.entry_at.ensures.0

pub loop-e-preserved : goal.loop-e-preserved
loop-e-preserved c =
    let file = c.args.file.now in
    let at = c in
    left_next at.loop-e.invariant c.loop-e-test.true
    (rw (lt-ltb (target file at.loop-e.e) (states file) (omega (arith, target_read (goal.at.loop-e-preserved c).After-entry_at))))
