use native.Mathlib.Omega.{arith}
use Prim.Native.Nat.{ℕ, ◌+◌, ◌*◌}
use mathlib.Core.Path.{◌≡◌, sym, ap, ap₂, ◌∙◌}
use borrow.Author.Tests.{eq-eqb, ne_eqb}
use Rattle.format.specs.Bytes.{word}
use Rattle.lists.proofs.Range.{left_found, left_next}
use Rattle.property.specs.Property.{masks_at, mask_at}
use Rattle.property.proofs.PropertyLaws.{property_numbers}
use Rattle.property.proofs.has_zero_mask.Goals as goal
use Rattle.property.proofs.has_zero_mask.Goals.{After-entry_at}

-- the mask that a turn of the loop reads
mask_read : (c : After-entry_at) →
    let start = c in
    c.entry_at.result ≡ mask_at start.args.file.now c.loop-e.e
mask_read c =
    let at = c in
    let told = at in
    let start = told in
    let numbers = property_numbers start.requires in
    c.entry_at.ensures.0
    ∙ ap (λ (base : ℕ). word start.args.file.now (base + 2 * at.loop-e.e)) (told.total_of-masks.ensures ∙ ap₂ masks_at numbers.0 numbers.1)

pub returns-then-entry_at-eq0 : goal.returns-then-entry_at-eq0
returns-then-entry_at-eq0 c =
    let at = c in
    let file = at.args.file.now in
    sym (left_found at.loop-e.invariant (omega (arith, c.loop-e-test.true))
    (eq-eqb (mask_at file at.loop-e.e) 0 (omega (arith, mask_read (goal.at.returns-then-entry_at-eq0 c).After-entry_at))))

pub loop-e-preserved : goal.loop-e-preserved
loop-e-preserved c =
    let at = c in
    let file = at.args.file.now in
    left_next at.loop-e.invariant (omega (arith, c.loop-e-test.true))
    (ne_eqb (mask_at file at.loop-e.e) 0 (omega (arith, mask_read (goal.at.loop-e-preserved c).After-entry_at)))
