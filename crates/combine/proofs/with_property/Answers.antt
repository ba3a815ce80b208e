-- `with_property` meets its contract: 17 for a property that is refused or has a zero mask, else what follows.
use Rattle.std.proofs.Common.{sym, ◌∙◌}
use Rattle.property.specs.Property.{ValidProperty}
use Rattle.property.proofs.PropertyLaws.{refused_bad, checked_valid, valid_bad}
use Rattle.combine.proofs.ReasonLaws.{refused_17}
use Rattle.combine.proofs.with_property.Goals as goal
use Rattle.combine.proofs.with_property.Goals.{In-Ok}

-- a property that was accepted, with its header
valid : (c : In-Ok) → ValidProperty c.args.property.now c.in-Ok.k
valid c = checked_valid _ _ c.in-Ok.ensures

pub has_zero_mask-requires : goal.has_zero_mask-requires
has_zero_mask-requires c = valid c

pub returns-then-has_zero_mask : goal.returns-then-has_zero_mask
returns-then-has_zero_mask c =
    let a = c.args in
    let is = refused_17 a.rule.now a.letters.now a.property.now a.output.now c.requires.valid.accepted c.requires.letters_value
    (valid_bad (valid (goal.at.returns-then-has_zero_mask c).In-Ok) ∙ sym c.has_zero_mask.ensures ∙ c.if-has_zero_mask.true) in record { outcome = is.0; output = is.1 }

pub within_limits-requires : goal.within_limits-requires
within_limits-requires c =
    let known = valid (goal.at.within_limits-requires c).In-Ok in
    record {
      valid = c.requires.valid;
      letters_value = c.requires.letters_value;
      valid_property = known;
      property_value = valid_bad known ∙ sym c.has_zero_mask.ensures ∙ c.if-has_zero_mask.false;
    }

pub returns-in_default : goal.returns-in_default
returns-in_default c =
    let a = c.args in
    let is = refused_17 a.rule.now a.letters.now a.property.now a.output.now c.requires.valid.accepted c.requires.letters_value
    (refused_bad a.property.now _ c.in_default.ensures) in record { outcome = is.0; output = is.1 }
