-- `combine` meets its contract: the rule's own refusal, 16 for its letters, else what follows.
use Rattle.std.proofs.Common.{◌≡◌, ℕ, sym, ap, ◌∙◌, rules}
use Rattle.format.specs.Layout.{states}
use Rattle.model.specs.Values.{Valid}
use Rattle.model.proofs.Answers.{check_refused, check_valid}
use Rattle.model.proofs.Laws.{header_numbers}
use Rattle.combine_letters.specs.Letters.{bad_letters}
use Rattle.combine.proofs.ReasonLaws.{refused_rule, refused_16}
use Rattle.combine.proofs.combine.Goals as goal
use Rattle.combine.proofs.combine.Goals.{After-letters_broken, In_ok-h}

-- a rule that was accepted, with its header
valid : (c : In_ok-h) → Valid c.args.rule.now c.in_ok-h.h
valid c = check_valid _ _ c.in_ok-h.ensures

-- the test of the letters is that of the rule's number of states
letters_told : (c : After-letters_broken) → c.letters_broken.result ≡ bad_letters (states c.args.rule.now) c.args.letters.now
letters_told c =
    c.letters_broken.ensures
    ∙ ap (λ (n : ℕ). bad_letters n c.args.letters.now) (header_numbers c.args.rule.now (valid (goal.at.After-letters_broken c).In_ok-h).header).0

pub returns-then-letters_broken : goal.returns-then-letters_broken
returns-then-letters_broken c =
    let a = c.args in
    let known = valid (goal.at.returns-then-letters_broken c).In_ok-h in
    let is = refused_16 a.rule.now a.letters.now a.property.now a.output.now known.accepted (sym (letters_told (goal.at.returns-then-letters_broken c).After-letters_broken) ∙ c.if-letters_broken.true) in record {
      outcome = is.0;
      output = is.1;
    }

pub with_property-requires : goal.with_property-requires
with_property-requires c =
    record {
      valid = valid (goal.at.with_property-requires c).In_ok-h;
      letters_value = sym (letters_told (goal.at.with_property-requires c).After-letters_broken) ∙ c.if-letters_broken.false;
    }

pub returns-in_err-h : goal.returns-in_err-h
returns-in_err-h c =
    let a = c.args in
    let is = refused_rule a.rule.now a.letters.now a.property.now a.output.now _ (check_refused a.rule.now _ c.in_err-h.ensures) in record {
      outcome = search (rules, is.0);
      output = is.1;
    }
