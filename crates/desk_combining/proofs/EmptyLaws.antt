-- An empty input is refused: a rule with 1, letters with 16, a property with 17.
use mathlib.Core.Path.{refl}
use mathlib.Core.List.{[]}
use native.Mathlib.Omega.{arith}
use borrow.Author.Tests.{ne_eqb}
use Rattle.format.specs.Layout.{states}
use Rattle.model.proofs.Laws.{accepted_facts}
use Rattle.combine.proofs.ReasonLaws.{refused_rule, refused_16, refused_17}
use Rattle.desk_combining.specs.Sizes.{EmptyInputRefused}
use Rattle.desk_combining.proofs.CutLaws.{output, refused_told}

pub empty_input_refused : EmptyInputRefused
empty_input_refused =
    record {
      rule = λ letters p. refused_told [] letters p 1 (refused_rule [] letters p output 1 refl);
      letters =
          λ f p a. refused_told f [] p 16 (refused_16 f [] p output a (rw (ne_eqb 0 (states f) (omega (arith, (accepted_facts f a).states_range)))));
      property = λ f letters a good. refused_told f letters [] 17 (refused_17 f letters [] output a good refl);
    }
