-- `write_combination` meets its contract: the output has the size that the answer is told with.
use Rattle.text.proofs.WroteLaws.{wrote_as}
use Rattle.combine.specs.Combine.{combine_outcome_of}
use Rattle.desk_combining.proofs.NumberLaws.{number_fits}
use Rattle.desk_combining.proofs.ToldLaws.{output_told, line_told_lem}
use Rattle.desk_combining.proofs.write_combination.Goals as goal

pub tell-requires : goal.tell-requires
tell-requires c =
    let a = c.args in record {
      number_fits = number_fits a.rule.now a.letters.now a.property.now a.out.now (combine_outcome_of c.combine-answer.result) c.requires.out_len c.combine-answer.ensures.outcome;
      refusal_room_in_bounds = c.requires.refusal_room_in_bounds;
    }

pub returns : goal.returns
returns c =
    let a = c.args in
    let combined = c.combine-answer.ensures in record {
      output = output_told a.rule.now a.letters.now a.property.now a.out.now c.requires.out_len combined.outcome combined.output c.tell.ensures.output;
      errors = wrote_as (line_told_lem a.rule.now a.letters.now a.property.now a.out.now c.requires.out_len combined.outcome) c.tell.ensures.errors;
    }
