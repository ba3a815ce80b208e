-- `desk_combine` meets its contract: the first bytes of the inputs, which are handed on, decide.
use Prim.Native.Nat.{ℕ}
use mathlib.Core.List.{List}
use native.Mathlib.Omega.{arith}
use Rattle.text.proofs.WroteLaws.{wrote_as}
use Rattle.reading.specs.Reading.{input_of}
use Rattle.desk_combining.proofs.CutLaws.{cut_told}
use Rattle.desk_combining.proofs.desk_combine.Goals as goal

pub returns : goal.returns
returns c =
    let a = c.args in
    let rule : List ℕ = input_of a.failed.rule a.rule.now in
    let letters : List ℕ = input_of a.failed.letters a.letters.now in
    let property : List ℕ = input_of a.failed.property a.property.now in
    let same = cut_told {f = rule} {letters = letters} {p = property}
    c.input_bytes-rule_bytes.ensures.input c.input_bytes-letter_bytes.ensures.input c.input_bytes-property_bytes.ensures.input (omega arith) (omega arith) (omega arith) in record {
      output = wrote_as same.0 c.write_combination.ensures.output;
      errors = wrote_as same.1 c.write_combination.ensures.errors;
    }
