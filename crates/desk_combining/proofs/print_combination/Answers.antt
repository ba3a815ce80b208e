-- A combination that was printed is that of what was read, and what was read decides.
use Rattle.std.proofs.Common.{Bool, List, ℕ, Option, ◌≡◌, false, Some, rules, arith, sym, ◌∙◌, subst, take}
use Rattle.std.specs.Io.KnownBytes.{Appends}
use Rattle.numbers.specs.Limits.{file_bytes, letters_bytes, property_bytes}
use Rattle.reading.specs.Reading.{FirstBytes, InputRead, input_of}
use Rattle.reading.proofs.ReadLaws.{first_read}
use Rattle.reading.proofs.WriteLaws.{taken}
use Rattle.desk_combining.specs.Combining.{output_text}
use Rattle.desk_combining.proofs.CutLaws.{cut_told}
use Rattle.desk_combining.proofs.print_combination.Goals as goal

-- what was read counts as it is if no read failed, and are the first bytes of the input
first : {enough : ℕ} {before after : Option (List ℕ)} {failed : Bool} {read input : List ℕ} → InputRead enough before after failed read
    → failed ≡ false → before ≡ Some input → FirstBytes enough input (input_of failed read)
first {enough} {before} {after} {failed} {read} {input} was kept e =
    subst (λ (b : Bool). FirstBytes enough input (input_of b read)) (sym kept)
    (first_read (subst (λ (b : Bool). InputRead enough (Some input) after b read) kept (subst (λ o. InputRead enough o after failed read) e was)))

pub returns : goal.returns
returns g c = λ ok.
    let rule : List ℕ = take c.read_model-rule_read.result.count c.read_model-rule_read.new.buffer in
    let letters : List ℕ = take c.read_letters-letters_read.result.count c.read_letters-letters_read.new.buffer in
    let property : List ℕ = take c.read_property-property_read.result.count c.read_property-property_read.new.buffer in
    let failed_rule = c.read_model-rule_read.result.failed in
    let failed_letters = c.read_letters-letters_read.result.failed in
    let failed_property = c.read_property-property_read.result.failed in
    let rule_read : InputRead file_bytes (g.R.Read.remaining c.args.rule_from.now) (g.R.Read.remaining c.read_model-rule_read.new.from) failed_rule rule = search (rules, c.read_model-rule_read.ensures.read) in
    let letters_read : InputRead letters_bytes (g.R.Read.remaining c.args.letters_from.now) (g.R.Read.remaining c.read_letters-letters_read.new.from) failed_letters letters = search (rules, c.read_letters-letters_read.ensures.read) in
    let property_read : InputRead property_bytes (g.R.Read.remaining c.args.property_from.now) (g.R.Read.remaining c.read_property-property_read.new.from) failed_property property = search (rules, c.read_property-property_read.ensures.read) in
    let held = g.W.Write.contents c.args.to.now in
    let holds = g.W.Write.contents c.write_all-2.new.self in
    let printed : Appends held holds (output_text (input_of failed_rule rule) (input_of failed_letters letters) (input_of failed_property property)) =
    taken held holds c.write_all-2.result c.desk_combine-told.ensures.output c.write_all-2.ensures.bytes (sym c.is_ok.ensures.value ∙ ok) in
    record {
      failed_rule = failed_rule;
      failed_letters = failed_letters;
      failed_property = failed_property;
      rule = rule;
      letters = letters;
      property = property;
      rule_read = rule_read;
      letters_read = letters_read;
      property_read = property_read;
      printed = printed;
      whole = λ kept kept' kept'' r l p e e' e''.
          let same = cut_told (first rule_read kept e) (first letters_read kept' e') (first property_read kept'' e'') (omega arith) (omega arith) (omega arith) in
          subst (Appends held holds) same.0 printed;
    }
