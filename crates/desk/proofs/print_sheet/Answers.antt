-- A sheet that was printed is that of what was read, and what was read decides.
use Rattle.std.proofs.Common.{Bool, List, ℕ, Some, rules, arith, sym, ap, ◌∙◌, subst, take}
use Rattle.std.specs.Io.KnownBytes.{Appends}
use Rattle.reading.specs.Reading.{InputRead}
use Rattle.reading.proofs.ReadLaws.{first_read}
use Rattle.reading.proofs.WriteLaws.{taken}
use Rattle.desk.specs.Desk.{input_bytes, desk_text}
use Rattle.desk.proofs.CutLaws.{cut_text}
use Rattle.desk.proofs.print_sheet.Goals as goal

pub returns : goal.returns
returns g c = λ ok.
    let failed = c.read_model-reading.result.failed in
    let read : List ℕ = take c.read_model-reading.result.count c.read_model-reading.new.buffer in
    let after = g.R.Read.remaining c.read_model-reading.new.from in
    let held = g.W.Write.contents c.args.to.now in
    let holds = g.W.Write.contents c.write_all.new.self in
    let input : InputRead input_bytes (g.R.Read.remaining c.args.from.now) after failed read = search (rules, c.read_model-reading.ensures.read) in
    let printed : Appends held holds (desk_text failed read) = taken held holds c.write_all.result c.desk_sheet-written.ensures c.write_all.ensures.bytes (sym c.is_ok.ensures.value ∙ ok) in
    record {
      failed = failed;
      read = read;
      input = input;
      printed = printed;
      whole = λ kept bytes e.
          let was = subst (λ (b : Bool). InputRead input_bytes (Some bytes) after b read) kept (subst (λ o. InputRead input_bytes o after failed read) e input) in
          subst (Appends held holds) (ap (λ (b : Bool). desk_text b read) kept ∙ cut_text (first_read was) (omega arith)) printed;
    }
