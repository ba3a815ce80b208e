-- `tell` meets its contract: a refusal writes its line, a number of bytes is handed on.
use Rattle.std.proofs.Common.{ℕ, refl, ap, arith}
use native.Mathlib.Nat.{le_trans}
use Rattle.text.specs.Figure.{figure}
use Rattle.text.proofs.FigureLaws.{figure_room}
use Rattle.text.proofs.WroteLaws.{wrote_none, wrote_as}
use Rattle.sheet_head.specs.Words.{refused_word}
use Rattle.desk_combining.proofs.tell.Goals as goal

pub write_refusal-errors-requires : goal.write_refusal-errors-requires
write_refusal-errors-requires c =
    let fits = rw c.in-Err.is at c.requires.number_fits in
    le_trans (figure_room refused_word _ (omega (arith, fits, c.from-number.ensures))) c.requires.refusal_room_in_bounds

pub returns-in-Err : goal.returns-in-Err
returns-in-Err c =
    rw c.in-Err.is record {
      output = refl;
      errors = wrote_as (ap (λ (n : ℕ). figure refused_word n) c.from-number.ensures) c.write_refusal-errors.ensures;
    }

pub returns-in-Ok : goal.returns-in-Ok
returns-in-Ok c = rw c.in-Ok.is record { output = refl; errors = wrote_none c.args.line.now 0 (omega arith) }
