-- `write_sheet` meets its contract: the text has room, and the tables have the entries that the text is told with.
use Prim.Native.Nat.{ℕ, ◌≤◌}
use mathlib.Core.Path.{◌≡◌, ◌∙◌, ap}
use mathlib.Core.Bool.{Bool}
use mathlib.Core.List.{List, []}
use borrow.Author.Tests.{le-ltb}
use lib.ListN.{length}
use Rattle.lists.specs.Lists.{pick}
use Rattle.numbers.specs.Limits.{sheet_room, answer_entries, work_entries}
use Rattle.text.proofs.WroteLaws.{wrote_as}
use Rattle.sheet_text.specs.SheetText.{sheet_text}
use Rattle.sheet.specs.Sheet.{sheet_written}
use Rattle.desk.specs.Desk.{input_text}
use Rattle.desk.proofs.write_sheet.Goals as goal

-- what is written with tables of the program's sizes, where the text has room
written_text : (f a w t : List ℕ) → length a ≡ answer_entries → length w ≡ work_entries → sheet_room ≤ length t
    → sheet_written f a w t ≡ input_text f
written_text f a w t p q room =
    ap (λ (b : Bool). pick b [] (sheet_text f (length a) (length w))) (le-ltb (length t) sheet_room room)
    ∙ ap (λ (n : ℕ). sheet_text f n (length w)) p
    ∙ ap (λ (n : ℕ). sheet_text f answer_entries n) q

pub returns : goal.returns
returns c =
    let a = c.args in
    let r = c.requires in
    wrote_as (written_text a.input.now a.answer.now a.work.now a.text.now r.answer_len r.work_len r.sheet_room_in_bounds) c.sheet.ensures.text
