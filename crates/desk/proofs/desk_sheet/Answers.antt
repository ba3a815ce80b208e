-- `desk_sheet` meets its contract: the tables and the text have the program's sizes, and the bytes that are handed on decide.
use native.Mathlib.Omega.{arith}
use Rattle.text.proofs.WroteLaws.{wrote_as}
use Rattle.desk.proofs.CutLaws.{cut_text}
use Rattle.desk.proofs.desk_sheet.Goals as goal

pub returns : goal.returns
returns c = wrote_as (cut_text c.input_bytes-enough.ensures.input (omega arith)) c.write_sheet.ensures
