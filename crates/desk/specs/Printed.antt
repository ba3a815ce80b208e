-- What is told of a sheet that was printed.
use Rattle.std.specs.Prelude.{ℕ, ◌≡◌, Bool, false, List, Option, Some}
use Rattle.std.specs.Io.KnownBytes.{Appends}
use Rattle.reading.specs.Reading.{InputRead}
use Rattle.desk.specs.Desk.{input_bytes, input_text, desk_text}

-- The sheet was printed, of what a reader had left before and has left after, to what a writer held and then holds, where
-- those bytes are known: the text for what was read is what the writer took. If no read failed, it is the text for all that
-- the reader had left.
pub record SheetPrinted (before after held holds : Option (List ℕ)) : Type 0 where
  pub failed : Bool
  pub read : List ℕ
  pub input : InputRead input_bytes before after failed read
  pub printed : Appends held holds (desk_text failed read)
  pub whole : failed ≡ false → (bytes : List ℕ) → before ≡ Some bytes → Appends held holds (input_text bytes)
