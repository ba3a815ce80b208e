-- The text of the desk sheet program, for every input.
use Rattle.std.specs.Prelude.{ℕ, Bool, List}
use Rattle.std.proofs.Math.Option.{Option}
use Rattle.numbers.specs.Limits.{file_bytes, answer_entries, work_entries}
use Rattle.reading.specs.Reading.{input_of}
use Rattle.sheet_text.specs.SheetText.{sheet_refusal, sheet_text}

-- the bytes of the buffer that an input is read into: one more than the longest file has
abbrev pub input_bytes : ℕ
input_bytes = file_bytes

-- the reason to refuse an input, if there is one
abbrev pub input_refusal : List ℕ → Option ℕ
input_refusal input = sheet_refusal input answer_entries work_entries

-- the text for an input
abbrev pub input_text : List ℕ → List ℕ
input_text input = sheet_text input answer_entries work_entries

-- the text for what was read of an input: one that could not be read to its end, since a read failed, counts as empty
abbrev pub desk_text : (failed : Bool) (read : List ℕ) → List ℕ
desk_text failed read = input_text (input_of failed read)
