-- What is told of a combination that was printed.
use Rattle.std.specs.Prelude.{ℕ, ◌≡◌, Bool, false, List, Option, Some}
use Rattle.std.specs.Io.KnownBytes.{Appends}
use Rattle.numbers.specs.Limits.{file_bytes, letters_bytes, property_bytes}
use Rattle.reading.specs.Reading.{InputRead, input_of}
use Rattle.desk_combining.specs.Combining.{output_text}

-- What three readers had left before and have left after, where those bytes are known.
pub record Readers : Type 0 where
  pub rule : Option (List ℕ)
  pub letters : Option (List ℕ)
  pub property : Option (List ℕ)

-- The combination was printed, of what three readers had left before and have left after, to what a writer held and then
-- holds, where those bytes are known: what is written for what was read is what the writer took, which is nothing if the
-- combination is refused. If no read failed, it is what is written for all that the readers had left.
pub record CombinationPrinted (before after : Readers) (held holds : Option (List ℕ)) : Type 0 where
  pub failed_rule : Bool
  pub failed_letters : Bool
  pub failed_property : Bool
  pub rule : List ℕ
  pub letters : List ℕ
  pub property : List ℕ
  pub rule_read : InputRead file_bytes before.rule after.rule failed_rule rule
  pub letters_read : InputRead letters_bytes before.letters after.letters failed_letters letters
  pub property_read : InputRead property_bytes before.property after.property failed_property property
  pub printed : Appends held holds (output_text (input_of failed_rule rule) (input_of failed_letters letters) (input_of failed_property property))
  pub whole : failed_rule ≡ false → failed_letters ≡ false → failed_property ≡ false → (r l p : List ℕ)
      → before.rule ≡ Some r → before.letters ≡ Some l → before.property ≡ Some p → Appends held holds (output_text r l p)
