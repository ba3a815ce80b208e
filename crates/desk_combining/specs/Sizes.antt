-- The laws of the program's sizes, as statements: the buffers hold enough of the inputs, and the output suffices.
use Rattle.std.specs.Prelude.{ℕ, ◌≤◌, ◌≡◌, ◌⊎◌, false, List, [], take}
use Rattle.numbers.specs.Reasons as reason
use Rattle.numbers.specs.Limits.{file_bytes, letters_bytes, property_bytes}
use Rattle.format.specs.Layout.{states}
use Rattle.format.specs.Rules.{Accepted}
use Rattle.outcomes.specs.Outcome.{refused}
use Rattle.combine.specs.Combine.{bad_letters}
use Rattle.desk_combining.specs.Combining.{combining, output_text, error_text}

-- what is written for three inputs is what is written for the first 25,627 bytes of the rule, the first 4,097 letters and
-- the first 41,499 bytes of the property
abbrev pub FirstBytesOfEachDecide : Type 0
FirstBytesOfEachDecide = (rule letters property : List ℕ) →
    (output_text (take file_bytes rule) (take letters_bytes letters) (take property_bytes property) ≡ output_text rule letters property)
    × (error_text (take file_bytes rule) (take letters_bytes letters) (take property_bytes property) ≡ error_text rule letters property)

-- only 1 to 11 and 16 to 18 are printed after `refused`: the output is never too short
abbrev pub RefusedNumbers : Type 0
RefusedNumbers = (rule letters property : List ℕ) (n : ℕ) → combining rule letters property ≡ refused n
    → ((reason.short_file ≤ n) × (n ≤ reason.bad_spare)) ⊎ ((reason.bad_letters ≤ n) × (n ≤ reason.too_large))

-- An empty input, and so one that cannot be read to its end, is refused.
pub record EmptyInputRefused : Type 0 where
  pub rule : (letters property : List ℕ) → combining [] letters property ≡ refused reason.short_file
  pub letters : (rule property : List ℕ) → Accepted rule → combining rule [] property ≡ refused reason.bad_letters
  pub property : (rule letters : List ℕ) → Accepted rule → bad_letters (states rule) letters ≡ false → combining rule letters [] ≡ refused reason.bad_property
