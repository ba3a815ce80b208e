-- What the combining program writes, for every three inputs.
use Rattle.std.specs.Prelude.{ℕ, ◌<◌, List, []}
use Rattle.numbers.specs.Limits.{output_bytes}
use Rattle.text.specs.Figure.{figure}
use Rattle.sheet_head.specs.Words.{refused_word}
use Rattle.outcomes.specs.Outcome.{Outcome, refused, answered}
use Rattle.combine.specs.Combine.{combined_file, combine_outcome}

-- the bytes that are enough for the line of a refusal
abbrev pub refusal_room : ℕ
refusal_room = 13

-- the answer to three inputs
abbrev pub combining : (rule letters property : List ℕ) → Outcome ℕ
combining rule letters property = combine_outcome rule letters property output_bytes

-- the bytes for standard output: the file, unless the combination is refused
abbrev pub file_told : Outcome ℕ → List ℕ → List ℕ
file_told (refused n) file = []
file_told (answered bytes) file = file

-- how many they are
abbrev pub bytes_told : Outcome ℕ → ℕ
bytes_told (refused n) = 0
bytes_told (answered bytes) = bytes

-- the bytes for standard error: the line `refused` with the number, if the combination is refused
abbrev pub line_told : Outcome ℕ → List ℕ
line_told (refused n) = figure refused_word n
line_told (answered bytes) = []

-- the number of a refusal has at most four digits
abbrev pub NumberFits : Outcome ℕ → Type 0
NumberFits (refused n) = n < 10000
NumberFits (answered bytes) = Unit {0}

-- what is written to standard output for three inputs
abbrev pub output_text : (rule letters property : List ℕ) → List ℕ
output_text rule letters property = file_told (combining rule letters property) (combined_file rule letters property)

-- what is written to standard error
abbrev pub error_text : (rule letters property : List ℕ) → List ℕ
error_text rule letters property = line_told (combining rule letters property)
