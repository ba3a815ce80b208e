-- The laws of the program's sizes, as statements: the buffer holds enough of an input, the tables suffice for a file.
use Rattle.std.specs.Prelude.{ℕ, ◌≤◌, ◌≡◌, List, [], take}
use Rattle.std.proofs.Math.Option.{some}
use Rattle.numbers.specs.Reasons as reason
use Rattle.text.specs.Figure.{figure}
use Rattle.format.specs.Rules.{rules, first_broken}
use Rattle.sheet_head.specs.Words.{refused_word}
use Rattle.desk.specs.Desk.{input_bytes, input_refusal, input_text}

-- the text of an input is that of its first 25,627 bytes
abbrev pub FirstBytesDecide : Type 0
FirstBytesDecide = (input : List ℕ) → input_text (take input_bytes input) ≡ input_text input

-- an input is refused exactly as its file is: the tables are never too small
abbrev pub OnlyTheFileRefuses : Type 0
OnlyTheFileRefuses = (input : List ℕ) → input_refusal input ≡ first_broken (rules input)

-- only 1 to 11 are printed after `refused`
abbrev pub RefusedUpToEleven : Type 0
RefusedUpToEleven = (input : List ℕ) (n : ℕ) → input_refusal input ≡ some n → (reason.short_file ≤ n) × (n ≤ reason.bad_spare)

-- the empty input, and so one that cannot be read to its end, is refused with 1
abbrev pub EmptyRefused : Type 0
EmptyRefused = input_text [] ≡ figure refused_word reason.short_file
