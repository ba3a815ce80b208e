-- The text of a roll's lists: their lines and the closing line.
use Rattle.std.specs.Prelude.{ℕ, min, Bool, true, false, List, [], ◌∷◌, ◌++◌, length, take, ltb}
use Rattle.std.proofs.Math.Option.{Option, some, none}
use Rattle.lists.specs.Lists.{collect}
use Rattle.numbers.specs.Limits.{most_lists}
use Rattle.text.specs.Figure.{figure}
use Rattle.sheet_line.specs.Line.{line}
use Rattle.sheet_lists.specs.Words.{end_word, more_word}

-- the closing line: the number of lists printed, headed `more` if there are more, else `end`
abbrev pub closing_line : Bool → ℕ → List ℕ
closing_line true count = figure more_word count
closing_line false count = figure end_word count

-- the closing line for a roll of n lists
abbrev pub closing : ℕ → List ℕ
closing n = closing_line (ltb most_lists n) (min n most_lists)

-- the lines of the lists that are printed, and the closing line
abbrev pub lists_text : List (List ℕ) → List ℕ
lists_text rs = collect line (take most_lists rs) ++ closing (length rs)

-- the last of some lists, if there is one
abbrev pub last_of : List (List ℕ) → Option (List ℕ)
last_of [] = none
last_of (xs ∷ []) = some xs
last_of (xs ∷ ys ∷ rest) = last_of (ys ∷ rest)

-- the last list that is printed of a roll, if any
abbrev pub last_printed : List (List ℕ) → Option (List ℕ)
last_printed rs = last_of (take most_lists rs)
