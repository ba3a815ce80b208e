-- The lines of the sheet before its lists.
use Rattle.std.specs.Prelude.{ℕ, List, [], ◌∷◌, ◌++◌}
use Rattle.text.specs.Characters.{space}
use Rattle.text.specs.Decimal.{decimal}
use Rattle.text.specs.Figure.{figure}
use Rattle.sheet_head.specs.Words.{model_word, rounds_word}

-- the lines `model` with N and M, and `rounds` with the rounds
abbrev pub head : (n m rounds : ℕ) → List ℕ
head n m rounds = model_word ++ decimal n ++ figure (space ∷ []) m ++ figure rounds_word rounds
