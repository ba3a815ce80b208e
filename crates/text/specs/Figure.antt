-- Lines with one number.
use Rattle.std.specs.Prelude.{ℕ, List, [], ◌∷◌, ◌++◌}
use Rattle.text.specs.Characters.{line_feed}
use Rattle.text.specs.Decimal.{decimal}

-- the line with a word and a number
abbrev pub figure : List ℕ → ℕ → List ℕ
figure word n = word ++ decimal n ++ line_feed ∷ []
