-- The letter table of a rule: one letter, 0 to 15, for each state.
use Rattle.std.specs.Prelude.{ℕ, Bool, ◌||◌, not, List, length, eqb, ltb}
use Rattle.lists.specs.Lists.{anyb}
use Rattle.numbers.specs.Limits.{highest_letter}

-- 16. the letter table has not one entry per state or holds a letter above 15
abbrev pub bad_letters : (n : ℕ) (letters : List ℕ) → Bool
bad_letters n letters = not (eqb (length letters) n) || anyb (ltb highest_letter) letters
