-- The text of example D, with one mark table and with two, as statements.
use Rattle.std.specs.Prelude.{ℕ, ◌≡◌, List, [], ◌∷◌, ◌++◌}
use Rattle.format.specs.ExampleD.{bytes_d, file_two}
use Rattle.desk.specs.Desk.{input_text}

-- its sheet: `model 5 7`, `rounds 1`, `shortest 3`, `0 | 1 3`, `0 | 2 3`, `end 2`
abbrev pub sheet_d : List ℕ
sheet_d =
    (109 ∷ 111 ∷ 100 ∷ 101 ∷ 108 ∷ 32 ∷ 53 ∷ 32 ∷ 55 ∷ 10 ∷ []) ++
    (114 ∷ 111 ∷ 117 ∷ 110 ∷ 100 ∷ 115 ∷ 32 ∷ 49 ∷ 10 ∷ []) ++
    (115 ∷ 104 ∷ 111 ∷ 114 ∷ 116 ∷ 101 ∷ 115 ∷ 116 ∷ 32 ∷ 51 ∷ 10 ∷ []) ++
    (48 ∷ 32 ∷ 124 ∷ 32 ∷ 49 ∷ 32 ∷ 51 ∷ 10 ∷ []) ++
    (48 ∷ 32 ∷ 124 ∷ 32 ∷ 50 ∷ 32 ∷ 51 ∷ 10 ∷ []) ++
    (101 ∷ 110 ∷ 100 ∷ 32 ∷ 50 ∷ 10 ∷ [])

-- the program's text for example D
abbrev pub ExampleD : Type 0
ExampleD = input_text bytes_d ≡ sheet_d

-- the program's text for D with a second mark table is the same: the program uses table 0
abbrev pub ExampleTwo : Type 0
ExampleTwo = input_text file_two ≡ sheet_d
