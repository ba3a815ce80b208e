-- The file D of the contract, with one mark table and with two, as bytes.
use Rattle.std.specs.Prelude.{ℕ, List, [], ◌∷◌}

-- D's bytes with a total and marks: header, offsets and total, rows, targets, marks
abbrev pub bytes_with : (total : ℕ) → (marks : List ℕ) → List ℕ
bytes_with total marks =
    5 ∷ 0 ∷ 7 ∷ 0 ∷ 0 ∷ 0 ∷ 0 ∷ 0 ∷
    24 ∷ 0 ∷ 0 ∷ 0 ∷ 36 ∷ 0 ∷ 0 ∷ 0 ∷ 50 ∷ 0 ∷ 0 ∷ 0 ∷ total ∷ 0 ∷ 0 ∷ 0 ∷
    0 ∷ 0 ∷ 2 ∷ 0 ∷ 3 ∷ 0 ∷ 4 ∷ 0 ∷ 6 ∷ 0 ∷ 7 ∷ 0 ∷
    1 ∷ 0 ∷ 2 ∷ 0 ∷ 3 ∷ 0 ∷ 3 ∷ 0 ∷ 1 ∷ 0 ∷ 2 ∷ 0 ∷ 4 ∷ 0 ∷
    marks

-- D's bytes as the paper gives them
abbrev pub bytes_d : List ℕ
bytes_d = bytes_with 51 (24 ∷ [])

-- D with a second mark table, which marks state 1
abbrev pub file_two : List ℕ
file_two = bytes_with 52 (24 ∷ 2 ∷ [])
