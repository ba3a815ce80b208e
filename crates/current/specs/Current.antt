-- The current list, in region 0 of the working table, and what writing it leaves in the answer table.
use Rattle.std.specs.Prelude.{ℕ, List, ◌∷◌, ◌++◌, get_or, take, drop}
use Rattle.model.specs.declared.Header.{Header}

-- the state at a place of the list
abbrev pub state_at : Header → List ℕ → ℕ → ℕ
state_at h w place = get_or (h.start ∷ w) place 0

-- the list up to place l that the table holds: the start, and then the first entries of region 0
abbrev pub list_in : (start : ℕ) → List ℕ → ℕ → List ℕ
list_in start w l = start ∷ take l w

-- the table whose first n entries are those of a list, the later ones as before
abbrev pub over_front : ℕ → List ℕ → List ℕ → List ℕ
over_front n xs d = take n xs ++ drop n d
