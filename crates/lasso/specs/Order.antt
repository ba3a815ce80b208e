-- Dictionary order, and all lists of a length in that order.
use Rattle.std.specs.Prelude.{ℕ, zero, suc, Bool, false, ◌&&◌, ◌||◌, List, [], ◌∷◌, map, eqb, ltb}
use Rattle.lists.specs.Lists.{collect, below}

-- dictionary order: at the first place where they differ the first list has the smaller state
abbrev pub beforeb : List ℕ → List ℕ → Bool
beforeb [] ys = false
beforeb (x ∷ xs) [] = false
beforeb (x ∷ xs) (y ∷ ys) = ltb x y || (eqb x y && beforeb xs ys)

-- all lists of len entries below n, in dictionary order
abbrev pub all_lists : ℕ → ℕ → List (List ℕ)
all_lists n zero = [] ∷ []
all_lists n (suc len) = collect (λ x. map (λ xs. x ∷ xs) (all_lists n len)) (below n)
