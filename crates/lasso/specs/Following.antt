-- Which list comes after a given one in the roll.
use Rattle.std.specs.Prelude.{ℕ, Bool, true, false, ◌&&◌, eqb}
use mathlib.Core.List.{List, [], ◌∷◌, head?}
use Rattle.std.proofs.Math.Option.{Option, none}
use Rattle.lists.specs.Lists.{pick}

-- the two lists are the same, entry by entry
abbrev pub sameb : List ℕ → List ℕ → Bool
sameb [] [] = true
sameb [] (y ∷ ys) = false
sameb (x ∷ xs) [] = false
sameb (x ∷ xs) (y ∷ ys) = eqb x y && sameb xs ys

-- the list that follows p in the roll, if one does: the one after the first list equal to p
abbrev pub following : List ℕ → List (List ℕ) → Option (List ℕ)
following p [] = none
following p (q ∷ qs) = pick (sameb p q) (head? qs) (following p qs)
