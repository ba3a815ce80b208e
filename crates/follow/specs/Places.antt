-- The list in the working table, place by place: the least state that may stand at a place, the list completed after a
-- place, the first list and the one after a given one, and what is kept.
use Rattle.std.specs.Prelude.{ℕ, ◌*◌, ◌≤◌, ◌<◌, ◌≡◌, Bool, true, false, length, get_or, take, T}
use mathlib.Core.List.{List, [], ◌∷◌, ◌++◌, head?}
use Rattle.std.proofs.Math.Option.{some, none}
use Rattle.lasso.specs.Graph.{Graph, edges, lassob}
use Rattle.lasso.specs.Roll.{roll}
use Rattle.lasso.specs.Following.{following}
use Rattle.lasso.specs.Extends.{Extends}
use Rattle.current.specs.Current.{list_in}

-- the least state from a bound on that may stand after q
pub record LeastFollower (g : Graph) (l : ℕ) (q : List ℕ) (bound t : ℕ) : Type 0 where
  pub state : t < g.size
  pub from_bound : bound ≤ t
  pub extends : Extends g l (q ++ t ∷ [])
  pub least : (y : ℕ) → bound ≤ y → y < t → Extends g l (q ++ y ∷ []) → ⊥

-- what the listing keeps: region 1, and everything past the regions
pub record Kept (n : ℕ) (w w' : List ℕ) : Type 0 where
  pub same_length : length w' ≡ length w
  pub same_stems : (i : ℕ) → n ≤ i → i < 2 * n → get_or w' i 0 ≡ get_or w i 0
  pub same_after : (i : ℕ) → 6 * n ≤ i → get_or w' i 0 ≡ get_or w i 0

-- the list was completed after a place: it is a lasso with l transitions, and at each later place the least state
-- stands that may stand there
pub record Completed (g : Graph) (l from : ℕ) (w w' : List ℕ) : Type 0 where
  pub kept : Kept g.size w w'
  pub prefix : take from w' ≡ take from w
  pub lasso : T (lassob g (list_in g.start w' l))
  pub length : edges (list_in g.start w' l) ≡ l
  pub least : (i y : ℕ) → from < i → i ≤ l → y < get_or (list_in g.start w' l) i 0
      → Extends g l (take i (list_in g.start w' l) ++ y ∷ []) → ⊥

-- the first of the roll stands in the table
abbrev pub HoldsFirst : Graph → ℕ → List ℕ → Type 0
HoldsFirst g l w = head? (roll g) ≡ some (list_in g.start w l)

-- the list was replaced by the one after it, or it was the last and stands as before
abbrev pub Replaced : Graph → ℕ → List ℕ → List ℕ → Bool → Type 0
Replaced g l w w' true = following (list_in g.start w l) (roll g) ≡ some (list_in g.start w' l)
Replaced g l w w' false = (following (list_in g.start w l) (roll g) ≡ none) × (take l w' ≡ take l w)
