-- The first place where a given list leaves the model.
use Rattle.std.specs.Prelude as code
use Rattle.std.specs.Prelude.{ℕ, ◌-◌, ◌≤◌, ◌<◌, ◌≡◌, ◌↔◌, ◌⊎◌, Bool, ◌&&◌, ◌||◌, not, List, length, get_or, T, ltb, leb, None, Some}
use Rattle.std.proofs.Math.Option.{Option, some, none}
use Rattle.lists.specs.Lists.{seek}
use Rattle.lasso.specs.Graph.{Graph, WellFormed, edgeb, pathb, acceptingb}

-- the entry at place j is not below N or, past place 0, is not reached by an edge from the entry before it
abbrev pub breakb : Graph → List ℕ → ℕ → Bool
breakb g xs j =
    not (ltb (get_or xs j 0) g.size) || (leb 1 j && not (edgeb g (get_or xs (j - 1) 0) (get_or xs j 0)))

-- the first such place, if any, counted from 0
abbrev pub first_break : Graph → List ℕ → Option ℕ
first_break g xs = seek (breakb g xs) 0 (length xs)

-- the place that a value of the code holds
abbrev pub break_of : code.Option ℕ → Option ℕ
break_of None = none
break_of (Some j) = some j

-- every entry is below n
abbrev pub AllBelow : ℕ → List ℕ → Type 0
AllBelow n xs = (j : ℕ) → j < length xs → get_or xs j 0 < n

-- the entry at place j is not below N or, past place 0, is not reached by an edge from the entry before it: in words
abbrev pub Breaks : Graph → List ℕ → ℕ → Type 0
Breaks g xs j = (g.size ≤ get_or xs j 0) ⊎ ((1 ≤ j) × (T (edgeb g (get_or xs (j - 1) 0) (get_or xs j 0)) → ⊥))

-- place j is the first place of the list that breaks
pub record BreaksFirst (g : Graph) (xs : List ℕ) (j : ℕ) : Type 0 where
  pub inside : j < length xs
  pub breaks : Breaks g xs j
  pub none_before : (i : ℕ) → i < j → Breaks g xs i → ⊥

-- What the first place says, whatever the list and the graph.
pub record BreakShown (g : Graph) : Type 0 where
  -- there is such a place j exactly if the list breaks there and at no place before it
  pub some_exactly : (xs : List ℕ) (j : ℕ) → (first_break g xs ≡ some j) ↔ BreaksFirst g xs j
  -- there is none exactly if the list is a path of states
  pub none_exactly : (xs : List ℕ) → (first_break g xs ≡ none) ↔ (T (pathb g xs) × AllBelow g.size xs)
  -- an accepting path has none, where the initial state is a state and edges are pairs of states
  pub accepting_none : WellFormed g → (xs : List ℕ) → T (acceptingb g xs) → first_break g xs ≡ none

-- So it is for every graph.
abbrev pub BreaksShown : Type 0
BreaksShown = (g : Graph) → BreakShown g
