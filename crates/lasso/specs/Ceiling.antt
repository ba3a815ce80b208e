-- What a ceiling does to a round and to the roll: statements, each proved for every well-formed graph and every ceiling.
use Rattle.std.specs.Prelude.{ℕ, ◌≤◌, ◌<◌, ◌≡◌, ◌↔◌, ◌⊎◌, get_or, T}
use mathlib.Core.List.{List, [], Memᴰ}
use Rattle.lists.specs.Lists.{memb}
use Rattle.lists.specs.Least.{IsLeast, lesser}
use Rattle.lasso.specs.Graph.{Graph, WellFormed, edges, acceptingb, loop}
use Rattle.lasso.specs.Roll.{roll, roll_within}
use Rattle.lasso.specs.Rounds.{candidates, round_within, Record, best_length, after_round}
use Rattle.lasso.specs.Shown.{OfLeastLength}

-- an accepting path exists that is not longer than the ceiling
abbrev pub PathWithin : Graph → (ceiling : ℕ) → Type 0
PathWithin g ceiling = (ys : List ℕ) × T (acceptingb g ys) × (edges ys ≤ ceiling)

-- some accepting path whose loop holds r has l transitions, and l is not above the ceiling
abbrev pub LengthWithin : Graph → (ceiling r l : ℕ) → Type 0
LengthWithin g ceiling r l =
    ((xs : List ℕ) × T (acceptingb g xs) × T (memb r (loop xs)) × (edges xs ≡ l)) × (l ≤ ceiling)

-- every list is longer than the ceiling
abbrev pub AllLonger : (ceiling : ℕ) → List (List ℕ) → Type 0
AllLonger ceiling rs = (xs : List ℕ) → Memᴰ xs rs → ceiling < edges xs

-- the roll is empty, or its lists are longer than the ceiling
abbrev pub RollAbove : Graph → (ceiling : ℕ) → Type 0
RollAbove g ceiling = (roll g ≡ []) ⊎ AllLonger ceiling (roll g)

-- What a ceiling does.
pub record CeilingSays (g : Graph) (ceiling : ℕ) : Type 0 where
  -- a candidate's round has the least length of an accepting path whose loop holds it and that is not longer than the
  -- ceiling, if there is one
  pub round_least : (r : ℕ) → T (memb r (candidates g)) → IsLeast (LengthWithin g ceiling r) (round_within g ceiling r)
  -- a best already in the record is kept, also one above the ceiling: the best after one more round is the lesser of it and
  -- of that round's length
  pub best_kept : (rec : Record)
      → best_length (after_round g ceiling rec) ≡ lesser (best_length rec) (round_within g ceiling (get_or (candidates g) rec.done 0))
  -- the roll within the ceiling holds exactly the accepting paths of least length that are not longer than the ceiling
  pub roll_holds : (xs : List ℕ) → Memᴰ xs (roll_within g ceiling) ↔ (OfLeastLength (acceptingb g) xs × (edges xs ≤ ceiling))
  -- it is empty exactly if no accepting path has that length or less
  pub empty_exactly : (roll_within g ceiling ≡ []) ↔ (PathWithin g ceiling → ⊥)
  -- that is, exactly if the roll is empty or its lists are longer than the ceiling
  pub empty_by_roll : (roll_within g ceiling ≡ []) ↔ RollAbove g ceiling
  -- otherwise it is the whole roll
  pub all_or_none : (roll_within g ceiling ≡ roll g) ⊎ (roll_within g ceiling ≡ [])

-- so it is with every well-formed graph and every ceiling
abbrev pub CeilingShown : Type 0
CeilingShown = (g : Graph) → WellFormed g → (ceiling : ℕ) → CeilingSays g ceiling
