-- What a look after the last loop start of a list tells: b is its place, `mark` that of the last mark of the list plus 1, or
-- 0 if there is none.
use Rattle.std.specs.Prelude.{ℕ, suc, ◌+◌, ◌-◌, ◌/◌, ◌%◌, ◌≤◌, ◌<◌, ◌⊎◌, ◌≡◌, List, ◌∷◌, get_or, T}
use Rattle.lasso.specs.Graph.{Graph, edgeb}
use Rattle.frontier.specs.Regions.{entry}

-- region 1 says that y can start the loop, and it stands on the list at the place of its distance, which is below the bound
abbrev pub GoalAt : ℕ → ℕ → List ℕ → ℕ → ℕ → Type 0
GoalAt n start w bound y =
    (entry 1 n w y % 2 ≡ 1) × (1 ≤ entry 1 n w y / 2) × (entry 1 n w y / 2 ≤ bound)
    × (get_or (start ∷ w) (entry 1 n w y / 2 - 1) 0 ≡ y)

-- at the last place: t is a goal, at or before the last mark if none stands after the loop start; s is the place of the
-- loop start plus 1
abbrev pub LastSays : ℕ → ℕ → List ℕ → ℕ → ℕ → ℕ → Type 0
LastSays n start w s mark t = ((s < mark) × GoalAt n start w s t) ⊎ ((mark ≤ s) × GoalAt n start w mark t)

-- at a place before: the table for lists with a mark after the loop start, or the one for lists with none, has t there
abbrev pub PlaceSays : ℕ → List ℕ → ℕ → ℕ → ℕ → ℕ → Type 0
PlaceSays n w b mark place t =
    ((b + 1 < mark) × (entry 5 n w t ≡ place + 2 - b)) ⊎ ((mark ≤ b + 1) × (entry 2 n w t ≡ place + 2 - b))

-- a step leads from s, which has the level, to a goal
abbrev pub Closes : Graph → ℕ → ℕ → List ℕ → ℕ → ℕ → ℕ → Type 0
Closes g n start w level bound s = (entry 2 n w s ≡ suc level) × ((y : ℕ) × T (edgeb g s y) × GoalAt n start w bound y)
