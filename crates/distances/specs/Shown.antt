-- What the entries that a distance call writes say, in terms of paths: a statement, proved for every file, every
-- ceiling and every output.
use Rattle.std.specs.Prelude.{ℕ, ◌≤◌, ◌<◌, ◌≡◌, ◌↔◌, List, length, get_or}
use Rattle.std.proofs.Math.Option.{some, none}
use Rattle.lists.specs.Least.{IsLeast}
use Rattle.lasso.specs.Shown.{PathLength}
use Rattle.numbers.specs.Limits.{not_reached}
use Rattle.format.specs.Layout.{states}
use Rattle.format.specs.Rules.{first_broken}
use Rattle.model.specs.Model.{graph_of}
use Rattle.outcomes.specs.Outcome.{answered}
use Rattle.distances.specs.Distances.{distance_reasons, distances_outcome, distances_output}

-- some path with n edges leads from the initial state of the file's model to s
abbrev pub FromStart : List ℕ → ℕ → ℕ → Type 0
FromStart f s n = PathLength (graph_of f 0) (graph_of f 0).start s n

-- the entry of the output at place i is d after the call
abbrev pub EntryIs : List ℕ → ℕ → List ℕ → ℕ → ℕ → ℕ → Type 0
EntryIs f ceiling output workRoom i d = get_or (distances_output f ceiling output workRoom) i 0 ≡ d

-- What a distance call on a file says, with a ceiling, an output and the number of entries of the working table.
pub record DistancesSayOf (f : List ℕ) (ceiling : ℕ) (output : List ℕ) (workRoom : ℕ) : Type 0 where
  -- the answer is N: as many entries are written
  pub answers : distances_outcome f ceiling (length output) workRoom ≡ answered (states f)
  -- the entry of a state is d and not above the ceiling exactly if d is not above the ceiling and is the least length
  -- of a path from the initial state to that state
  pub distance_exactly : (s d : ℕ) → s < states f
      → (EntryIs f ceiling output workRoom s d × (d ≤ ceiling)) ↔ ((d ≤ ceiling) × IsLeast (FromStart f s) (some d))
  -- it is 65,535 exactly if no path from the initial state to that state has as many edges as the ceiling or fewer
  pub not_reached_exactly : (s : ℕ) → s < states f
      → EntryIs f ceiling output workRoom s not_reached ↔ ((n : ℕ) → n ≤ ceiling → FromStart f s n → ⊥)
  -- the entries after those of the states are as before
  pub later_same : (i : ℕ) → states f ≤ i → EntryIs f ceiling output workRoom i (get_or output i 0)
  -- and there are as many entries as before
  pub same_length : length (distances_output f ceiling output workRoom) ≡ length output

-- So it is for every distance call for which no reason holds.
abbrev pub DistancesSay : Type 0
DistancesSay =
    (f : List ℕ) (ceiling : ℕ) (output : List ℕ) (workRoom : ℕ)
    → first_broken (distance_reasons f ceiling (length output) workRoom) ≡ none → DistancesSayOf f ceiling output workRoom
