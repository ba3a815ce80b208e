-- What the search leaves in the working table, by its answer.
use Rattle.std.specs.Prelude.{ℕ, suc, ◌*◌, ◌<◌, ◌≡◌, List, [], ◌∷◌}
use Rattle.std.proofs.Math.Option.{Option, some, none}
use Rattle.lasso.specs.Graph.{Graph}
use Rattle.table.specs.Changes.{SameOutside}
use Rattle.edge_search.specs.declared.SpreadAnswer.{SpreadAnswer}
use Rattle.edge_search.specs.declared.SpreadAnswer.TheVariants.{Length, Nothing}
use Rattle.frontier.specs.Regions.{entry, entry_of}
use Rattle.frontier.specs.Buckets.{sources, Planned}
use Rattle.frontier.specs.Search.{Queue}
use Rattle.lists.specs.Limit.{under}
use Rattle.hits.specs.Hit.{hit_level, hit_length}

-- a walk from a source into the target was found: its length is the least, and at most the limit
pub record FoundFrom (g : Graph) (source : ℕ → Option ℕ) (limit target : ℕ) (w w' : List ℕ) (l : ℕ) : Type 0 where
  pub outside : SameOutside (2 * g.size) (6 * g.size) w w'
  pub length : under (suc limit) (hit_length g source target) ≡ some l

-- no walk from a source into the target has a length up to the limit: region 2 holds the level at which each state is
-- first hit, up to and including the limit, and region 3 the states reached
pub record ExhaustedFrom (g : Graph) (source : ℕ → Option ℕ) (limit target : ℕ) (w w' : List ℕ) (count : ℕ)
    : Type 0 where
  pub outside : SameOutside (2 * g.size) (6 * g.size) w w'
  pub length : under (suc limit) (hit_length g source target) ≡ none
  pub levels : (t : ℕ) → t < g.size → entry 2 g.size w' t ≡ entry_of (under (suc limit) (hit_level g source t))
  pub queue : Queue g.size count w'

-- what a search from the sources leaves, by its answer
abbrev pub SpreadFrom : Graph → (ℕ → Option ℕ) → ℕ → ℕ → List ℕ → List ℕ → SpreadAnswer → Type 0
SpreadFrom g source limit target w w' (Length l) = FoundFrom g source limit target w w' l
SpreadFrom g source limit target w w' (Nothing count) = ExhaustedFrom g source limit target w w' count

-- a target whose only successor is itself is no source below the limit
abbrev pub Apart : Graph → ℕ → ℕ → List ℕ → Type 0
Apart g limit target w = g.succs target ≡ target ∷ [] → sources g.size limit w target ≡ none

-- so it is whatever table the plan was made from
abbrev pub ApartInPlan : Graph → ℕ → ℕ → List ℕ → Type 0
ApartInPlan g limit target w = (origin : List ℕ) → Planned g.size limit origin w → Apart g limit target origin

-- what the search from the start levels in region 2 leaves, by its answer
abbrev pub Spread : Graph → ℕ → ℕ → List ℕ → List ℕ → SpreadAnswer → Type 0
Spread g limit target w w' r = SpreadFrom g (sources g.size limit w) limit target w w' r

-- whatever table the plan was made from, the search from the listed sources leaves what one from that table's start
-- levels does
abbrev pub SearchedFromPlan : Graph → ℕ → ℕ → List ℕ → List ℕ → SpreadAnswer → Type 0
SearchedFromPlan g limit target w w' r =
    (origin : List ℕ) → Planned g.size limit origin w → Spread g limit target origin w' r
