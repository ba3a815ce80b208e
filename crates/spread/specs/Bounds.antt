-- How far a search has to look, and the levels of the sources that decide it.
use Rattle.std.specs.Prelude.{ℕ, ◌<◌, ◌≡◌, Bool, true, false, List, [], ◌∷◌, Option, None, Some}
use Rattle.std.proofs.Math.Option.{some}
use Rattle.lasso.specs.Graph.{Graph}
use Rattle.frontier.specs.Buckets.{sources, Planned}
use Rattle.edge_search.specs.Promises.{Apart}

-- whether state s is a source of a level, whatever table the plan was made from
abbrev pub ListedAt : (n limit level s : ℕ) → List ℕ → Bool → Type 0
ListedAt n limit level s w true = (origin : List ℕ) → Planned n limit origin w → sources n limit origin s ≡ some level
ListedAt n limit level s w false = (origin : List ℕ) → Planned n limit origin w → sources n limit origin s ≡ some level → ⊥

-- the level of state s if it is a source below the limit, whatever table the plan was made from
abbrev pub LevelListed : (n limit s : ℕ) → List ℕ → Option ℕ → Type 0
LevelListed n limit s w None = (a : ℕ) → a < limit → ListedAt n limit a s w false
LevelListed n limit s w (Some level) = (level < limit) × ListedAt n limit level s w true

-- the target is a source of a level below the limit, and its only successor is itself
pub record OwnLevel (g : Graph) (limit target : ℕ) (w : List ℕ) (level : ℕ) : Type 0 where
  pub below : level < limit
  pub inside : target < g.size
  pub alone : g.succs target ≡ target ∷ []
  pub source : sources g.size limit w target ≡ some level

-- how far a search has to look: up to the target's own level, if it is a source below the limit whose only successor is
-- itself, else up to the limit
abbrev pub Bounds : Graph → ℕ → ℕ → List ℕ → Option ℕ → Type 0
Bounds g limit target w None = Apart g limit target w
Bounds g limit target w (Some level) = OwnLevel g limit target w level

-- so it is whatever table the plan was made from
abbrev pub BoundsInPlan : Graph → ℕ → ℕ → List ℕ → Option ℕ → Type 0
BoundsInPlan g limit target w bound = (origin : List ℕ) → Planned g.size limit origin w → Bounds g limit target origin bound
