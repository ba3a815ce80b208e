-- The list in the working table, and which state may stand at its next place.
use Rattle.std.specs.Prelude.{ℕ, suc, ◌+◌, ◌*◌, ◌/◌, ◌%◌, ◌≤◌, ◌<◌, ◌≡◌, List, [], ◌∷◌, ◌++◌, length, get_or, T}
use Rattle.std.proofs.Math.Option.{some}
use Rattle.lasso.specs.Graph.{Graph}
use Rattle.lasso.specs.Roll.{least_length}
use Rattle.lasso.specs.Extends.{Extends}
use Rattle.model.specs.declared.Header.{Header}
use Rattle.model.specs.Values.{Valid}
use Rattle.model.specs.Model.{graph_in}
use Rattle.frontier.specs.Regions.{entry}
use Rattle.current.specs.Current.{list_in, state_at}
use Rattle.stems.specs.Stems.{StemEntries}

-- what stands in the list up to a place are states
abbrev pub StatesTo : Header → List ℕ → ℕ → Type 0
StatesTo h w place = (k : ℕ) → k ≤ place → state_at h w k < h.states

-- what is prepared for the lists: an accepted file with its header, room for the regions, the least length of an
-- accepting path, and the stems in region 1
pub record Prepared (f : List ℕ) (h : Header) (w : List ℕ) (l : ℕ) : Type 0 where
  pub valid : Valid f h
  pub room : 6 * h.states ≤ length w
  pub least : least_length (graph_in f h) ≡ some l
  pub stems : StemEntries (graph_in f h) l w

-- region 1 says that state t stands on a stem at the place after the given one
abbrev pub OnStem : ℕ → List ℕ → ℕ → ℕ → Type 0
OnStem n w place t = entry 1 n w t / 2 ≡ place + 2

-- region 1 says that state s can start the loop
abbrev pub Starts : ℕ → List ℕ → ℕ → Type 0
Starts n w s = entry 1 n w s % 2 ≡ 1

-- the state at a place k of the list is reached soon enough, and the one at a place r from k on is marked
abbrev pub ClosesMarked : Graph → ℕ → ℕ → List ℕ → ℕ → ℕ → Type 0
ClosesMarked g n start w place left =
    (k : ℕ) × (r : ℕ) × (a : ℕ) × (k ≤ r) × (r ≤ place) × T (g.marked (get_or (start ∷ w) r 0))
    × (entry 2 n w (get_or (start ∷ w) k 0) ≡ suc a) × (a ≤ left)

-- the state at a place k of the list can start the loop and is reached soon enough
abbrev pub ClosesStart : ℕ → ℕ → List ℕ → ℕ → ℕ → Type 0
ClosesStart n start w place left =
    (k : ℕ) × (a : ℕ) × (k ≤ place) × Starts n w (get_or (start ∷ w) k 0)
    × (entry 2 n w (get_or (start ∷ w) k 0) ≡ suc a) × (a ≤ left)

-- state t may stand after the list up to a place: the two begin a lasso with l transitions
abbrev pub MayFollow : Graph → ℕ → List ℕ → ℕ → ℕ → Type 0
MayFollow g l w place t = Extends g l (list_in g.start w place ++ t ∷ [])
