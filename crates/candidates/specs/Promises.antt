-- What the working table holds while the rounds of a search are done.
use Rattle.std.specs.Prelude.{ℕ, ◌*◌, ◌≤◌, ◌<◌, ◌≡◌, List, length, get_or}
use Rattle.lasso.specs.Graph.{Graph}
use Rattle.lasso.specs.Distance.{dist}
use Rattle.model.specs.declared.Header.{Header}
use Rattle.model.specs.Values.{Valid}
use Rattle.model.specs.Model.{graph_in}
use Rattle.frontier.specs.Regions.{entry, entry_of}

-- region 0 holds the distance of each state from the start
pub record StartDistances (g : Graph) (w : List ℕ) : Type 0 where
  pub distances : (t : ℕ) → t < g.size → entry 0 g.size w t ≡ entry_of (dist g g.start t)

-- region 0 has been filled with the distances from the start: region 1 and what lies past the regions is as before
pub record StartDistancesPut (g : Graph) (w w' : List ℕ) : Type 0 where
  pub same_length : length w' ≡ length w
  pub start_distances : StartDistances g w'
  pub same_loops : (i : ℕ) → g.size ≤ i → i < 2 * g.size → get_or w' i 0 ≡ get_or w i 0
  pub same_after : (i : ℕ) → 6 * g.size ≤ i → get_or w' i 0 ≡ get_or w i 0

-- what the rounds ask: an accepted file with its header, room for the six regions, and the distances from the start
pub record RoundsReady (f : List ℕ) (h : Header) (w : List ℕ) : Type 0 where
  pub valid : Valid f h
  pub room : 6 * h.states ≤ length w
  pub start_distances : StartDistances (graph_in f h) w
