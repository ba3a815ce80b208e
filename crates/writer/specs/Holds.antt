-- What it says that a graph is written as a model file: the reader accepts it, and reads that graph by mark table 0.
use Rattle.std.specs.Prelude.{ℕ, ◌≤◌, ◌<◌, ◌≡◌, false, length, T}
use Rattle.lasso.specs.Graph.{Graph, WellFormed}
use Rattle.numbers.specs.Limits.{most_states, most_edges}
use Rattle.format.specs.Layout.{total_of}
use Rattle.format.specs.Rules.{Accepted}
use Rattle.model.specs.Model.{graph_of}
use Rattle.writer.specs.File.{edge_total, file_of}

-- A graph that a model file can hold: edges and marks belong to states, and their numbers are within the file's limits.
pub record Writable (g : Graph) : Type 0 where
  pub well_formed : WellFormed g
  pub marks_states : (s : ℕ) → T (g.marked s) → s < g.size
  pub states_limit : g.size ≤ most_states
  pub edges_limit : edge_total g ≤ most_edges

-- The file of a graph has the length that its states and edges give with one mark table, breaks none of the rules 1 to 11,
-- and holds exactly that graph, its marks in mark table 0; mark table 1 holds no marks.
pub record FileHolds (g : Graph) : Type 0 where
  pub file_length : length (file_of g) ≡ total_of g.size (edge_total g)
  pub accepted : Accepted (file_of g)
  pub same_graph : graph_of (file_of g) 0 ≡ g
  pub no_second_marks : (s : ℕ) → (graph_of (file_of g) 1).marked s ≡ false

-- So it is for every graph that a model file can hold.
abbrev pub FilesHold : Type 0
FilesHold = (g : Graph) → Writable g → FileHolds g
