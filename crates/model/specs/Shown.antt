-- What the graph of an accepted file is: a statement.
use Rattle.std.specs.Prelude.{ℕ, List}
use Rattle.lasso.specs.Graph.{WellFormed}
use Rattle.format.specs.Rules.{Accepted}
use Rattle.model.specs.Model.{graph_of}

-- the graph of an accepted file is well formed, whichever mark table is named: what is shown of every well-formed graph is
-- so of every accepted file
abbrev pub FilesWellFormed : Type 0
FilesWellFormed = (f : List ℕ) (t : ℕ) → Accepted f → WellFormed (graph_of f t)
