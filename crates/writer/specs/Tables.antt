-- The row table and the edge table of a graph's file, which are written together.
use Rattle.std.specs.Prelude.{ℕ, ◌≤◌, List, ◌++◌, length}
use Rattle.lasso.specs.Graph.{Graph}
use Rattle.numbers.specs.Limits.{most_edges}
use Rattle.text.specs.declared.Output.{Output}
use Rattle.text.specs.Writing.{HasRoom}
use Rattle.writer.specs.File.{words16, edges_below, edge_total, row_words}

-- the bytes of the row table and of the edge table
abbrev pub table_bytes : Graph → List ℕ
table_bytes g = words16 (row_words g) ++ words16 (edges_below g g.size)

-- the two tables fit the output, and each row entry fits 16 bits
pub record TablesFit (g : Graph) (out : Output) : Type 0 where
  pub room : HasRoom out (length (table_bytes g))
  pub edges_limit : edge_total g ≤ most_edges
