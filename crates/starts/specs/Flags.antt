-- The flags in region 1: which states may start the loop, before their loop lengths are found.
use Rattle.std.specs.Prelude.{ℕ, ◌+◌, ◌*◌, ◌≤◌, List, get_or, T}
use Rattle.lasso.specs.Graph.{Graph, edgeb}
use Rattle.table.specs.Changes.{SameOutside}

-- an edge enters t from u, whose entry in region 0 is no less than that of t
pub record LowEdge (g : Graph) (w : List ℕ) (u t : ℕ) : Type 0 where
  pub edge : T (edgeb g u t)
  pub low : get_or w t 0 ≤ get_or w u 0

-- region 1 alone changed, no entry became nothing, and each state with the property is flagged
pub record Flagging (n : ℕ) (P : ℕ → Type 0) (w w' : List ℕ) : Type 0 where
  pub same : SameOutside n (2 * n) w w'
  pub kept : (i : ℕ) → 1 ≤ get_or w i 0 → 1 ≤ get_or w' i 0
  pub flagged : (t : ℕ) → P t → 1 ≤ get_or w' (n + t) 0

-- each successor of u is flagged whose entry in region 0 is no greater than that of u
abbrev pub FlagsRow : Graph → ℕ → ℕ → List ℕ → List ℕ → Type 0
FlagsRow g n u w w' = Flagging n (LowEdge g w u) w w'

-- region 1 alone changed, and each state is flagged that an edge enters from a reached state whose entry in region 0
-- is no less
pub record FlagsStarts (g : Graph) (n : ℕ) (w w' : List ℕ) : Type 0 where
  pub same : SameOutside n (2 * n) w w'
  pub flagged : (u t : ℕ) → 1 ≤ get_or w u 0 → LowEdge g w u t → 1 ≤ get_or w' (n + t) 0
