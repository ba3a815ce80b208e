-- Two departments share the states and edges of a file but not its marks: the marks of the one change nothing for the other.
use Rattle.std.specs.Prelude.{ℕ, ◌+◌, ◌-◌, ◌≤◌, ◌<◌, ◌≡◌, false, List, ◌++◌, length, get_or}
use Rattle.format.specs.Layout.{states, edge_count, mark_bytes, table_at}
use Rattle.format.specs.Rules.{first_broken, spare_set, rules, Accepted}
use Rattle.model.specs.Model.{graph_of}

-- the byte at place i is one of mark table t
abbrev pub InMarks : List ℕ → (t i : ℕ) → Type 0
InMarks f t i =
    let at = table_at (states f) (edge_count f) t in
    (at ≤ i) × (i < at + mark_bytes (states f))

-- Two files of the same length that differ only in the marks of the other department, while its spare bits are zero; those
-- of the department's own table are the same in both, and need not be zero.
pub record SameBut (other : ℕ) (f f' : List ℕ) : Type 0 where
  pub same_length : length f ≡ length f'
  pub same_bytes : (i : ℕ) → (InMarks f other i → ⊥) → get_or f i 0 ≡ get_or f' i 0
  pub spare_clear : spare_set f other ≡ false
  pub spare_clear' : spare_set f' other ≡ false

-- The department's marks are in table t, the other's in table 1 − t. Such files are refused alike: with the same number of 1
-- to 11, or neither is.
abbrev pub SameRefusal : Type 0
SameRefusal = (t : ℕ) → t ≤ 1 → (f f' : List ℕ) → SameBut (1 - t) f f' → first_broken (rules f) ≡ first_broken (rules f')

-- The department sees the same model in both, if they are accepted.
abbrev pub SameGraph : Type 0
SameGraph = (t : ℕ) → t ≤ 1 → (f f' : List ℕ) → SameBut (1 - t) f f' → Accepted f → graph_of f t ≡ graph_of f' t

-- The other's marks are free: a file in which other bytes, as many, stand in their place is one of these, if both keep its
-- spare bits zero.
abbrev pub OtherMarksFree : Type 0
OtherMarksFree = (other : ℕ) (before marks marks' after : List ℕ) →
    let f = before ++ (marks ++ after) in
    let f' = before ++ (marks' ++ after) in
    length before ≡ table_at (states f) (edge_count f) other → length marks ≡ mark_bytes (states f) → length marks' ≡ length marks
    → spare_set f other ≡ false → spare_set f' other ≡ false → SameBut other f f'
