-- The model file: a header of 24 bytes, the row table, the edge table, the marks: one mark table or two.
use Rattle.std.specs.Prelude.{ℕ, ◌+◌, ◌*◌, ◌-◌, ◌/◌, ◌%◌, ◌≤◌, ◌≡◌, Bool, List, map, length, get_or, eqb}
use Rattle.numbers.specs.Limits.{most_states, most_edges}
use Rattle.lists.specs.Lists.{up_from}
use Rattle.format.specs.Bytes.{word, bitb}

-- N, the number of states
abbrev pub states : List ℕ → ℕ
states f = word f 0

-- M, the number of edges
abbrev pub edge_count : List ℕ → ℕ
edge_count f = word f 2

-- i, the initial state
abbrev pub start_of : List ℕ → ℕ
start_of f = word f 4

-- bytes 6–7
abbrev pub stays_word : List ℕ → ℕ
stays_word f = word f 6

-- a state without edges has an implied step to itself: bytes 6–7 are 1
abbrev pub stays : List ℕ → Bool
stays f = eqb (stays_word f) 1

-- the offset of the row table, which has N + 1 numbers of 16 bits
abbrev pub rows_at : ℕ
rows_at = 24

-- the offset of the edge table that N gives, which has M numbers of 16 bits
abbrev pub edges_at : ℕ → ℕ
edges_at n = rows_at + 2 * (n + 1)

-- the offset of the marks that N and M give
abbrev pub marks_at : ℕ → ℕ → ℕ
marks_at n m = edges_at n + 2 * m

-- the number of bytes of a mark table: N / 8 rounded up
abbrev pub mark_bytes : ℕ → ℕ
mark_bytes n = (n + 7) / 8

-- the total length that N and M give with one mark table
abbrev pub total_of : ℕ → ℕ → ℕ
total_of n m = marks_at n m + mark_bytes n

-- the offset of mark table t: the tables follow one another, each of the same size
abbrev pub table_at : (n m t : ℕ) → ℕ
table_at n m t = marks_at n m + t * mark_bytes n

-- the row entry at a place of the row table
abbrev pub row_entry : List ℕ → ℕ → ℕ
row_entry f s = word f (rows_at + 2 * s)

-- the target at a place of the edge table
abbrev pub target : List ℕ → ℕ → ℕ
target f e = word f (edges_at (states f) + 2 * e)

-- the numbers of row s in a table that has one for each edge, in edge order, from byte `base` on: the places from entry s
-- up to, not including, entry s + 1
abbrev pub row_numbers : List ℕ → ℕ → ℕ → List ℕ
row_numbers f base s = map (λ e. word f (base + 2 * e)) (up_from (row_entry f s) (row_entry f (s + 1) - row_entry f s))

-- the targets of row s
abbrev pub row_targets : List ℕ → ℕ → List ℕ
row_targets f s = row_numbers f (edges_at (states f)) s

-- the mark of s in mark table t: bit s mod 8 of byte s div 8 of that table; past the end of the file there is none
abbrev pub mark_bit : List ℕ → (t s : ℕ) → Bool
mark_bit f t s = bitb (get_or f (table_at (states f) (edge_count f) t + s / 8) 0) (s % 8)

-- n and m are the file's numbers of states and edges, within the limits, and the file has room for their tables
pub record HasTables (f : List ℕ) (n m : ℕ) : Type 0 where
  pub states_are : n ≡ states f
  pub edges_are : m ≡ edge_count f
  pub states_limit : n ≤ most_states
  pub edges_limit : m ≤ most_edges
  pub room : total_of n m ≤ length f
