-- The model file that holds a graph, as bytes: it has one mark table.
use Rattle.std.specs.Prelude.{ℕ, zero, suc, ◌+◌, ◌*◌, ◌/◌, ◌%◌, ◌^◌, Bool, List, [], ◌∷◌, ◌++◌, map, length}
use Rattle.lists.specs.Lists.{pick, collect, below}
use Rattle.lasso.specs.Graph.{Graph}
use Rattle.format.specs.Layout.{rows_at, edges_at, marks_at, mark_bytes, total_of}

-- the two bytes of a 16-bit number
abbrev pub word16 : ℕ → List ℕ
word16 x = x % 256 ∷ x / 256 ∷ []

-- the bytes of 16-bit numbers, one after another
abbrev pub words16 : List ℕ → List ℕ
words16 [] = []
words16 (x ∷ xs) = word16 x ++ words16 xs

-- a 32-bit number as two of 16 bits
abbrev pub halves : ℕ → List ℕ
halves x = x % 65536 ∷ x / 65536 ∷ []

-- the edges of the states below s, each by its target, in the order of the edge table
abbrev pub edges_below : Graph → ℕ → List ℕ
edges_below g s = collect g.succs (below s)

-- M, the number of edges
abbrev pub edge_total : Graph → ℕ
edge_total g = length (edges_below g g.size)

-- the header of 24 bytes, as 16-bit numbers: N, M, i, zero, and the offsets and the total length that N and M give
abbrev pub header_words : (n m start : ℕ) → List ℕ
header_words n m start =
    n ∷ m ∷ start ∷ 0 ∷ halves rows_at ++ halves (edges_at n) ++ halves (marks_at n m) ++ halves (total_of n m)

-- the row table: entry s, for s up to N, is the place in the edge table where row s begins
abbrev pub row_words : Graph → List ℕ
row_words g = map (λ s. length (edges_below g s)) (below (suc g.size))

-- what the bits 0 to k − 1 of a byte are worth together, where a test says which are set
abbrev pub worth : (ℕ → Bool) → ℕ → ℕ
worth set zero = 0
worth set (suc k) = worth set k + pick (set k) (2 ^ k) 0

-- the mark byte at a place: bit s mod 8 of byte s div 8 is the mark of s
abbrev pub mark_byte : Graph → ℕ → ℕ
mark_byte g b = worth (λ j. g.marked (8 * b + j)) 8

-- the model file: the header, the row table, the edge table, one mark table
abbrev pub file_of : Graph → List ℕ
file_of g =
    words16 (header_words g.size (edge_total g) g.start) ++
    words16 (row_words g) ++ words16 (edges_below g g.size) ++
    map (mark_byte g) (below (mark_bytes g.size))
