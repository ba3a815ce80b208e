-- What the reader finds in the model file that holds a graph: the header's numbers, the row table, the edge table, the
-- rows' targets, the marks.
use Prim.Native.Nat.{ℕ, zero, suc, ◌+◌, ◌*◌, ◌/◌, ◌%◌, ◌-◌, ◌≤◌, ◌<◌}
use mathlib.Core.Path.{◌≡◌, refl, sym, ap, ◌∙◌}
use mathlib.Core.List.{List, [], ◌∷◌, ◌++◌, map}
use native.Mathlib.Omega.{arith}
use native.Mathlib.Nat.{add-zero}
use lib.ListN.{length, get_or, length-append, get_or-append}
use lib.Seq.{get_or-append-add}
use Rattle.lists.specs.Lists.{up_from, below}
use Rattle.lasso.specs.Graph.{Graph}
use Rattle.lists.proofs.BelowLaws.{map-below_at}
use Rattle.format.specs.Bytes.{word, long, bitb}
use Rattle.format.specs.Layout.{states, edge_count, start_of, stays_word, rows_at, edges_at, marks_at, mark_bytes, total_of, table_at, row_entry, target, row_targets, mark_bit}
use Rattle.writer.specs.File.{words16, edges_below, edge_total, header_words, row_words, mark_byte, file_of}
use Rattle.writer.proofs.FileLaws.{bytes_number, words16-length, words16-append, word-words16, edges_next, edges-below_le, row_words-length, worth_bit}

-- three parts of numbers and a part of bytes, one after another
module _ (hs rs es marks : List ℕ) where
  -- the numbers are those of one list
  parts_joined : words16 hs ++ words16 rs ++ words16 es ++ marks ≡ words16 (hs ++ rs ++ es) ++ marks
  parts_joined =
      ap (λ (r : List ℕ). r ++ words16 es ++ marks) (sym (words16-append hs rs))
      ∙ ap (λ (r : List ℕ). r ++ marks) (sym (words16-append (hs ++ rs) es))

  -- at twice a place stands the number at that place of the one list
  parts_word : (at k : ℕ) → at ≡ 2 * k → k < length (hs ++ rs ++ es)
      → word (words16 hs ++ words16 rs ++ words16 es ++ marks) at ≡ get_or (hs ++ rs ++ es) k 0
  parts_word at k e l =
      ap (λ (f : List ℕ). word f at) parts_joined
      ∙ ap (λ (a : ℕ). word (words16 (hs ++ rs ++ es) ++ marks) a) e
      ∙ word-words16 (hs ++ rs ++ es) marks k l

  -- the numbers of the second part stand after the first
  second_word : (at k : ℕ) → at ≡ 2 * (length hs + k) → k < length rs
      → word (words16 hs ++ words16 rs ++ words16 es ++ marks) at ≡ get_or rs k 0
  second_word at k e l =
      let n : length (hs ++ rs) ≡ length hs + length rs = length-append hs rs in
      let m : length (hs ++ rs ++ es) ≡ length (hs ++ rs) + length es = length-append (hs ++ rs) es in
      parts_word at (length hs + k) e (omega arith)
      ∙ get_or-append (hs ++ rs) es 0 (length hs + k) (omega arith)
      ∙ get_or-append-add hs rs k 0

  -- the numbers of the third part stand after the second
  third-word : (at k : ℕ) → at ≡ 2 * (length hs + length rs + k) → k < length es
      → word (words16 hs ++ words16 rs ++ words16 es ++ marks) at ≡ get_or es k 0
  third-word at k e l =
      let n : length (hs ++ rs) ≡ length hs + length rs = length-append hs rs in
      let m : length (hs ++ rs ++ es) ≡ length (hs ++ rs) + length es = length-append (hs ++ rs) es in
      parts_word at (length (hs ++ rs) + k) (omega arith) (omega arith)
      ∙ get_or-append-add (hs ++ rs) es k 0

  -- the bytes of the last part stand after the third
  last_byte : (at k : ℕ) → at ≡ 2 * (length hs + length rs + length es) + k
      → get_or (words16 hs ++ words16 rs ++ words16 es ++ marks) at 0 ≡ get_or marks k 0
  last_byte at k e =
      let front : List ℕ = words16 hs ++ words16 rs ++ words16 es in
      let q : at ≡ length front + k = simp (length-append, words16-length) (omega arith) in
      ap (λ (a : ℕ). get_or (front ++ marks) a 0) q ∙ get_or-append-add front marks k 0

-- the four bytes of a 32-bit number give it back
halves_number : (x : ℕ) → x % 65536 % 256 + 256 * (x % 65536 / 256) + 65536 * (x / 65536 % 256 + 256 * (x / 65536 / 256)) ≡ x
halves_number x = omega (arith, bytes_number (x % 65536), bytes_number (x / 65536))

-- the edges of fewer states stand first
edges-keep : (g : Graph) (s d t i : ℕ) → s + d ≡ t → i < length (edges_below g s) → get_or (edges_below g t) i 0 ≡ get_or (edges_below g s) i 0
edges-keep g s zero t i e l = let q : t ≡ s = omega arith in ap (λ (k : ℕ). get_or (edges_below g k) i 0) q
edges-keep g s (suc d) t i e l =
    let q : t ≡ s + d + 1 = omega arith in
    let m : i < length (edges_below g (s + d)) = omega (arith, edges-below_le g s (s + d) (omega arith)) in
    ap (λ (k : ℕ). get_or (edges_below g k) i 0) q
    ∙ ap (λ (r : List ℕ). get_or r i 0) (edges_next g (s + d))
    ∙ get_or-append (edges_below g (s + d)) (g.succs (s + d)) 0 i m
    ∙ edges-keep g s d (s + d) i refl l

-- a state's edges stand after those of the states below it
pub edge_at : (g : Graph) (s n i : ℕ) → s < n → i < length (g.succs s)
    → get_or (edges_below g n) (length (edges_below g s) + i) 0 ≡ get_or (g.succs s) i 0
edge_at g s n i l m =
    let a : ℕ = length (edges_below g s) in
    let e : length (edges_below g (s + 1)) ≡ a + length (g.succs s) = ap length (edges_next g s) ∙ length-append (edges_below g s) (g.succs s) in
    edges-keep g (s + 1) (n - (s + 1)) n (a + i) (omega arith) (omega arith)
    ∙ ap (λ (r : List ℕ). get_or r (a + i) 0) (edges_next g s)
    ∙ get_or-append-add (edges_below g s) (g.succs s) i 0

-- a table that holds a list from a place on gives that list
map-up_from_list : (f : ℕ → ℕ) (a : ℕ) (xs : List ℕ) → ((i : ℕ) → i < length xs → f (a + i) ≡ get_or xs i 0)
    → map f (up_from a (length xs)) ≡ xs
map-up_from_list f a [] h = refl
map-up_from_list f a (x ∷ xs) h =
    let p : f a ≡ x = ap f (sym (add-zero a)) ∙ h 0 (omega arith) in
    let r : map f (up_from (suc a) (length xs)) ≡ xs = map-up_from_list f (suc a) xs (λ i l.
    let q : suc a + i ≡ a + suc i = omega arith in ap f q ∙ h (suc i) (omega arith)) in
    cc

module _ (g : Graph) where
  -- N is the number of states
  pub file_states : states (file_of g) ≡ g.size
  file_states = bytes_number g.size

  -- M is the number of edges
  pub file_edges : edge_count (file_of g) ≡ edge_total g
  file_edges = bytes_number (edge_total g)

  -- i is the initial state
  pub file_start_of : start_of (file_of g) ≡ g.start
  file_start_of = bytes_number g.start

  -- bytes 6–7 are zero
  pub file_stays : stays_word (file_of g) ≡ 0
  file_stays = refl

  -- the first offset is that of the row table
  pub file_rows_at : long (file_of g) 8 ≡ rows_at
  file_rows_at = refl

  -- the second offset is that of the edge table
  pub file_edges_at : long (file_of g) 12 ≡ edges_at g.size
  file_edges_at = halves_number (edges_at g.size)

  -- the third offset is that of the marks
  pub file_marks_at : long (file_of g) 16 ≡ marks_at g.size (edge_total g)
  file_marks_at = halves_number (marks_at g.size (edge_total g))

  -- the fourth number is the total length
  pub file_total : long (file_of g) 20 ≡ total_of g.size (edge_total g)
  file_total = halves_number (total_of g.size (edge_total g))

  -- the numbers of the header
  abbrev header : List ℕ
  header = header_words g.size (edge_total g) g.start

  -- the bytes of the marks
  abbrev marks : List ℕ
  marks = map (mark_byte g) (below (mark_bytes g.size))

  -- row entry s is the number of edges of the states below s
  pub file_row_entry : (s : ℕ) → s ≤ g.size → row_entry (file_of g) s ≡ length (edges_below g s)
  file_row_entry s l =
      second_word header (row_words g) (edges_below g g.size) marks (rows_at + 2 * s) s (omega arith) (omega (arith, row_words-length g))
      ∙ map-below_at (λ (t : ℕ). length (edges_below g t)) (suc g.size) s (omega arith)

  -- target e is the target of edge e
  pub file_target : (e : ℕ) → e < edge_total g → target (file_of g) e ≡ get_or (edges_below g g.size) e 0
  file_target e l =
      ap (λ (n : ℕ). word (file_of g) (edges_at n + 2 * e)) file_states
      ∙ third-word header (row_words g) (edges_below g g.size) marks (edges_at g.size + 2 * e) e (omega (arith, row_words-length g)) l

  -- the targets of row s are the successors of s
  pub file_row_targets : (s : ℕ) → s < g.size → row_targets (file_of g) s ≡ g.succs s
  file_row_targets s l =
      let f : List ℕ = file_of g in
      let a : ℕ = length (edges_below g s) in
      let n : ℕ = length (g.succs s) in
      let next : length (edges_below g (s + 1)) ≡ a + n = ap length (edges_next g s) ∙ length-append (edges_below g s) (g.succs s) in
      let b : row_entry f s ≡ a = file_row_entry s (omega arith) in
      let e : row_entry f (s + 1) ≡ a + n = file_row_entry (s + 1) (omega arith) ∙ next in
      let d : row_entry f (s + 1) - row_entry f s ≡ n = omega arith in
      ap (λ (k : ℕ). map (target f) (up_from k (row_entry f (s + 1) - row_entry f s))) b
      ∙ ap (λ (k : ℕ). map (target f) (up_from a k)) d
      ∙ map-up_from_list (target f) a (g.succs s) (λ i m.
      file_target (a + i) (omega (arith, edges-below_le g (s + 1) g.size (omega arith)))
      ∙ edge_at g s g.size i l m)

  -- bit s of mark table 0 is the mark of s
  pub file_mark_bit : (s : ℕ) → s < 8 * mark_bytes g.size → mark_bit (file_of g) 0 s ≡ g.marked s
  file_mark_bit s l =
      let f : List ℕ = file_of g in
      let at : ℕ = marks_at g.size (edge_total g) + s / 8 in
      let place : table_at (states f) (edge_count f) 0 + s / 8 ≡ at = omega (arith, file_states, file_edges) in
      let byte : get_or f at 0 ≡ mark_byte g (s / 8) =
      last_byte header (row_words g) (edges_below g g.size) marks at (s / 8) (omega (arith, row_words-length g))
      ∙ map-below_at (mark_byte g) (mark_bytes g.size) (s / 8) (omega arith) in
      let q : 8 * (s / 8) + s % 8 ≡ s = omega arith in
      ap (λ (k : ℕ). bitb (get_or f k 0) (s % 8)) place
      ∙ ap (λ (x : ℕ). bitb x (s % 8)) byte
      ∙ worth_bit (λ (j : ℕ). g.marked (8 * (s / 8) + j)) 8 (s % 8) (omega arith)
      ∙ ap g.marked q
