-- The row table and the edge table, written in one pass: the entries of the states below c to one part of the output, and
-- their edges to the part after it.
use Prim.Native.Nat.{ℕ, suc, ◌+◌, ◌*◌, ◌-◌, ◌/◌, ◌≤◌, ◌<◌}
use mathlib.Core.Path.{◌≡◌, sym, ap, subst, ◌∙◌}
use mathlib.Core.List.{List, [], ◌∷◌, ◌++◌, map}
use native.Mathlib.Omega.{arith}
use native.Mathlib.Numerals.{add-one}
use lib.ListN.{length, take, drop, length-append, length-take, length-drop}
use Rattle.lists.specs.Lists.{below}
use Rattle.lasso.specs.Graph.{Graph}
use Rattle.lists.proofs.BelowLaws.{map-below-length}
use Rattle.text.specs.declared.Output.{Output}
use Rattle.text.specs.Writing.{Wrote, HasRoom}
use Rattle.text.proofs.WroteLaws.{wrote_length, wrote_none, wrote_then, wrote_as, wrote_parts}
use Rattle.writer.specs.File.{word16, words16, edges_below, edge_total, row_words}
use Rattle.writer.proofs.FileLaws.{words16-length, words16-append, edges_next, edges-below_le, row_words_next, row_words-length}
use Rattle.writer.specs.Tables.{table_bytes, TablesFit}

-- the bytes of the row entries of the states below c
abbrev pub entry_bytes : Graph → ℕ → List ℕ
entry_bytes g c = words16 (map (λ s. length (edges_below g s)) (below c))

-- the bytes of the edges of the states below c
abbrev pub edge_bytes : Graph → ℕ → List ℕ
edge_bytes g c = words16 (edges_below g c)

-- where the edge table begins
abbrev pub cut : Graph → Output → ℕ
cut g out = out.at + 2 * (g.size + 1)

-- the pass has come to c: the entries of the states below c are written to the front of the output, from place `at` on,
-- and their edges to what comes after it
pub record PassedTo (g : Graph) (front back : List ℕ) (at c : ℕ) (rows edges : Output) : Type 0 where
  pub entries : Wrote front at (entry_bytes g c) rows.bytes.now rows.at
  pub targets : Wrote back 0 (edge_bytes g c) edges.bytes.now edges.at

-- so many bytes as two for each entry
pub entry_bytes_length : (g : Graph) (c : ℕ) → length (entry_bytes g c) ≡ 2 * c
entry_bytes_length g c =
    omega (arith, words16-length (map (λ (s : ℕ). length (edges_below g s)) (below c)), map-below-length (λ (s : ℕ). length (edges_below g s)) c)

-- so many bytes as two for each entry and for each edge
pub table_bytes-length : (g : Graph) → length (table_bytes g) ≡ 2 * (g.size + 1) + 2 * edge_total g
table_bytes-length g =
    let rows : List ℕ = words16 (row_words g) in
    let edges : List ℕ = words16 (edges_below g g.size) in
    omega (arith, length-append rows edges, words16-length (row_words g), row_words-length g, words16-length (edges_below g g.size))

-- one entry more
entry_bytes_next : (g : Graph) (c : ℕ) → entry_bytes g (c + 1) ≡ entry_bytes g c ++ word16 (length (edges_below g c))
entry_bytes_next g c =
    ap words16 (row_words_next g c) ∙ words16-append (map (λ (s : ℕ). length (edges_below g s)) (below c)) (length (edges_below g c) ∷ [])

-- the edges of one state more
edge_bytes_next : (g : Graph) (c : ℕ) → edge_bytes g (c + 1) ≡ edge_bytes g c ++ words16 (g.succs c)
edge_bytes_next g c = ap words16 (edges_next g c) ∙ words16-append (edges_below g c) (g.succs c)

-- the two parts of an output before the pass: up to the end of the row table, and what comes after it
pub record Parted (g : Graph) (out : Output) (front back : List ℕ) : Type 0 where
  pub fit : TablesFit g out
  pub front_is : front ≡ take (cut g out) out.bytes.now
  pub back_is : back ≡ drop (cut g out) out.bytes.now

module _ {g : Graph} {out : Output} {front back : List ℕ} (P : Parted g out front back) where
  -- the front ends where the edge table begins
  front_length : length front ≡ cut g out
  front_length = ap length P.front_is ∙ simp length-take (omega (arith, P.fit.room, table_bytes-length g))

  -- the edges of the states below one of them have room
  edges_room : (c : ℕ) → c ≤ g.size → 2 * length (edges_below g c) ≤ length back
  edges_room c le =
      let long : length back ≡ length out.bytes.now - cut g out = ap length P.back_is ∙ length-drop (cut g out) out.bytes.now in
      omega (arith, long, P.fit.room, table_bytes-length g, edges-below_le g c g.size le)

  -- at the start nothing is written
  pub passed_none : Wrote front out.at (entry_bytes g 0) front out.at × Wrote back 0 (edge_bytes g 0) back 0
  passed_none = (wrote_none front out.at (omega (arith, front_length)), wrote_none back 0 (omega arith))

  module _ {c : ℕ} {rows edges : Output} (le : c ≤ g.size) (Q : PassedTo g front back out.at c rows edges) where
    -- the entry of row c is the number of edges written, and fits 16 bits
    pub passed_entry : (edges.at / 2 ≡ length (edges_below g c)) × (length (edges_below g c) ≤ 8192)
    passed_entry = (
      omega (arith, Q.targets.place, words16-length (edges_below g c)),
      omega (arith, edges-below_le g c g.size le, P.fit.edges_limit),
    )

    -- the entry of row c has room
    pub entry_room : HasRoom rows 2
    entry_room = omega (arith, le, Q.entries.place, wrote_length Q.entries, front_length, entry_bytes_length g c)

    -- the entry of row c is written
    pub entry-written : {t' : List ℕ} {next : ℕ} → Wrote rows.bytes.now rows.at (word16 (edges.at / 2)) t' next
        → Wrote front out.at (entry_bytes g (c + 1)) t' next
    entry-written w =
        wrote_as (sym (entry_bytes_next g c)) (wrote_then Q.entries (wrote_as (ap word16 passed_entry.0) w))

    -- the edges of c have room
    pub edges_fit : c < g.size → HasRoom edges (2 * length (g.succs c))
    edges_fit less =
        omega (
          arith,
          Q.targets.place,
          wrote_length Q.targets,
          words16-length (edges_below g c),
          edges_room (c + 1) (omega arith),
          ap length (edges_next g c),
          length-append (edges_below g c) (g.succs c),
        )

    -- the edges of c are written
    pub edges-written : {t' : List ℕ} {next : ℕ} → Wrote edges.bytes.now edges.at (words16 (g.succs c)) t' next
        → Wrote back 0 (edge_bytes g (c + 1)) t' next
    edges-written w = wrote_as (sym (edge_bytes_next g c)) (wrote_then Q.targets w)

    -- with the last entry both tables are written
    pub tables_written : {t' : List ℕ} {next : ℕ} → c ≡ g.size → Wrote rows.bytes.now rows.at (word16 (edges.at / 2)) t' next
        → Wrote out.bytes.now out.at (table_bytes g) (t' ++ edges.bytes.now) (cut g out + edges.at)
    tables_written {t'} {next} all w =
        let t : List ℕ = out.bytes.now in
        let R : List ℕ = words16 (row_words g) in
        let whole : Wrote front out.at R t' next = wrote_as (ap (entry_bytes g) (add-one c ∙ ap suc all)) (entry-written w) in
        let end : next ≡ cut g out = omega (arith, whole.place, words16-length (row_words g), row_words-length g) in
        wrote_parts t
        (subst (λ (x : List ℕ). Wrote x out.at R t' (cut g out)) P.front_is (subst (λ (n : ℕ). Wrote front out.at R t' n) end whole))
        (subst (λ (x : List ℕ). Wrote x 0 (edge_bytes g g.size) edges.bytes.now edges.at) P.back_is (wrote_as (ap (edge_bytes g) all) Q.targets))

-- once both parts end, the output has what is left of them: the last two arguments are what is known of them then
pub tables_left : {t bytes front back left right : List ℕ} {at next f f' b b' : ℕ} → Wrote t at bytes (front ++ back) next → f' ≡ f → b' ≡ b
    → (f ≡ f' → left ≡ front) → (b ≡ b' → right ≡ back) → Wrote t at bytes (left ++ right) next
tables_left {t} {bytes} {front} {back} {left} {right} {at} {next} w same same' known known' =
    subst (λ (x : List ℕ). Wrote t at bytes (x ++ right) next) (sym (known (sym same)))
    (subst (λ (y : List ℕ). Wrote t at bytes (front ++ y) next) (sym (known' (sym same'))) w)
