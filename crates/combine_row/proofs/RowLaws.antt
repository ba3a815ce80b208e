-- The blocks of a row: the first one's entries in the output, what is made of them, and one block more.
use Prim.Native.Nat.{ℕ, zero, suc, ◌+◌, ◌*◌, ◌-◌, ◌≤◌, ◌<◌}
use mathlib.Core.Path.{◌≡◌, refl, sym, ap, ◌∙◌}
use mathlib.Core.List.{List, [], ◌∷◌, map, append-nil}
use native.Mathlib.Omega.{arith}
use lib.ListN.{length, get_or, take, length-append, length-map, get_or-append}
use lib.Seq.{ext_get_or, take_all}
use Rattle.lists.specs.Lists.{collect, below}
use Rattle.lists.proofs.BelowLaws.{map-below_at, map-below-length}
use Rattle.format.specs.Bytes.{word}
use Rattle.text.specs.Writing.{Wrote}
use Rattle.text.proofs.WroteLaws.{wrote_none, wrote_then, wrote_as, wrote_length}
use Rattle.lists.proofs.CollectLaws.{collect_next, collect_room}
use Rattle.writer.specs.File.{words16}
use Rattle.writer.proofs.FileLaws.{words16-length, words16-append, word-words16}
use Rattle.writer.proofs.PutLaws.{wrote_put, put_at}
use Rattle.combine_row.specs.Row.{block, row_of, copied, BlockFits}

-- the image at a place
map_at : (f : ℕ → ℕ) (xs : List ℕ) (j : ℕ) → j < length xs → get_or (map f xs) j 0 ≡ f (get_or xs j 0)
map_at f [] j l = absurd (omega arith)
map_at f (x ∷ xs) zero l = refl
map_at f (x ∷ xs) (suc j) l = map_at f xs j (omega arith)

-- a table of the numbers below a list's length is the list's image if its entries are those of the list
table_map : (f g : ℕ → ℕ) (xs : List ℕ) → ((j : ℕ) → j < length xs → f j ≡ g (get_or xs j 0)) → map f (below (length xs)) ≡ map g xs
table_map f g xs h =
    let n : length (map f (below (length xs))) ≡ length xs = map-below-length f (length xs) in
    ext_get_or 0 (map f (below (length xs))) (map g xs) (n ∙ sym (length-map xs g)) (λ (j : ℕ) (l : j < length (map f (below (length xs)))).
    let less : j < length xs = omega arith in
    map-below_at f (length xs) j less ∙ h j less ∙ sym (map_at g xs j less))

-- at the place and twice j after it stands number j of those written
wrote_word : {t t' : List ℕ} {at next : ℕ} (xs : List ℕ) (j : ℕ) → j < length xs → Wrote t at (words16 xs) t' next
    → word t' (at + 2 * j) ≡ get_or xs j 0
wrote_word {t} {t'} {at} {next} xs j less w =
    let bytes : List ℕ = words16 xs in
    let fits : at ≤ length t = omega (arith, w.room) in
    let n : length bytes ≡ 2 * length xs = words16-length xs in
    let low : get_or t' (at + 2 * j) 0 ≡ get_or bytes (2 * j) 0 =
    ap (λ (x : List ℕ). get_or x (at + 2 * j) 0) (wrote_put w) ∙ put_at t at bytes (2 * j) fits (omega arith) in
    let e : at + 2 * j + 1 ≡ at + (2 * j + 1) = omega arith in
    let high : get_or t' (at + 2 * j + 1) 0 ≡ get_or bytes (2 * j + 1) 0 =
    ap (λ (i : ℕ). get_or t' i 0) e ∙ ap (λ (x : List ℕ). get_or x (at + (2 * j + 1)) 0) (wrote_put w)
    ∙ put_at t at bytes (2 * j + 1) fits (omega arith) in
    ap (λ (a : ℕ). a + 256 * get_or t' (at + 2 * j + 1) 0) low
    ∙ ap (λ (b : ℕ). get_or bytes (2 * j) 0 + 256 * b) high
    ∙ ap (λ (x : List ℕ). word x (2 * j)) (sym (append-nil bytes))
    ∙ word-words16 xs [] j less

-- the numbers of a block in an output, with base replaced by another, are the block of the other
copied-block : (out qs : List ℕ) (from base other : ℕ)
    → ((j : ℕ) → j < length qs → word out (from + 2 * j) ≡ base + get_or qs j 0)
    → copied out from (length qs) base other ≡ block other qs
copied-block out qs from base other h =
    table_map (λ (j : ℕ). other + (word out (from + 2 * j) - base)) (λ (q : ℕ). other + q) qs
    (λ (j : ℕ) (l : j < length qs). omega (arith, h j l))

module _ (size : ℕ) (qs : List ℕ) where
  -- the row is at least as long as its first block, once a block is there
  row_long : (ss : List ℕ) (k : ℕ) → 1 ≤ k → 1 ≤ length ss → length qs ≤ length (row_of size (take k ss) qs)
  row_long [] k some least = absurd (omega arith)
  row_long (s ∷ ss) zero some least = absurd (omega arith)
  row_long (s ∷ ss) (suc k) some least =
      omega (
        arith,
        length-append (block (s * size) qs) (row_of size (take k ss) qs),
        length-map qs (λ (q : ℕ). s * size + q),
      )

  -- the first block's entries stand first, once a block is there
  row_starts_with_block : (ss : List ℕ) (k j : ℕ) → 1 ≤ k → 1 ≤ length ss → j < length qs
      → get_or (row_of size (take k ss) qs) j 0 ≡ get_or ss 0 0 * size + get_or qs j 0
  row_starts_with_block [] k j some least less = absurd (omega arith)
  row_starts_with_block (s ∷ ss) zero j some least less = absurd (omega arith)
  row_starts_with_block (s ∷ ss) (suc k) j some least less =
      let f : ℕ → ℕ = λ q. s * size + q in
      get_or-append (map f qs) (row_of size (take k ss) qs) 0 j (omega (arith, length-map qs f)) ∙ map_at f qs j less

module _ (size : ℕ) (ss qs : List ℕ) where
  -- the first block's entries stand in the output, once a block is written
  first_block : {t t' : List ℕ} {at next : ℕ} (k j : ℕ) → 1 ≤ k → 1 ≤ length ss → j < length qs
      → Wrote t at (words16 (row_of size (take k ss) qs)) t' next
      → word t' (at + 2 * j) ≡ get_or ss 0 0 * size + get_or qs j 0
  first_block k j some least less w =
      wrote_word (row_of size (take k ss) qs) j (omega (arith, row_long size qs ss k some least)) w
      ∙ row_starts_with_block size qs ss k j some least less

  -- the first block lies before the place after the blocks that are written
  pub first_before : {t t' : List ℕ} {at next : ℕ} (k : ℕ) → 1 ≤ k → 1 ≤ length ss
      → Wrote t at (words16 (row_of size (take k ss) qs)) t' next → at + 2 * length qs ≤ next
  first_before k some least w =
      omega (arith, row_long size qs ss k some least, words16-length (row_of size (take k ss) qs), w.place)

  -- where all blocks have room, the next one has
  pub block_room : {t t' : List ℕ} {at next : ℕ} (k : ℕ) → k < length ss → at + 2 * length (row_of size ss qs) ≤ length t
      → Wrote t at (words16 (row_of size (take k ss) qs)) t' next → next + 2 * length qs ≤ length t'
  block_room k less room w =
      omega (
        arith,
        collect_room (λ (s : ℕ). block (s * size) qs) ss k 0 less,
        length-map qs (λ (q : ℕ). get_or ss k 0 * size + q),
        words16-length (row_of size (take k ss) qs),
        wrote_length w,
        w.place,
      )

  -- a writer of the next block, after writers of those before it
  wrote_next_block : {t t' t'' : List ℕ} {at next next' : ℕ} (k base : ℕ) → k < length ss → base ≡ get_or ss k 0 * size
      → Wrote t at (words16 (row_of size (take k ss) qs)) t' next → Wrote t' next (words16 (block base qs)) t'' next'
      → Wrote t at (words16 (row_of size (take (k + 1) ss) qs)) t'' next'
  wrote_next_block k base less e w v =
      let f : ℕ → List ℕ = λ s. block (s * size) qs in
      wrote_as
      (sym (ap words16 (collect_next f ss k 0 less) ∙ words16-append (collect f (take k ss)) (f (get_or ss k 0))))
      (wrote_then w (wrote_as (ap (λ (b : ℕ). words16 (block b qs)) e) v))

  -- a writer of the first block
  pub wrote_first_block : {t t' : List ℕ} {at next : ℕ} (base : ℕ) → 0 < length ss → base ≡ get_or ss 0 0 * size
      → Wrote t at (words16 (block base qs)) t' next → Wrote t at (words16 (row_of size (take 1 ss) qs)) t' next
  wrote_first_block {t} {t'} {at} {next} base less e v =
      wrote_next_block 0 base less e (wrote_none t at (omega (arith, v.room))) v

  module _ {t t' : List ℕ} {at next : ℕ} (k count base other : ℕ) (some : 1 ≤ k) (less : k < length ss)
      (counted : count ≡ length qs) (first : base ≡ get_or ss 0 0 * size) (here : other ≡ get_or ss k 0 * size)
      (w : Wrote t at (words16 (row_of size (take k ss) qs)) t' next) where
    -- the first block's numbers are at least its base and fit with the next block's base, where the next pairs fit
    pub copy_fits : ((j : ℕ) → j < length qs → get_or qs j 0 < size) → get_or ss k 0 * size + size ≤ 4096
        → BlockFits t' at count base other
    copy_fits small fits j l =
        omega (arith, first_block k j some (omega arith) (omega arith) w, small j (omega arith))

    -- a writer of the first block with the next block's base, after writers of the blocks before it
    pub wrote_copied-block : {t'' : List ℕ} {next' : ℕ} → Wrote t' next (words16 (copied t' at count base other)) t'' next'
        → Wrote t at (words16 (row_of size (take (k + 1) ss) qs)) t'' next'
    wrote_copied-block v =
        let same : copied t' at count base other ≡ block other qs =
        ap (λ (n : ℕ). copied t' at n base other) counted
        ∙ copied-block t' qs at base other (λ (j : ℕ) (l : j < length qs).
        first_block k j some (omega arith) l w ∙ ap (λ (b : ℕ). b + get_or qs j 0) (sym first)) in
        wrote_next_block k other less here w (wrote_as (ap words16 same) v)

  -- the row is written once all its blocks are
  pub wrote_row : {t t' : List ℕ} {at next : ℕ} (k : ℕ) → length ss ≤ k
      → Wrote t at (words16 (row_of size (take k ss) qs)) t' next → Wrote t at (words16 (row_of size ss qs)) t' next
  wrote_row k all w = wrote_as (ap (λ (r : List ℕ). words16 (row_of size r qs)) (take_all k ss all)) w

-- without states of the property there are no pairs
row_empty : (size : ℕ) (ss : List ℕ) → row_of size ss [] ≡ []
row_empty size [] = refl
row_empty size (s ∷ ss) = row_empty size ss

-- a row whose blocks are empty is written with the first of them
pub wrote_empty_row : {t t' : List ℕ} {at next : ℕ} (size : ℕ) (ss qs : List ℕ) (base : ℕ) → length qs ≡ 0
    → Wrote t at (words16 (block base qs)) t' next → Wrote t at (words16 (row_of size ss qs)) t' next
wrote_empty_row size ss [] base e w = wrote_as (ap words16 (sym (row_empty size ss))) w
wrote_empty_row size ss (q ∷ qs) base e w = absurd (omega arith)
