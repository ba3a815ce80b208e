-- The first 25,627 bytes of a file decide which of 1 to 11 it breaks first: of a longer file 7 holds, unless an earlier
-- reason does, and those before 7 look at the header alone.
use Prim.Native.Nat.{ℕ, ◌+◌, ◌*◌, ◌≤◌, ◌<◌}
use mathlib.Core.Path.{◌≡◌, refl, sym, ◌∙◌, ap}
use mathlib.Core.Bool.{Bool, true, false, ◌||◌, not}
use mathlib.Core.List.{List, [], ◌∷◌, ◌++◌}
use mathlib.Core.Option.{Option, some, none}
use native.Mathlib.Omega.{arith}
use borrow.Author.Tests.{le-ltb}
use lib.ListN.{length, get_or, take, drop}
use lib.Seq.{get_or-take, length-take-le}
use lib.Dec.{eqb, ltb}
use Rattle.lists.specs.Lists.{anyb, below, some_if}
use Rattle.numbers.specs.Limits.{file_bytes}
use Rattle.format.specs.Bytes.{word, long}
use Rattle.format.specs.Layout.{states, edge_count, start_of, rows_at, edges_at, marks_at, mark_bytes, total_of}
use Rattle.format.specs.Rules.{Reason, rules, first_broken, short_file, bad_states, bad_edges, bad_start, bad_stays, bad_offsets, bad_length}
use Rattle.lists.proofs.Fails.{false_not}
use Rattle.format.proofs.Reasons.{none_clear, clear_append, broken_append}
use Rattle.input_sizes.proofs.LongestLaws.{kept_within}

-- 7, as a reason that holds
abbrev seven : List Reason
seven = record { number = 7; holds = true } ∷ []

-- 6, by the total lengths that the file's own numbers give with one mark table or with two
abbrev bad_own : List ℕ → Bool
bad_own f = bad_offsets (total_of (states f) (edge_count f)) 2 f

-- the reasons 1 to 6
abbrev first_six : List ℕ → List Reason
first_six f = take 6 (rules f)

-- the file is longer than its header says, if it is longer than every file and 1 to 6 do not hold
longer : (f : List ℕ) → file_bytes ≤ length f → first_broken (first_six f) ≡ none → bad_length f ≡ true
longer f more e =
    let from2 = (none_clear (first_six f) e).1 in
    elim (bad_length f) as (λ b. bad_length f ≡ b → b ≡ true) [
      | true ↦ λ q. refl
      | false ↦ λ q.
          let within = kept_within f from2.0 from2.1.0 from2.1.1.1.1.0 (false_not (bad_length f) q) in
          absurd (omega (arith, within))
    ] refl

-- the first reason of such a file is one of 1 to 6, or 7
long_refused : (f : List ℕ) → file_bytes ≤ length f → first_broken (rules f) ≡ first_broken (first_six f ++ seven)
long_refused f more = go (first_broken (first_six f)) refl
  where
    go : (o : Option ℕ) → first_broken (first_six f) ≡ o → first_broken (rules f) ≡ first_broken (first_six f ++ seven)
    go (some n) e =
        broken_append (first_six f) (drop 6 (rules f)) n e ∙ sym (broken_append (first_six f) seven n e)
    go none e =
        clear_append (first_six f) (drop 6 (rules f)) e
        ∙ ap (λ (b : Bool). some_if b 7 (first_broken (drop 7 (rules f)))) (longer f more e)
        ∙ sym (clear_append (first_six f) seven e)

-- the number of the first of six reasons that holds, or 7
abbrev six : (a b c d e g : Bool) → Option ℕ
six a b c d e g = some_if a 1 (some_if b 2 (some_if c 3 (some_if d 4 (some_if e 5 (some_if g 6 (some 7))))))

-- it is some number
some_if_some : (b : Bool) (n : ℕ) (o : Option ℕ) → (m : ℕ) × (o ≡ some m) → (m : ℕ) × (some_if b n o ≡ some m)
some_if_some true n o h = (n, refl)
some_if_some false n o h = h

six_some : (a b c d e g : Bool) → (m : ℕ) × (six a b c d e g ≡ some m)
six_some a b c d e g =
    some_if_some a 1 _ (some_if_some b 2 _ (some_if_some c 3 _ (some_if_some d 4 _ (some_if_some e 5 _ (some_if_some g 6 _ (7, refl))))))

-- 6 by the numbers that it looks at
abbrev offsets_bad : (n m rows edges marks total : ℕ) → Bool
offsets_bad n m rows edges marks total =
    not (eqb rows rows_at) || (not (eqb edges (edges_at n)) || (not (eqb marks (marks_at n m)) ||
    not (anyb (λ t. eqb total (total_of n m + t * mark_bytes n)) (below 2))))

module _ (k : ℕ) (f : List ℕ) where
  -- a number in the part that is taken
  word-take : (at : ℕ) → at + 1 < k → word (take k f) at ≡ word f at
  word-take at less =
      ap (λ (x : ℕ). x + 256 * get_or (take k f) (at + 1) 0) (get_or-take k f at 0 (omega arith))
      ∙ ap (λ (y : ℕ). get_or f at 0 + 256 * y) (get_or-take k f (at + 1) 0 less)

  long-take : (at : ℕ) → at + 3 < k → long (take k f) at ≡ long f at
  long-take at less =
      ap (λ (x : ℕ). x + 65536 * word (take k f) (at + 2)) (word-take at (omega arith))
      ∙ ap (λ (y : ℕ). word f at + 65536 * y) (word-take (at + 2) (omega arith))

  -- 1 to 6 look at the header alone
  six_take : 24 ≤ k → k ≤ length f → first_broken (first_six (take k f) ++ seven) ≡ first_broken (first_six f ++ seven)
  six_take head fits =
      let n : states (take k f) ≡ states f = word-take 0 (omega arith) in
      let m : edge_count (take k f) ≡ edge_count f = word-take 2 (omega arith) in
      let rows = long-take 8 (omega arith) in
      let edges = long-take 12 (omega arith) in
      let marks = long-take 16 (omega arith) in
      let total = long-take 20 (omega arith) in
      let short : short_file (take k f) ≡ short_file f =
      le-ltb (length (take k f)) 24 (omega (arith, length-take-le k f fits)) ∙ sym (le-ltb (length f) 24 (omega arith)) in
      let b2 : bad_states (take k f) ≡ bad_states f = ap (λ (x : ℕ). eqb x 0 || ltb 4096 x) n in
      let b3 : bad_edges (take k f) ≡ bad_edges f = ap (λ (x : ℕ). ltb 8192 x) m in
      let b4 : bad_start (take k f) ≡ bad_start f =
      ap (λ (x : ℕ). not (ltb x (states (take k f)))) (word-take 4 (omega arith)) ∙ ap (λ (x : ℕ). not (ltb (start_of f) x)) n in
      let b5 : bad_stays (take k f) ≡ bad_stays f = ap (λ (x : ℕ). ltb 1 x) (word-take 6 (omega arith)) in
      let b6 : bad_own (take k f) ≡ bad_own f =
      ap (λ (x : ℕ). offsets_bad x (edge_count (take k f)) (long (take k f) 8) (long (take k f) 12) (long (take k f) 16) (long (take k f) 20)) n
      ∙ ap (λ (x : ℕ). offsets_bad (states f) x (long (take k f) 8) (long (take k f) 12) (long (take k f) 16) (long (take k f) 20)) m
      ∙ ap (λ (x : ℕ). offsets_bad (states f) (edge_count f) x (long (take k f) 12) (long (take k f) 16) (long (take k f) 20)) rows
      ∙ ap (λ (x : ℕ). offsets_bad (states f) (edge_count f) (long f 8) x (long (take k f) 16) (long (take k f) 20)) edges
      ∙ ap (λ (x : ℕ). offsets_bad (states f) (edge_count f) (long f 8) (long f 12) x (long (take k f) 20)) marks
      ∙ ap (λ (x : ℕ). offsets_bad (states f) (edge_count f) (long f 8) (long f 12) (long f 16) x) total in
      ap (λ (b : Bool). six b (bad_states (take k f)) (bad_edges (take k f)) (bad_start (take k f)) (bad_stays (take k f)) (bad_own (take k f))) short
      ∙ ap (λ (b : Bool). six (short_file f) b (bad_edges (take k f)) (bad_start (take k f)) (bad_stays (take k f)) (bad_own (take k f))) b2
      ∙ ap (λ (b : Bool). six (short_file f) (bad_states f) b (bad_start (take k f)) (bad_stays (take k f)) (bad_own (take k f))) b3
      ∙ ap (λ (b : Bool). six (short_file f) (bad_states f) (bad_edges f) b (bad_stays (take k f)) (bad_own (take k f))) b4
      ∙ ap (λ (b : Bool). six (short_file f) (bad_states f) (bad_edges f) (bad_start f) b (bad_own (take k f))) b5
      ∙ ap (λ (b : Bool). six (short_file f) (bad_states f) (bad_edges f) (bad_start f) (bad_stays f) b) b6

-- the number that refuses a file longer than every file
long_number : (f : List ℕ) → (n : ℕ) × (first_broken (first_six f ++ seven) ≡ some n)
long_number f = six_some (short_file f) (bad_states f) (bad_edges f) (bad_start f) (bad_stays f) (bad_own f)

-- a file of k bytes or more is refused with the same number as its first k bytes, if k is more than the longest file has
pub cut_refused : (k : ℕ) (f : List ℕ) → file_bytes ≤ k → k ≤ length f
    → (n : ℕ) × (first_broken (rules (take k f)) ≡ some n) × (first_broken (rules f) ≡ some n)
cut_refused k f enough more =
    let (n, same) = long_number f in
    let front : List ℕ = take k f in (
      n,
      long_refused front (omega (arith, length-take-le k f more)) ∙ six_take k f (omega arith) more ∙ same,
      long_refused f (omega arith) ∙ same,
    )
