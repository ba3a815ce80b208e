-- No accepted file is longer than 25,626 bytes, since its numbers of states and edges are limited and it has at most two mark
-- tables; and a file of 4,096 states, each with edges to states 0 and 1, and two mark tables without marks is as long.
use Prim.Native.Nat.{ℕ, suc, ◌+◌, ◌*◌, ◌-◌, ◌/◌, ◌%◌, ◌≤◌, ◌<◌}
use mathlib.Core.Path.{◌≡◌, refl, sym, ap, subst, ◌∙◌}
use mathlib.Core.Bool.{Bool, not}
use mathlib.Core.Logic.{inr}
use mathlib.Core.List.{List, [], ◌∷◌, map}
use native.Mathlib.Omega.{arith}
use borrow.Author.Tests.{lt-ltb, le-ltb, eq-eqb, ne_eqb}
use lib.ListN.{length, get_or}
use lib.Dec.{T, eqb, ltb, nltb→le}
use Rattle.lists.specs.Lists.{pick, anyb, up_from, below, ascendingb}
use Rattle.lists.proofs.BelowLaws.{map-below-length, map-below_at}
use Rattle.numbers.specs.Limits.{longest_file}
use Rattle.format.specs.Bytes.{word, long}
use Rattle.format.specs.Layout.{states, edge_count, start_of, stays_word, edges_at, mark_bytes, total_of, row_entry, target, row_targets}
use Rattle.format.specs.Rules.{rules, Accepted, short_file, bad_states, bad_edges, bad_start, bad_stays, bad_offsets, bad_length, bad_rows, bad_targets, bad_order, bad_spare}
use Rattle.lists.proofs.Fails.{false_not, neither, passes, same_passes, le_fails, lt_passes, none_below_passes}
use Rattle.format.proofs.Reasons.{none_clear}
use Rattle.format.proofs.Kept.{states_kept, length_kept}
use Rattle.format.proofs.Marks.{one_table, one_or_two_totals, spare_of_both_tables}
use Rattle.writer.proofs.RuleLaws.{clear_unbroken}
use Rattle.input_sizes.specs.Sizes.{LongestFile}

-- a file that keeps 2, 3, 6 and 7 is not longer
pub kept_within : (f : List ℕ) → T (not (bad_states f)) → T (not (bad_edges f)) → T (not (bad_offsets (total_of (states f) (edge_count f)) 2 f))
    → T (not (bad_length f)) → length f ≤ longest_file
kept_within f rule2 rule3 rule6 rule7 =
    let n = states_kept f rule2 in
    let m = nltb→le 8192 (edge_count f) rule3 in
    let (t, few, long) = length_kept (total_of (states f) (edge_count f)) 2 f rule6 rule7 in
    omega (arith, n, m, long, one_table t (mark_bytes (states f)) (omega arith))

-- so is an accepted one
at_most : (f : List ℕ) → Accepted f → length f ≤ longest_file
at_most f accepted =
    let from2 = (none_clear (rules f) accepted).1 in
    let from6 = from2.1.1.1.1 in
    kept_within f from2.0 from2.1.0 from6.0 from6.1.0

-- the byte at a place of a file, by its 16-bit numbers
abbrev byte_of : (ℕ → ℕ) → ℕ → ℕ
byte_of number i = pick (eqb (i % 2) 0) (number (i / 2) % 256) (number (i / 2) / 256)

-- the bytes of a number stand at twice its place and after it
low_byte : (number : ℕ → ℕ) (k : ℕ) → byte_of number (2 * k) ≡ number k % 256
low_byte number k =
    ap (λ (b : Bool). pick b (number (2 * k / 2) % 256) (number (2 * k / 2) / 256)) (eq-eqb (2 * k % 2) 0 (omega arith))
    ∙ (let same : 2 * k / 2 ≡ k = omega arith in ap (λ (j : ℕ). number j % 256) same)

high_byte : (number : ℕ → ℕ) (k : ℕ) → byte_of number (2 * k + 1) ≡ number k / 256
high_byte number k =
    ap (λ (b : Bool). pick b (number ((2 * k + 1) / 2) % 256) (number ((2 * k + 1) / 2) / 256)) (ne_eqb ((2 * k + 1) % 2) 0 (omega arith))
    ∙ (let same : (2 * k + 1) / 2 ≡ k = omega arith in ap (λ (j : ℕ). number j / 256) same)

-- so a file of these bytes has these numbers
number_at : (number : ℕ → ℕ) (size k : ℕ) → 2 * k + 1 < size → word (map (byte_of number) (below size)) (2 * k) ≡ number k
number_at number size k inside =
    let low = map-below_at (byte_of number) size (2 * k) (omega arith) ∙ low_byte number k in
    let high = map-below_at (byte_of number) size (2 * k + 1) inside ∙ high_byte number k in
    (λ i. low i + 256 * high i) ∙ omega arith

-- the numbers of a longest file: a header, the row entries 2 × s, targets 0 and 1 by turns, and no marks
abbrev header : List ℕ
header = 4096 ∷ 8192 ∷ 0 ∷ 0 ∷ 24 ∷ 0 ∷ 8218 ∷ 0 ∷ 24602 ∷ 0 ∷ 25626 ∷ 0 ∷ []

abbrev number_of : ℕ → ℕ
number_of k = pick (ltb k 12) (get_or header k 0) (pick (ltb k 4109) (2 * (k - 12)) (pick (ltb k 12301) ((k - 4109) % 2) 0))

-- a number of the row table
row_number : (s : ℕ) → s ≤ 4096 → number_of (12 + s) ≡ 2 * s
row_number s within = rw (le-ltb (12 + s) 12 (omega arith), lt-ltb (12 + s) 4109 (omega arith)) (omega arith)

-- a number of the edge table
edge_number : (e : ℕ) → e < 8192 → number_of (4109 + e) ≡ e % 2
edge_number e within =
    rw (le-ltb (4109 + e) 12 (omega arith), le-ltb (4109 + e) 4109 (omega arith), lt-ltb (4109 + e) 12301 (omega arith)) (omega arith)

-- a file of that length with those numbers is accepted
module _ (f : List ℕ) (length_is : length f ≡ longest_file) (number : (k : ℕ) → k < 12813 → word f (2 * k) ≡ number_of k) where
  states_are : states f ≡ 4096
  states_are = number 0 (omega arith)

  edges_are : edge_count f ≡ 8192
  edges_are = number 1 (omega arith)

  -- a 32-bit number whose upper half is zero
  offset : (k low : ℕ) → k + 1 < 12813 → number_of k ≡ low → number_of (k + 1) ≡ 0 → long f (2 * k) ≡ low
  offset k low inside lower upper =
      let next : 2 * k + 2 ≡ 2 * (k + 1) = omega arith in
      let high : word f (2 * k + 2) ≡ 0 = ap (λ (at : ℕ). word f at) next ∙ number (k + 1) inside ∙ upper in
      omega (arith, number k (omega arith) ∙ lower, high)

  -- the row entries
  entry_is : (s : ℕ) → s ≤ 4096 → row_entry f s ≡ 2 * s
  entry_is s within =
      let at : 24 + 2 * s ≡ 2 * (12 + s) = omega arith in
      ap (λ (k : ℕ). word f k) at ∙ number (12 + s) (omega arith) ∙ row_number s within

  -- the targets
  target_is : (e : ℕ) → e < 8192 → target f e ≡ e % 2
  target_is e within =
      let at : edges_at (states f) + 2 * e ≡ 2 * (4109 + e) = omega (arith, states_are) in
      ap (λ (k : ℕ). word f k) at ∙ number (4109 + e) (omega arith) ∙ edge_number e within

  -- the targets of a row are 0 and 1
  row_is : (s : ℕ) → s < 4096 → row_targets f s ≡ 0 ∷ 1 ∷ []
  row_is s within =
      let two : row_entry f (s + 1) - row_entry f s ≡ 2 = omega (arith, entry_is s (omega arith), entry_is (s + 1) (omega arith)) in
      let first : target f (2 * s) ≡ 0 = target_is (2 * s) (omega arith) ∙ omega arith in
      let second : target f (suc (2 * s)) ≡ 1 = target_is (suc (2 * s)) (omega arith) ∙ omega arith in
      (λ i. map (λ (e : ℕ). word f (edges_at (states f) + 2 * e)) (up_from (entry_is s (omega arith) i) (two i)))
      ∙ (λ i. first i ∷ second i ∷ [])

  accepted : Accepted f
  accepted =
      let rule1 : T (not (short_file f)) = le_fails (length f) 24 (omega arith) in
      let rule2 : T (not (bad_states f)) = rw states_are tt in
      let rule3 : T (not (bad_edges f)) = le_fails 8192 (edge_count f) (omega (arith, edges_are)) in
      let rule4 : T (not (bad_start f)) = lt_passes (start_of f) (states f) (omega (arith, states_are, number 2 (omega arith))) in
      let rule5 : T (not (bad_stays f)) = le_fails 1 (stays_word f) (omega (arith, number 3 (omega arith))) in
      let total : long f 20 ≡ 25626 = offset 10 25626 (omega arith) refl refl in
      let rule6 : T (not (bad_offsets (total_of (states f) (edge_count f)) 2 f)) =
      false_not (bad_offsets (total_of (states f) (edge_count f)) 2 f) ((one_or_two_totals f).1 (
        offset 4 24 (omega arith) refl refl,
        offset 6 8218 (omega arith) refl refl ∙ omega (arith, states_are),
        offset 8 24602 (omega arith) refl refl ∙ omega (arith, states_are, edges_are),
        inr (omega (arith, total, states_are, edges_are)),
      )) in
      let rule7 : T (not (bad_length f)) = same_passes (length f) (long f 20) (omega (arith, length_is, total)) in
      let falls : T (not (anyb (λ s. ltb (row_entry f (s + 1)) (row_entry f s)) (below (states f)))) =
      none_below_passes (λ s. ltb (row_entry f (s + 1)) (row_entry f s)) (states f) (λ s l.
      le_fails (row_entry f (s + 1)) (row_entry f s) (omega (arith, states_are, entry_is s (omega (arith, states_are)), entry_is (s + 1) (omega (arith, states_are))))) in
      let first : T (not (not (eqb (row_entry f 0) 0))) = same_passes (row_entry f 0) 0 (entry_is 0 (omega arith)) in
      let last : T (not (not (eqb (row_entry f (states f)) (edge_count f)))) =
      same_passes (row_entry f (states f)) (edge_count f) (omega (arith, states_are, edges_are, entry_is (states f) (omega (arith, states_are)))) in
      let rule8 : T (not (bad_rows f)) = search neither in
      let rule9 : T (not (bad_targets f)) =
      none_below_passes (λ e. not (ltb (target f e) (states f))) (edge_count f) (λ e l.
      lt_passes (target f e) (states f) (omega (arith, states_are, target_is e (omega (arith, edges_are))))) in
      let rule10 : T (not (bad_order f)) =
      none_below_passes (λ s. not (ascendingb (row_targets f s))) (states f) (λ s l.
      passes (ascendingb (row_targets f s)) (subst (λ (xs : List ℕ). T (ascendingb xs)) (sym (row_is s (omega (arith, states_are)))) tt)) in
      let rule11 : T (not (bad_spare 2 f)) =
      false_not (bad_spare 2 f) ((spare_of_both_tables f).1 (λ t l s from to. absurd (omega (arith, states_are)))) in
      clear_unbroken (rules f) (rule1, (rule2, (rule3, (rule4, (rule5, (rule6, (rule7, (rule8, (rule9, (rule10, (rule11, tt)))))))))))

-- a longest file
longest : List ℕ
longest = map (byte_of number_of) (below longest_file)

pub longest_file_lem : LongestFile
unfolding longest
longest_file_lem =
    let size : length longest ≡ longest_file = map-below-length (byte_of number_of) longest_file in
    record {
      at_most = λ f accepted. omega (arith, at_most f accepted);
      reached = (longest, accepted longest size (λ k inside. number_at number_of longest_file k (omega arith)), omega (arith, size));
    }
