-- How a file is shown to be accepted: by plain facts about its numbers, each of which makes the test of a rule fail.
use Prim.Native.Nat.{ℕ, ◌+◌, ◌*◌, ◌-◌, ◌≤◌, ◌<◌}
use mathlib.Core.Path.{◌≡◌, refl, sym, ap, ◌∙◌}
use mathlib.Core.Bool.{Bool, false, ◌||◌, not}
use mathlib.Core.List.{List, [], ◌∷◌}
use mathlib.Core.Option.{none}
use native.Mathlib.Omega.{arith}
use lib.ListN.{length, drop}
use lib.Dec.{T, eqb, ltb, eqb→eq, not_T}
use Rattle.lists.proofs.Fails.{neither, passes, same_passes, le_fails, lt_passes, none_in_range, none_below_passes}
use Rattle.lists.specs.Lists.{anyb, below, some_if, ascendingb}
use Rattle.lists.proofs.Tests.{or_l, eq→eqb, T_false}
use Rattle.format.specs.Bytes.{long}
use Rattle.format.specs.Layout.{states, edge_count, start_of, stays_word, rows_at, edges_at, marks_at, mark_bytes, total_of, row_entry, target, row_targets, mark_bit}
use Rattle.format.specs.Rules.{Reason, first_broken, short_file, bad_states, bad_edges, bad_start, bad_stays, total_fits, bad_offsets, bad_length, bad_rows, bad_targets, bad_order, spare_set, bad_spare, rules, Accepted}
use Rattle.format.proofs.Marks.{one_table_no_marks}
use Rattle.format.proofs.Reasons.{Clear}
use Rattle.model.proofs.Laws.{Facts}

-- in a clear table there is no first reason that holds
pub clear_unbroken : (rs : List Reason) → Clear rs → first_broken rs ≡ none
clear_unbroken [] c = refl
clear_unbroken (r ∷ rs) c =
    ap (λ (b : Bool). some_if b r.number (first_broken rs)) (T_false r.holds c.0) ∙ clear_unbroken rs c.1

-- what the rules ask of the header and the length of a file with one mark table
pub record LaidOut (f : List ℕ) : Type 0 where
  pub stays_word_zero : stays_word f ≡ 0
  pub rows_at : long f 8 ≡ rows_at
  pub edges_at : long f 12 ≡ edges_at (states f)
  pub marks_at : long f 16 ≡ marks_at (states f) (edge_count f)
  pub total_is : long f 20 ≡ total_of (states f) (edge_count f)
  pub length_is : length f ≡ total_of (states f) (edge_count f)

module _ (f : List ℕ) (F : Facts f) (L : LaidOut f) where
  -- rule 1 is kept: the file has a header
  keeps_room : T (not (short_file f))
  keeps_room = le_fails (length f) 24 (omega (arith, L.length_is))

  -- rule 2 is kept: the number of states is 1 to 4,096
  keeps_states : T (not (bad_states f))
  keeps_states =
      neither (eqb (states f) 0) (ltb 4096 (states f))
      (not_T (eqb (states f) 0) (λ t. omega (arith, eqb→eq (states f) 0 t, F.states_range)))
      (le_fails 4096 (states f) F.states_range.1)

  -- rule 3 is kept: the number of edges is at most 8,192
  keeps_edges : T (not (bad_edges f))
  keeps_edges = le_fails 8192 (edge_count f) F.edges_range

  -- rule 4 is kept: the initial state is below N
  keeps_start_of : T (not (bad_start f))
  keeps_start_of = lt_passes (start_of f) (states f) F.start_below

  -- rule 5 is kept: bytes 6–7 are zero, so not above 1
  keeps_stays_word : T (not (bad_stays f))
  keeps_stays_word = le_fails 1 (stays_word f) (omega (arith, L.stays_word_zero))

  -- rule 6 is kept: the offsets and the total length are those that N and M give with one mark table
  keeps_offsets : T (not (bad_offsets (total_of (states f) (edge_count f)) 2 f))
  keeps_offsets =
      let n : ℕ = states f in
      let m : ℕ = edge_count f in
      let a : T (not (not (eqb (long f 8) rows_at))) = same_passes (long f 8) rows_at L.rows_at in
      let b : T (not (not (eqb (long f 12) (edges_at n)))) = same_passes (long f 12) (edges_at n) L.edges_at in
      let c : T (not (not (eqb (long f 16) (marks_at n m)))) = same_passes (long f 16) (marks_at n m) L.marks_at in
      let with : ℕ → Bool = λ t. eqb (long f 20) (total_of n m + t * mark_bytes n) in
      let one : T (with 0) = eq→eqb (long f 20) (total_of n m + 0 * mark_bytes n) (omega (arith, L.total_is)) in
      let d : T (not (not (total_fits (total_of n m) 2 f))) = passes (total_fits (total_of n m) 2 f) (or_l (with 0) (with 1 || false) one) in
      search neither

  -- rule 7 is kept: the file has its total length
  keeps_length : T (not (bad_length f))
  keeps_length = same_passes (length f) (long f 20) (L.length_is ∙ sym L.total_is)

  -- rule 8 is kept: the row entries go from 0 to M and do not fall
  keeps_rows : T (not (bad_rows f))
  keeps_rows =
      let falls : ℕ → Bool = λ s. ltb (row_entry f (s + 1)) (row_entry f s) in
      let a : T (not (not (eqb (row_entry f 0) 0))) = same_passes (row_entry f 0) 0 F.row_first in
      let b : T (not (anyb falls (below (states f)))) =
      none_below_passes falls (states f) (λ s l. le_fails (row_entry f (s + 1)) (row_entry f s) (F.rows_ascend s l)) in
      let c : T (not (not (eqb (row_entry f (states f)) (edge_count f)))) = same_passes (row_entry f (states f)) (edge_count f) F.row_last in
      search neither

  -- rule 9 is kept: each target is below N
  keeps_targets : T (not (bad_targets f))
  keeps_targets =
      none_below_passes (λ (e : ℕ). not (ltb (target f e) (states f))) (edge_count f)
      (λ e l. lt_passes (target f e) (states f) (F.targets_below e l))

  -- rule 10 is kept: the targets in each row ascend
  keeps_order : T (not (bad_order f))
  keeps_order =
      none_below_passes (λ (s : ℕ). not (ascendingb (row_targets f s))) (states f)
      (λ s l. passes (ascendingb (row_targets f s)) (F.targets_ascend s l))

  -- no bit of mark table 1 is set, which would lie past the end
  pub second_clear : (s : ℕ) → mark_bit f 1 s ≡ false
  second_clear s = one_table_no_marks f L.length_is s

  -- rule 11 is kept: no spare bit is set
  keeps_spare : T (not (bad_spare 2 f))
  keeps_spare = (neither (spare_set f 0) (spare_set f 1 || false) (clear_table 0 F.spare_clear)
      (neither (spare_set f 1) false (clear_table 1 (λ s l m. rw (second_clear s) tt)) tt))
    where
      clear_table : (t : ℕ) → ((s : ℕ) → states f ≤ s → s < 8 * mark_bytes (states f) → T (not (mark_bit f t s))) → T (not (spare_set f t))
      clear_table t h = none_in_range (mark_bit f t) (states f) (8 * mark_bytes (states f) - states f) (λ s l m. h s l (omega arith))

  -- rules 6 to 11 are kept
  tables_clear : Clear (drop 5 (rules f))
  tables_clear = (keeps_offsets, (keeps_length, (keeps_rows, (keeps_targets, (keeps_order, (keeps_spare, tt))))))

  -- a file with these facts is accepted
  pub facts_accepted : Accepted f
  facts_accepted =
      clear_unbroken (rules f) (keeps_room, (keeps_states, (keeps_edges, (keeps_start_of, (keeps_stays_word, tables_clear)))))
