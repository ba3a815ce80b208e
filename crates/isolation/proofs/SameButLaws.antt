-- Files that differ in the marks of one table alone: what the rules read is the same, and the model with the other table; and
-- whatever stands in place of those marks, it is such a file.
use Prim.Native.Nat.{ℕ, zero, suc, ◌+◌, ◌*◌, ◌-◌, ◌/◌, ◌%◌, ◌≤◌, ◌<◌}
use mathlib.Core.Path.{◌≡◌, refl, sym, ap, ◌∙◌}
use mathlib.Core.Bool.{Bool, ◌&&◌, ◌||◌, false}
use mathlib.Core.Logic.{inl, inr}
use mathlib.Core.List.{List, ◌++◌}
use native.Mathlib.Omega.{arith}
use lib.ListN.{length, get_or, length-append, get_or-append}
use lib.Seq.{get_or-append-add}
use lib.Dec.{eqb, ltb}
use borrow.Author.Tests.{le-ltb}
use Rattle.lists.specs.Lists.{anyb, up_from}
use Rattle.lists.proofs.Tests.{lt_or_ge, T_false}
use Rattle.format.specs.Bytes.{word, bitb}
use Rattle.format.specs.Layout.{states, edge_count, stays_word, rows_at, edges_at, marks_at, mark_bytes, table_at, total_of, row_targets, mark_bit}
use Rattle.format.specs.Rules.{bad_rows, spare_set, bad_spare, rules}
use Rattle.format.proofs.Reasons.{none_clear}
use Rattle.model.specs.Model.{list_if, with_implied}
use Rattle.isolation.specs.SameBut.{SameBut, OtherMarksFree, SameRefusal, SameGraph}
use Rattle.format.proofs.ReadAlike.{ReadAlike, anyb_alike, row_alike, first_alike}

module _ {other : ℕ} {f f' : List ℕ} (same : SameBut other f f') where
  -- the bytes before the marks are the same
  same_before : (i : ℕ) → i < marks_at (states f) (edge_count f) → get_or f i 0 ≡ get_or f' i 0
  same_before i l = same.same_bytes i (λ (from, to). omega arith)

  -- so are the 16-bit numbers there
  same_word : (at : ℕ) → at + 1 < marks_at (states f) (edge_count f) → word f at ≡ word f' at
  same_word at l = λ i. same_before at (omega arith) i + 256 * same_before (at + 1) l i

  -- N is the same
  same_states : states f ≡ states f'
  same_states = same_word 0 (omega arith)

  -- M is the same
  same_edges : edge_count f ≡ edge_count f'
  same_edges = same_word 2 (omega arith)

  -- bytes 6–7 are the same
  same_stays : stays_word f ≡ stays_word f'
  same_stays = same_word 6 (omega arith)

  -- all that the rules read before the marks is the same
  read_alike : ReadAlike f f'
  read_alike =
      record {
        same_length = same.same_length;
        same_states = same_states;
        same_edges = same_edges;
        same_start = same_word 4 (omega arith);
        same_offset = λ at a b i. same_word at (omega arith) i + 65536 * same_word (at + 2) (omega arith) i;
        same_entry = λ s l. same_word (rows_at + 2 * s) (omega arith);
        same_target = λ e l.
            same_word (edges_at (states f) + 2 * e) (omega arith) ∙ ap (λ (n : ℕ). word f' (edges_at n + 2 * e)) same_states;
      }

  -- what is read of the states alone, and is the same of each state, is the same of each number
  on_states : {A B : Type 0} (read : Bool → A → B) → ((x y : A) → read false x ≡ read false y)
      → (s : ℕ) (x y : A) → (s < states f → x ≡ y) → read (ltb s (states f)) x ≡ read (ltb s (states f')) y
  on_states read past s x y agree =
      elim (lt_or_ge s (states f)) [
        | inl l ↦ λ i. read (ltb s (same_states i)) (agree l i)
        | inr g ↦
            let none : read (ltb s (states f)) x ≡ read (ltb s (states f)) y = rw (le-ltb s (states f) g) (past x y) in
            none ∙ ap (λ (n : ℕ). read (ltb s n) y) same_states
      ]

  -- the edges from each number are the same, if rule 8 is kept
  same_row : bad_rows f ≡ false → (s : ℕ) → list_if (ltb s (states f)) (row_targets f s) ≡ list_if (ltb s (states f')) (row_targets f' s)
  same_row kept s = on_states list_if (λ x y. refl) s (row_targets f s) (row_targets f' s) (row_alike read_alike kept s)

-- a place inside one of two tables of a size is not inside the other, where the one starts at t sizes and the other at 1 − t
apart : (t size k : ℕ) → t ≤ 1 → k < size → (1 - t) * size ≤ t * size + k → t * size + k < (1 - t) * size + size → ⊥
apart zero size k l m from to = omega arith
apart (suc zero) size k l m from to = omega arith
apart (suc (suc t)) size k l m from to = omega arith

module _ {t : ℕ} (limit : t ≤ 1) {f f' : List ℕ} (same : SameBut (1 - t) f f') where
  -- a byte of table t is the same
  same_mark_byte : (k : ℕ) → k < mark_bytes (states f) → let at = table_at (states f) (edge_count f) t + k in get_or f at 0 ≡ get_or f' at 0
  same_mark_byte k l =
      same.same_bytes _ (λ (from, to). apart t (mark_bytes (states f)) k limit l (omega arith) (omega arith))

  -- so is each bit there
  same_bit : (s : ℕ) → s < 8 * mark_bytes (states f) → mark_bit f t s ≡ mark_bit f' t s
  same_bit s l =
      ap (λ (byte : ℕ). bitb byte (s % 8)) (same_mark_byte (s / 8) (omega arith))
      ∙ (λ i. bitb (get_or f' (table_at (same_states same i) (same_edges same i) t + s / 8) 0) (s % 8))

  -- both or neither have a spare bit set there
  same_spare : spare_set f t ≡ spare_set f' t
  same_spare =
      anyb_alike (mark_bit f t) (mark_bit f' t) (states f) (8 * mark_bytes (states f) - states f) (λ s a b. same_bit s (omega arith))
      ∙ ap (λ (n : ℕ). anyb (mark_bit f' t) (up_from n (8 * mark_bytes n - n))) (same_states same)

  -- the marks of all numbers in the model are the same
  same_marked : (s : ℕ) → (ltb s (states f) && mark_bit f t s) ≡ (ltb s (states f') && mark_bit f' t s)
  same_marked s = on_states same ◌&&◌ (λ x y. refl) s (mark_bit f t s) (mark_bit f' t s) (λ l. same_bit s (omega arith))

-- neither has a spare bit set in the other's table
other_clear : {other : ℕ} {f f' : List ℕ} → SameBut other f f' → spare_set f other ≡ spare_set f' other
other_clear same = same.spare_clear ∙ sym same.spare_clear'

-- both or neither break rule 11
eleven_alike : (t : ℕ) → t ≤ 1 → {f f' : List ℕ} → SameBut (1 - t) f f' → bad_spare 2 f ≡ bad_spare 2 f'
eleven_alike zero limit same = λ i. same_spare limit same i || (other_clear same i || false)
eleven_alike (suc zero) limit same = λ i. other_clear same i || (same_spare limit same i || false)
eleven_alike (suc (suc t)) limit same = absurd (omega arith)

pub same_refusal : SameRefusal
same_refusal t limit f f' same =
    first_alike (read_alike same) total_of 2 (λ i. ltb 1 (same_stays same i)) (eleven_alike t limit same)

pub same_graph : SameGraph
same_graph t limit f f' same accepted =
    let kept : bad_rows f ≡ false = T_false (bad_rows f) (none_clear (rules f) accepted).1.1.1.1.1.1.1.0 in
    λ i. record {
      size = same_states same i;
      start = (read_alike same).same_start i;
      succs = λ s. with_implied (eqb (same_stays same i) 1 && ltb s (same_states same i)) s (same_row same kept s i);
      marked = λ s. same_marked limit same s i;
    }

module _ (before middle after : List ℕ) where
  -- the entries of the first part
  part_before : (i : ℕ) → i < length before → get_or (before ++ (middle ++ after)) i 0 ≡ get_or before i 0
  part_before i l = get_or-append before (middle ++ after) 0 i l

  -- the entries of the last part
  part_after : (i k : ℕ) → i ≡ length before + (length middle + k) → get_or (before ++ (middle ++ after)) i 0 ≡ get_or after k 0
  part_after i k e =
      ap (λ (at : ℕ). get_or (before ++ (middle ++ after)) at 0) e
      ∙ get_or-append-add before (middle ++ after) (length middle + k) 0 ∙ get_or-append-add middle after k 0

pub other_marks_free : OtherMarksFree
other_marks_free other before marks marks' after from size size' clear clear' =
    record {
      same_length = simp length-append (omega arith);
      same_bytes = λ i outside.
          elim (lt_or_ge i (length before)) [
            | inl l ↦ part_before before marks after i l ∙ sym (part_before before marks' after i l)
            | inr g ↦ elim (lt_or_ge i (length before + length marks)) [
              | inl m ↦ absurd (outside (omega arith))
              | inr h ↦
                  let k : ℕ = i - (length before + length marks) in
                  part_after before marks after i k (omega arith) ∙ sym (part_after before marks' after i k (omega arith))
            ]
          ];
      spare_clear = clear;
      spare_clear' = clear';
    }
