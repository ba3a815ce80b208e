-- Where the mark tables stand, which totals they give, and that no bit past the end of a file is set.
use Prim.Native.Nat.{ℕ, ◌+◌, ◌*◌, ◌-◌, ◌/◌, ◌%◌, ◌≤◌, ◌<◌}
use mathlib.Core.Path.{◌≡◌, ap, subst, ◌∙◌}
use mathlib.Core.Bool.{false, ◌||◌, not}
use mathlib.Core.Logic.{inl, inr}
use mathlib.Core.List.{List}
use native.Mathlib.Omega.{arith}
use native.Mathlib.Nat.{div-eq_of_lt, mul-le-mul_right}
use borrow.Author.Tests.{eq-eqb}
use lib.ListN.{length, get_or, get_or-eq_default}
use lib.Dec.{T, eqb, eqb→eq}
use lib.Pow.{pow_pos}
use Rattle.lists.specs.Lists.{up_from, below}
use Rattle.lists.proofs.Tests.{either, or_l, or_r, decide, T_true, T_false, eq→eqb, anyb_some, up_from_range, below_lt}
use Rattle.format.specs.Bytes.{long, bitb}
use Rattle.format.specs.Layout.{states, edge_count, rows_at, edges_at, marks_at, mark_bytes, total_of, table_at, mark_bit}
use Rattle.format.specs.Rules.{total_fits, bad_offsets, spare_set, bad_spare}
use Rattle.format.specs.Marks.{OneOrTwoTables, OneOrTwoTotals, SpareOfBothTables, OneTableNoMarks}
use Rattle.lists.proofs.Fails.{kept, false_not}
use Rattle.format.proofs.Kept.{spare_kept}

-- no bit of 0 is set
no_bit : (b : ℕ) → bitb 0 b ≡ false
no_bit b = ap (λ (q : ℕ). eqb (q % 2) 1) (div-eq_of_lt (pow_pos b))

-- no bit of a byte past the end is set
pub past_end : (f : List ℕ) (at b : ℕ) → length f ≤ at → bitb (get_or f at 0) b ≡ false
past_end f at b l = ap (λ (byte : ℕ). bitb byte b) (get_or-eq_default f 0 l) ∙ no_bit b

-- the first two mark tables start at most one table's size apart
pub one_table : (t size : ℕ) → t ≤ 1 → t * size ≤ size
one_table t size l = omega (arith, mul-le-mul_right size l)

-- a mark table starts where a 16-bit number reaches
pub table_within : {n m t : ℕ} → n ≤ 4096 → m ≤ 8192 → t ≤ 1 → table_at n m t ≤ 65535
table_within {n} {m} {t} a b l = omega (arith, one_table t (mark_bytes n) l)

module _ (f : List ℕ) where
  -- the total length, that with one mark table, and a table's size
  abbrev total : ℕ
  total = long f 20

  abbrev one : ℕ
  one = total_of (states f) (edge_count f)

  abbrev size : ℕ
  size = mark_bytes (states f)

  -- a total that fits up to two tables is the one or the other
  fits_one_or_two : T (total_fits one 2 f) → OneOrTwoTables f
  fits_one_or_two fits =
      elim (either (eqb total (one + 0 * size)) (eqb total (one + 1 * size) || false) fits) [
        | inl first ↦ inl (eqb→eq total (one + 0 * size) first ∙ omega arith)
        | inr later ↦ elim (either (eqb total (one + 1 * size)) false later) [
          | inl second ↦ inr (eqb→eq total (one + 1 * size) second ∙ omega arith)
          | inr none ↦ absurd none
        ]
      ]

  -- and these two fit
  one_or_two_fits : OneOrTwoTables f → T (total_fits one 2 f)
  one_or_two_fits is = elim is [
    | inl first ↦ or_l (eqb total (one + 0 * size)) (eqb total (one + 1 * size) || false) (eq→eqb total (one + 0 * size) (first ∙ omega arith))
    | inr second ↦ or_r (eqb total (one + 0 * size)) (eqb total (one + 1 * size) || false)
        (or_l (eqb total (one + 1 * size)) false (eq→eqb total (one + 1 * size) (second ∙ omega arith)))
  ]

pub one_or_two_totals : OneOrTwoTotals
one_or_two_totals f = (
  λ clear.
      let keeps : T (not (bad_offsets (one f) 2 f)) = false_not (bad_offsets (one f) 2 f) clear in
      let rows : long f 8 ≡ rows_at = search (kept, eqb→eq) in
      let edges : long f 12 ≡ edges_at (states f) = search (kept, eqb→eq) in
      let marks : long f 16 ≡ marks_at (states f) (edge_count f) = search (kept, eqb→eq) in
      let fits : T (total_fits (one f) 2 f) = search kept in
      (rows, edges, marks, fits_one_or_two f fits),
  λ (rows, edges, marks, is).
      rw (
        eq-eqb (long f 8) rows_at rows,
        eq-eqb (long f 12) (edges_at (states f)) edges,
        eq-eqb (long f 16) (marks_at (states f) (edge_count f)) marks,
        T_true (total_fits (one f) 2 f) (one_or_two_fits f is),
      ),
)

pub spare_of_both_tables : SpareOfBothTables
spare_of_both_tables f = (
  λ clear t l s from to.
      T_false (mark_bit f t s) (spare_kept 2 f (false_not (bad_spare 2 f) clear) t (omega arith) s from to),
  λ none. elim (decide (bad_spare 2 f)) [
    | inl set ↦
        let (t, among, at) = anyb_some (spare_set f) (below 2) set in
        let (s, within, bit) = anyb_some (mark_bit f t) (up_from (states f) (8 * size f - states f)) at in
        let range = up_from_range (states f) (8 * size f - states f) within in
        let less : t < 2 = below_lt 2 among in
        let not_set : mark_bit f t s ≡ false = none t (omega arith) s range.0 (omega (arith, range)) in
        absurd (subst T not_set bit)
    | inr clear ↦ T_false (bad_spare 2 f) clear
  ],
)

pub one_table_no_marks : OneTableNoMarks
one_table_no_marks f e s = past_end f (table_at (states f) (edge_count f) 1 + s / 8) (s % 8) (omega arith)
