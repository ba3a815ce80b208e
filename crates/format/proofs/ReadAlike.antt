-- Two files in which the rules read the same numbers: the same rule is the first that each breaks, and their rows are the same.
use Prim.Native.Nat.{ℕ, zero, suc, ◌+◌, ◌*◌, ◌-◌, ◌≤◌, ◌<◌}
use mathlib.Core.Path.{◌≡◌, refl, ap, ◌∙◌}
use mathlib.Core.Bool.{Bool, true, false, ◌||◌, not}
use mathlib.Core.List.{List, ◌∷◌, map}
use mathlib.Core.Option.{Option, none}
use native.Mathlib.Omega.{arith}
use native.Mathlib.Nat.{le_refl}
use lib.ListN.{length}
use lib.Dec.{T, eqb, ltb}
use Rattle.lists.specs.Lists.{anyb, up_from, below, some_if, ascendingb}
use Rattle.format.specs.Bytes.{long}
use Rattle.format.specs.Layout.{states, edge_count, start_of, rows_at, edges_at, marks_at, mark_bytes, row_entry, target, row_targets}
use Rattle.format.specs.Rules.{first_broken, bad_stays, bad_offsets, bad_rows, bad_targets, bad_order, bad_spare, rules_with}
use Rattle.lists.proofs.Fails.{false_not}
use Rattle.format.proofs.Kept.{rows_ascend_kept, row_last_kept, row_end_within}

-- tests that agree on a range find a number of it alike
pub anyb_alike : (p q : ℕ → Bool) (a n : ℕ) → ((x : ℕ) → a ≤ x → x < a + n → p x ≡ q x) → anyb p (up_from a n) ≡ anyb q (up_from a n)
anyb_alike p q a zero same = refl
anyb_alike p q a (suc n) same =
    let rest : anyb p (up_from (suc a) n) ≡ anyb q (up_from (suc a) n) =
    anyb_alike p q (suc a) n (λ x l m. same x (omega arith) (omega arith)) in
    λ i. same a (le_refl a) (omega arith) i || rest i

-- so it is of the numbers below n
below_alike : (p q : ℕ → Bool) {n n' : ℕ} → n ≡ n' → ((x : ℕ) → x < n → p x ≡ q x) → anyb p (below n) ≡ anyb q (below n')
below_alike p q {n} e same =
    anyb_alike p q 0 n (λ x l m. same x (omega arith)) ∙ ap (λ (k : ℕ). anyb q (below k)) e

-- functions that agree on a range have the same images along it
map_alike : (g h : ℕ → ℕ) (a n : ℕ) → ((x : ℕ) → a ≤ x → x < a + n → g x ≡ h x) → map g (up_from a n) ≡ map h (up_from a n)
map_alike g h a zero same = refl
map_alike g h a (suc n) same =
    let rest : map g (up_from (suc a) n) ≡ map h (up_from (suc a) n) =
    map_alike g h (suc a) n (λ x l m. same x (omega arith) (omega arith)) in
    λ i. same a (le_refl a) (omega arith) i ∷ rest i

-- what stands after a reason matters only where it does not hold
behind_alike : (n : ℕ) (b b' : Bool) (o o' : Option ℕ) → b ≡ b' → (b ≡ false → o ≡ o') → some_if b n o ≡ some_if b' n o'
behind_alike n true b' o o' e later = ap (λ (x : Bool). some_if x n o') e
behind_alike n false b' o o' e later = later refl ∙ ap (λ (x : Bool). some_if x n o') e

-- two files in which the rules read the same numbers, but for those that rules 5 and 11 read
pub record ReadAlike (f f' : List ℕ) : Type 0 where
  pub same_length : length f ≡ length f'
  pub same_states : states f ≡ states f'
  pub same_edges : edge_count f ≡ edge_count f'
  pub same_start : start_of f ≡ start_of f'
  pub same_offset : (at : ℕ) → 8 ≤ at → at ≤ 20 → long f at ≡ long f' at
  pub same_entry : (s : ℕ) → s ≤ states f → row_entry f s ≡ row_entry f' s
  pub same_target : (e : ℕ) → e < edge_count f → target f e ≡ target f' e

module _ {f f' : List ℕ} (same : ReadAlike f f') where
  -- both or neither break rule 6, if they are of one kind: its total length with one mark table is given by N and M
  offsets_alike : (total : ℕ → ℕ → ℕ) (tables : ℕ)
      → bad_offsets (total (states f) (edge_count f)) tables f ≡ bad_offsets (total (states f') (edge_count f')) tables f'
  offsets_alike total tables = λ i.
      let n : ℕ = same.same_states i in
      let m : ℕ = same.same_edges i in
      not (eqb (same.same_offset 8 (omega arith) (omega arith) i) rows_at) ||
      (not (eqb (same.same_offset 12 (omega arith) (omega arith) i) (edges_at n)) ||
      (not (eqb (same.same_offset 16 (omega arith) (omega arith) i) (marks_at n m)) ||
      not (anyb (λ t. eqb (same.same_offset 20 (omega arith) (omega arith) i) (total n m + t * mark_bytes n)) (below tables))))

  -- both or neither break rule 8
  rows_alike : bad_rows f ≡ bad_rows f'
  rows_alike =
      let falls : List ℕ → ℕ → Bool = λ g s. ltb (row_entry g (s + 1)) (row_entry g s) in
      let inside : anyb (falls f) (below (states f)) ≡ anyb (falls f') (below (states f')) =
      below_alike (falls f) (falls f') same.same_states
      (λ s l i. ltb (same.same_entry (s + 1) (omega arith) i) (same.same_entry s (omega arith) i)) in
      let last : row_entry f (states f) ≡ row_entry f' (states f') =
      same.same_entry (states f) (le_refl (states f)) ∙ ap (row_entry f') same.same_states in
      λ i. not (eqb (same.same_entry 0 (omega arith) i) 0) || (inside i || not (eqb (last i) (same.same_edges i)))

  -- both or neither break rule 9
  targets_alike : bad_targets f ≡ bad_targets f'
  targets_alike =
      below_alike (λ e. not (ltb (target f e) (states f))) (λ e. not (ltb (target f' e) (states f'))) same.same_edges
      (λ e l i. not (ltb (same.same_target e l i) (same.same_states i)))

  -- the targets of each row are the same, if rule 8 is kept: a row then ends within the edge table
  pub row_alike : bad_rows f ≡ false → (s : ℕ) → s < states f → row_targets f s ≡ row_targets f' s
  row_alike kept s l =
      let rows : T (not (bad_rows f)) = false_not (bad_rows f) kept in
      let ascend = rows_ascend_kept f rows in
      let end : row_entry f (s + 1) ≤ edge_count f = row_end_within f ascend (row_last_kept f rows) s l in
      let from : row_entry f s ≡ row_entry f' s = same.same_entry s (omega arith) in
      let to : row_entry f (s + 1) ≡ row_entry f' (s + 1) = same.same_entry (s + 1) (omega arith) in
      map_alike (target f) (target f') (row_entry f s) (row_entry f (s + 1) - row_entry f s)
      (λ e a b. same.same_target e (omega (arith, ascend s l)))
      ∙ (λ i. map (target f') (up_from (from i) (to i - from i)))

  -- both or neither break rule 10, if rule 8 is kept
  order_alike : bad_rows f ≡ false → bad_order f ≡ bad_order f'
  order_alike kept =
      below_alike (λ s. not (ascendingb (row_targets f s))) (λ s. not (ascendingb (row_targets f' s))) same.same_states
      (λ s l i. not (ascendingb (row_alike kept s l i)))

  -- the first rule that both break is the same, if both or neither break rule 5 and so it is with rule 11
  pub first_alike : (total : ℕ → ℕ → ℕ) (tables : ℕ) → bad_stays f ≡ bad_stays f' → bad_spare tables f ≡ bad_spare tables f'
      → first_broken (rules_with (total (states f) (edge_count f)) tables f) ≡ first_broken (rules_with (total (states f') (edge_count f')) tables f')
  first_alike total tables five eleven =
      let from8 = behind_alike 8 (bad_rows f) (bad_rows f') _ _ rows_alike (λ kept i.
      some_if (targets_alike i) 9 (some_if (order_alike kept i) 10 (some_if (eleven i) 11 none))) in
      λ i.
      let n : ℕ = same.same_states i in
      some_if (ltb (same.same_length i) 24) 1
      (some_if (eqb n 0 || ltb 4096 n) 2
      (some_if (ltb 8192 (same.same_edges i)) 3
      (some_if (not (ltb (same.same_start i) n)) 4
      (some_if (five i) 5
      (some_if (offsets_alike total tables i) 6
      (some_if (not (eqb (same.same_length i) (same.same_offset 20 (omega arith) (omega arith) i))) 7
      (from8 i)))))))
