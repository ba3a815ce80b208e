-- What each rule says of a file that keeps it, by plain facts about its numbers.
use Prim.Native.Nat.{ℕ, zero, suc, ◌+◌, ◌*◌, ◌-◌, ◌≤◌, ◌<◌}
use mathlib.Core.Path.{◌≡◌, ◌∙◌}
use mathlib.Core.Bool.{Bool, not}
use mathlib.Core.List.{List}
use native.Mathlib.Omega.{arith}
use native.Mathlib.Nat.{le_refl, le_trans}
use lib.ListN.{length}
use lib.Dec.{T, eqb, ltb, eqb→eq, ltb→lt, nltb→le}
use Rattle.lists.specs.Lists.{anyb, below, ascendingb}
use Rattle.lists.proofs.Tests.{anyb_some, up_from_range}
use Rattle.format.specs.Bytes.{long}
use Rattle.format.specs.Layout.{states, edge_count, mark_bytes, row_entry, target, row_targets, mark_bit}
use Rattle.format.specs.Rules.{bad_states, total_fits, bad_offsets, bad_length, bad_rows, bad_targets, bad_order, spare_set, bad_spare}
use Rattle.lists.proofs.Fails.{kept, not_not, neqb→ne, none_passes, none_below}

-- rule 2 is kept: the number of states is 1 to 4,096
pub states_kept : (f : List ℕ) → T (not (bad_states f)) → (1 ≤ states f) × (states f ≤ 4096)
states_kept f h =
    let n : states f ≡ 0 → ⊥ = neqb→ne (states f) 0 (search kept) in
    let m : states f ≤ 4096 = search (kept, nltb→le) in
    omega arith

-- rules 6 and 7 are kept: the file has the length of its kind with one of the numbers of mark tables
pub length_kept : (total tables : ℕ) (f : List ℕ) → T (not (bad_offsets total tables f)) → T (not (bad_length f))
    → (t : ℕ) × (t < tables) × (length f ≡ total + t * mark_bytes (states f))
length_kept total tables f o l =
    let own : length f ≡ long f 20 = search (kept, eqb→eq) in
    let fits : T (total_fits total tables f) = search kept in
    let (t, among, given) = anyb_some (λ t. eqb (long f 20) (total + t * mark_bytes (states f))) (below tables) fits in
    (t, omega (arith, up_from_range 0 tables among), own ∙ eqb→eq (long f 20) (total + t * mark_bytes (states f)) given)

-- rule 8 is kept: the first row entry is 0
pub row_first_kept : (f : List ℕ) → T (not (bad_rows f)) → row_entry f 0 ≡ 0
row_first_kept f h = search (kept, eqb→eq)

-- rule 8 is kept: no row entry is less than the one before
pub rows_ascend_kept : (f : List ℕ) → T (not (bad_rows f)) → (s : ℕ) → s < states f → row_entry f s ≤ row_entry f (s + 1)
rows_ascend_kept f h s l =
    let p : ℕ → Bool = λ k. ltb (row_entry f (k + 1)) (row_entry f k) in
    let none : T (not (anyb p (below (states f)))) = search kept in
    nltb→le (row_entry f (s + 1)) (row_entry f s) (none_below p (states f) none s l)

-- rule 8 is kept: the last row entry is the number of edges
pub row_last_kept : (f : List ℕ) → T (not (bad_rows f)) → row_entry f (states f) ≡ edge_count f
row_last_kept f h = search (kept, eqb→eq)

-- rule 9 is kept: each target is below the number of states
pub targets_kept : (f : List ℕ) → T (not (bad_targets f)) → (e : ℕ) → e < edge_count f → target f e < states f
targets_kept f h e l =
    let t : T (not (not (ltb (target f e) (states f)))) = none_below (λ (k : ℕ). not (ltb (target f k) (states f))) (edge_count f) h e l in
    search (kept, ltb→lt)

-- rule 10 is kept: the targets of each row ascend strictly
pub order_kept : (f : List ℕ) → T (not (bad_order f)) → (s : ℕ) → s < states f → T (ascendingb (row_targets f s))
order_kept f h s l =
    not_not (ascendingb (row_targets f s)) (none_below (λ (k : ℕ). not (ascendingb (row_targets f k))) (states f) h s l)

-- rule 11 is kept: no spare bit of a table is set
pub spare_kept : (tables : ℕ) (f : List ℕ) → T (not (bad_spare tables f)) → (t : ℕ) → t < tables
    → (s : ℕ) → states f ≤ s → s < 8 * mark_bytes (states f) → T (not (mark_bit f t s))
spare_kept tables f h t less s l m =
    none_passes (mark_bit f t) (states f) (8 * mark_bytes (states f) - states f) (none_below (spare_set f) tables h t less) s l (omega arith)

-- a function that does not fall from one number below n to the next does not fall between numbers up to n
rising : (g : ℕ → ℕ) (n : ℕ) → ((s : ℕ) → s < n → g s ≤ g (s + 1)) → (s d t : ℕ) → s + d ≡ t → t ≤ n → g s ≤ g t
rising g n up s zero t e l = let q : s ≡ t = omega arith in rw q (le_refl (g t))
rising g n up s (suc d) t e l =
    le_trans (up s (omega arith)) (rising g n up (s + 1) d t (omega arith) (omega arith))

-- row entries that do not fall and end with the number of edges are at most that number
pub row_end_within :
    (f : List ℕ) → ((s : ℕ) → s < states f → row_entry f s ≤ row_entry f (s + 1)) → row_entry f (states f) ≡ edge_count f
    → (s : ℕ) → s < states f → row_entry f (s + 1) ≤ edge_count f
row_end_within f up last s l =
    omega (arith, rising (row_entry f) (states f) up (s + 1) (states f - (s + 1)) (states f) (omega arith) (omega arith))
