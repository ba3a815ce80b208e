-- The current list by places, writing it to the front of a table, first up to a place and then from there on, and the
-- first place of its last entry.
use Prim.Native.Nat.{ℕ, zero, suc, ◌+◌, ◌-◌, ◌≤◌, ◌<◌}
use mathlib.Core.Path.{◌≡◌, refl, sym, ◌∙◌, ap}
use mathlib.Core.Logic.{inl, inr}
use mathlib.Core.List.{List, [], ◌∷◌, ◌++◌, append_assoc, append-nil}
use native.Mathlib.Numerals.{add-one}
use native.Mathlib.Omega.{arith}
use lib.ListN.{length, get_or, take, drop, set, length-append, length-take, length-drop, drop_of_length-le}
use lib.Seq.{get_or-take, get_or-drop, length-take-le, take-suc, drop-cons, append_snoc, set_at, take_all, take_at, drop_at, take-add, drop-drop}
use borrow.Rule.Slice.PartMut.{put_mid}
use Rattle.lists.specs.Lists.{place_of}
use Rattle.lasso.specs.Graph.{loop_start}
use Rattle.lists.proofs.Tests.{eq_or_apart, lt_or_ge}
use Rattle.lists.proofs.Places.{place_of_first}
use Rattle.table.specs.Changes.{SameOutside}

-- a change after a place of the list keeps its state
pub list_kept : {from to : ℕ} {w w' : List ℕ} (start k : ℕ) → SameOutside from to w w' → k ≤ from → get_or (start ∷ w') k 0 ≡ get_or (start ∷ w) k 0
list_kept start zero same h = refl
list_kept start (suc k) same h = same.same_before k (omega arith)

-- a store after the entries of s that stand in front takes in the next one
pub front_more : (s d : List ℕ) (i : ℕ) → i < length s → i < length d
    → set (take i s ++ drop i d) i (get_or s i 0) ≡ take (i + 1) s ++ drop (i + 1) d
front_more s d i hs hd =
    let v : ℕ = get_or s i 0 in
    ap (λ (r : List ℕ). set (take i s ++ r) i v) (drop-cons d i 0 hd)
    ∙ set_at (take i s) (get_or d i 0) (drop (suc i) d) v i (length-take-le i s (omega arith))
    ∙ sym (append_snoc (take i s) v (drop (suc i) d))
    ∙ ap (λ (r : List ℕ). r ++ drop (suc i) d) (sym (take-suc s i 0 hs))
    ∙ ap (λ (k : ℕ). take k s ++ drop k d) (sym (add-one i))

-- the same where the entries of s are those of xs from a place on, and the value stored was read at the place itself
pub front_store : (xs d p : List ℕ) (from i v : ℕ) → p ≡ take i (drop from xs) ++ drop i d → v ≡ get_or xs (from + i) 0
    → from + i < length xs → i < length d → set p i v ≡ take (i + 1) (drop from xs) ++ drop (i + 1) d
front_store xs d p from i v e q hs hd =
    ap (λ (r : List ℕ). set r i v) e
    ∙ ap (λ (x : ℕ). set (take i (drop from xs) ++ drop i d) i x) (q ∙ sym (get_or-drop from xs i 0))
    ∙ front_more (drop from xs) d i (rw length-drop (omega arith)) hd

-- the table keeps its length
pub front_length : (s d : List ℕ) (i : ℕ) → i ≤ length s → i ≤ length d → length (take i s ++ drop i d) ≡ length d
front_length s d i hs hd = simp (length-append, length-take, length-drop) (omega arith)

-- entries up to place k in front, and then those from k up to n in the part of the table from entry k on: together the
-- entries up to n
pub front_joined : (s d : List ℕ) (k n : ℕ) → k ≤ n → n ≤ length s → n ≤ length d
    → let e : List ℕ = take k s ++ drop k d in
    put_mid k (length e - k) e (take (n - k) (drop k s) ++ drop (n - k) (take (length e - k) (drop k e))) ≡ take n s ++ drop n d
front_joined s d k n le hs hd =
    let e : List ℕ = take k s ++ drop k d in
    let low : length (take k s) ≡ k = length-take-le k s (omega arith) in
    let before : take k e ≡ take k s = take_at (take k s) (drop k d) k low in
    let after : drop k e ≡ drop k d = drop_at (take k s) (drop k d) k low in
    let long : length e ≡ length d = front_length s d k (omega arith) (omega arith) in
    let all : take (length d - k) (drop k d) ≡ drop k d = take_all (length d - k) (drop k d) (rw length-drop (omega arith)) in
    let past : drop (length d - k) (drop k d) ≡ [] = drop_of_length-le (drop k d) {i = length d - k} (rw length-drop (omega arith)) in
    let q : k + (n - k) ≡ n = omega arith in
    rw (before, after, long, all, past, append-nil, ← append_assoc, ← take-add, drop-drop, q)

-- the whole list: e is the table with the entries up to place k, p its part from entry k on with the others
pub list_written : (s : ℕ) (w d e p : List ℕ) (k t : ℕ) → k ≤ t → t ≤ length w → t < length d
    → e ≡ take k (s ∷ w) ++ drop k d
    → p ≡ take (t + 1 - k) (drop k (s ∷ w)) ++ drop (t + 1 - k) (take (length e - k) (drop k e))
    → put_mid k (length e - k) e p ≡ (s ∷ take t w) ++ drop (t + 1) d
list_written s w d e p k t le hs hd at-e at_p =
    let xs : List ℕ = s ∷ w in
    ap (λ (q : List ℕ). put_mid k (length e - k) e q) at_p
    ∙ ap (λ (q : List ℕ). put_mid k (length q - k) q (take (t + 1 - k) (drop k xs) ++ drop (t + 1 - k) (take (length q - k) (drop k q)))) at-e
    ∙ front_joined xs d k (t + 1) (omega arith) (omega arith) (omega arith)
    ∙ ap (λ (n : ℕ). take n xs ++ drop (t + 1) d) (add-one t)

-- the entries up to place t of the list with s in front
pub front_at : (s : ℕ) (w : List ℕ) (t i : ℕ) → i ≤ t → get_or (s ∷ take t w) i 0 ≡ get_or (s ∷ w) i 0
front_at s w t i le = get_or-take (suc t) (s ∷ w) i 0 (omega arith)

-- a place that holds x, where no place before it does, is the first
pub place_of_is : (x : ℕ) (xs : List ℕ) (k : ℕ) → k < length xs → get_or xs k 0 ≡ x
    → ((i : ℕ) → i < k → get_or xs i 0 ≡ x → ⊥) → k ≡ place_of x xs
place_of_is x xs k low holds before =
    let (le, at) = place_of_first x xs k low holds in
    elim (eq_or_apart k (place_of x xs)) [
      | inl e ↦ e
      | inr (inl less) ↦ absurd (omega arith)
      | inr (inr more) ↦ absurd (before (place_of x xs) more at)
    ]

-- the first place of the list's last state is where the loop starts
pub loop_start_is : (s : ℕ) (w : List ℕ) (t k : ℕ) → t ≤ length w → k ≤ t → get_or (s ∷ w) k 0 ≡ get_or (s ∷ w) t 0
    → ((i : ℕ) → i < k → get_or (s ∷ w) i 0 ≡ get_or (s ∷ w) t 0 → ⊥) → k ≡ loop_start (s ∷ take t w)
loop_start_is s w t k fits le holds before =
    let long : length (take t w) ≡ t = length-take-le t w fits in
    let last : get_or (s ∷ take t w) (suc (length (take t w)) - 1) 0 ≡ get_or (s ∷ w) t 0 =
    (let e : suc (length (take t w)) - 1 ≡ t = omega arith in ap (λ (i : ℕ). get_or (s ∷ take t w) i 0) e) ∙ front_at s w t t (omega arith) in
    place_of_is (get_or (s ∷ take t w) (suc (length (take t w)) - 1) 0) (s ∷ take t w) k (omega arith)
    (front_at s w t k le ∙ holds ∙ sym last)
    (λ i less e. before i less (sym (front_at s w t i (omega arith)) ∙ e ∙ last))

-- if the first entry and all others fit 16 bits, each entry does
pub entries_fit : (s : ℕ) (w : List ℕ) (p : ℕ) → s < 65536 → ((i : ℕ) → get_or w i 0 < 65536) → get_or (s ∷ w) p 0 < 65536
entries_fit s w zero first rest = first
entries_fit s w (suc p) first rest = rest p
