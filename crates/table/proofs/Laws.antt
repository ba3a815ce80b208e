-- Laws of changed tables: tables that are the same outside a range, one store, a table that is cleared as a whole, and one
-- more entry copied.
use Prim.Native.Nat.{ℕ, ◌+◌, ◌≤◌, ◌<◌}
use mathlib.Core.Path.{◌≡◌, refl, sym, ◌∙◌}
use mathlib.Core.Logic.{◌⊎◌, ⊎_elim}
use mathlib.Core.List.{List}
use native.Mathlib.Nat.{eq-or-lt_of_le}
use native.Mathlib.Omega.{arith}
use lib.ListN.{length, get_or, set, replicate, length-set, length-replicate, get_or-replicate}
use lib.Seq.{get_or-set_same, get_or-set_other, ext_get_or}
use Rattle.table.specs.Changes.{SameOutside, Cleared, Copied}

-- a number below i + 1 is i or below i
pub last_or_below : (s i : ℕ) → s < i + 1 → (s ≡ i) ⊎ (s < i)
last_or_below s i l = let q : s ≤ i = omega arith in eq-or-lt_of_le q

-- a table is the same as itself
pub same_outside_refl : (from to : ℕ) (w : List ℕ) → SameOutside from to w w
same_outside_refl from to w = record { same_length = refl; same_before = λ i h. refl; same_after = λ i h. refl }

-- what is the same one way is the same the other way
pub same_outside_sym : {from to : ℕ} {w w' : List ℕ} → SameOutside from to w w' → SameOutside from to w' w
same_outside_sym s =
    record {
      same_length = sym s.same_length;
      same_before = λ i h. sym (s.same_before i h);
      same_after = λ i h. sym (s.same_after i h);
    }

-- a wider range may be named
pub same_outside_widen : {from to : ℕ} {w w' : List ℕ} (from' to' : ℕ) → from' ≤ from → to ≤ to' → SameOutside from to w w' → SameOutside from' to' w w'
same_outside_widen from' to' p q s =
    record {
      same_length = s.same_length;
      same_before = λ i h. s.same_before i (omega arith);
      same_after = λ i h. s.same_after i (omega arith);
    }

-- two changes inside a range make one
pub same_outside_trans : {from to : ℕ} {u v w : List ℕ} → SameOutside from to u v → SameOutside from to v w → SameOutside from to u w
same_outside_trans a b =
    record {
      same_length = b.same_length ∙ a.same_length;
      same_before = λ i h. b.same_before i h ∙ a.same_before i h;
      same_after = λ i h. b.same_after i h ∙ a.same_after i h;
    }

-- a store changes one entry
pub set_same_outside : (w : List ℕ) (at v from to : ℕ) → from ≤ at → at < to → SameOutside from to w (set w at v)
set_same_outside w at v from to p q =
    record {
      same_length = length-set w at v;
      same_before = λ i h. get_or-set_other w at i v 0 (omega arith);
      same_after = λ i h. get_or-set_other w at i v 0 (omega arith);
    }

-- a store after a change inside a range is a change inside the range
pub same_outside_set : {from to : ℕ} {w w' : List ℕ} (at v : ℕ) → from ≤ at → at < to → SameOutside from to w w' → SameOutside from to w (set w' at v)
same_outside_set {from} {to} {w' = w'} at v p q s = same_outside_trans s (set_same_outside w' at v from to p q)

-- a table that is cleared as a whole holds zeros
pub cleared_all : (w w' : List ℕ) → Cleared 0 (length w) w w' → w' ≡ replicate (length w) 0
cleared_all w w' c =
    ext_get_or 0 w' (replicate (length w) 0) (omega (arith, c.others.same_length, length-replicate {A = ℕ} (length w) 0)) (λ i h. c.zeros i (omega arith) (inside i h) ∙ sym (get_or-replicate (length w) i 0 0 (inside i h)))
  where
    inside : (i : ℕ) → i < length w' → i < length w
    inside i h = omega (arith, c.others.same_length)

-- one more entry is copied by storing it after the copies: it stands as before, since the two parts are apart
pub copied_more : (from to m n : ℕ) (w w' : List ℕ) (at source : ℕ) → at ≡ to + n → source ≡ from + n → (to + m ≤ from) ⊎ (from + m ≤ to) → n < m → to + n < length w → Copied from to n w w'
    → Copied from to (n + 1) w (set w' at (get_or w' source 0))
copied_more from to m n w w' at source at_is source_is apart l q c =
    rw (at_is, source_is)
    record {
      others = same_outside_set (to + n) (get_or w' (from + n) 0) (omega arith) (omega arith) (same_outside_widen to (to + (n + 1)) (omega arith) (omega arith) c.others);
      copies = λ i l. ⊎_elim (λ e. rw e here) (λ k. get_or-set_other w' (to + n) (to + i) (get_or w' (from + n) 0) 0 (omega arith) ∙ c.copies i k) (last_or_below i n l);
    }
  where
    inside : to + n < length w'
    inside = omega (arith, c.others.same_length)

    here : get_or (set w' (to + n) (get_or w' (from + n) 0)) (to + n) 0 ≡ get_or w (from + n) 0
    here =
        get_or-set_same w' (to + n) (get_or w' (from + n) 0) 0 inside
        ∙ ⊎_elim (λ a. c.others.same_after (from + n) (omega arith)) (λ a. c.others.same_before (from + n) (omega arith)) apart
