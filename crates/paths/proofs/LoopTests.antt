-- The tests of a list that loops make place by place: a closed walk with a mark from a place on, or from some place on; and
-- the test of a lasso of a length.
use Prim.Native.Nat.{ℕ, ◌-◌, ◌≤◌, ◌<◌}
use mathlib.Core.Path.{◌≡◌}
use mathlib.Core.Bool.{Bool, false, ◌&&◌}
use mathlib.Core.List.{List, Memᴰ}
use native.Mathlib.Omega.{arith}
use borrow.Author.Tests.{eq-eqb, ne_eqb}
use lib.ListN.{get_or}
use lib.Dec.{T, eqb}
use Rattle.lists.specs.Lists.{anyb, up_from}
use Rattle.lasso.specs.Graph.{Graph, edges, loopsb, lassob}
use Rattle.lists.proofs.Tests.{parts, join, same_tests, eq→eqb, anyb_some, some_anyb, up_from_range, range_up_from}

-- the state at a place of the list is marked
abbrev pub mark_at : Graph → List ℕ → ℕ → Bool
mark_at g xs r = g.marked (get_or xs r 0)

module _ (g : Graph) (xs : List ℕ) (k : ℕ) where
  -- a list whose last entry is not the one at k is no closed walk from k on
  pub open_at : (get_or xs (edges xs) 0 ≡ get_or xs k 0 → ⊥) → loopsb g xs k ≡ false
  open_at apart = rw (ne_eqb (get_or xs (edges xs) 0) (get_or xs k 0) apart)

  -- one whose last entry is the one at k is one if there is a mark
  pub closed_at : get_or xs (edges xs) 0 ≡ get_or xs k 0 → (b : Bool) → anyb (mark_at g xs) (up_from k (edges xs - k)) ≡ b → loopsb g xs k ≡ b
  closed_at same b e = rw (eq-eqb (get_or xs (edges xs) 0) (get_or xs k 0) same) e

  -- a closed walk with a mark from a later place on is one from k on
  pub closed_earlier : (j : ℕ) → k ≤ j → get_or xs (edges xs) 0 ≡ get_or xs k 0 → T (loopsb g xs j) → T (loopsb g xs k)
  closed_earlier j l same h =
      let marks : T (anyb (mark_at g xs) (up_from j (edges xs - j))) = search parts in
      let (r, in-r, marked) = anyb_some (mark_at g xs) (up_from j (edges xs - j)) marks in
      let range = up_from_range j (edges xs - j) {x = r} in-r in
      let in-k : Memᴰ r (up_from k (edges xs - k)) = range_up_from k (edges xs - k) r (omega (arith, range)) (omega (arith, range)) in
      let marks-k : T (anyb (mark_at g xs) (up_from k (edges xs - k))) = some_anyb (mark_at g xs) in-k marked in
      let closed : T (eqb (get_or xs (edges xs) 0) (get_or xs k 0)) = eq→eqb _ _ same in
      search join

  -- from the first place that holds the last entry on, the closed walk from there decides
  pub first_decides : k < edges xs → get_or xs (edges xs) 0 ≡ get_or xs k 0
      → anyb (loopsb g xs) (up_from k (edges xs - k)) ≡ loopsb g xs k
  first_decides low same = same_tests (anyb (loopsb g xs) (up_from k (edges xs - k))) (loopsb g xs k) to back
    where
      to : T (anyb (loopsb g xs) (up_from k (edges xs - k))) → T (loopsb g xs k)
      to h =
          let (j, in-j, at_j) = anyb_some (loopsb g xs) (up_from k (edges xs - k)) h in
          let range = up_from_range k (edges xs - k) {x = j} in-j in
          closed_earlier j range.0 same at_j

      back : T (loopsb g xs k) → T (anyb (loopsb g xs) (up_from k (edges xs - k)))
      back h = some_anyb (loopsb g xs) (range_up_from k (edges xs - k) k (omega arith) (omega arith)) h

-- the list is a lasso with n transitions
abbrev pub lasso_of : Graph → List ℕ → ℕ → Bool
lasso_of g xs n = lassob g xs && eqb (edges xs) n
