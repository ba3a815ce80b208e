-- The place that a sequence of calls has reached in the roll: the number h of lists received settles which list was the
-- last, which list follows it, and what one more list adds.
use Prim.Native.Nat.{ℕ, suc, ◌≤◌, ◌<◌}
use native.Mathlib.Omega.{arith}
use native.Mathlib.Nat.{eq-or-lt_of_le}
use borrow.Author.Tests.{eq-eqb, ne_eqb}
use mathlib.Core.Path.{◌≡◌, sym, ◌∙◌, ap, subst}
use mathlib.Core.Logic.{inl, inr}
use mathlib.Core.Bool.{Bool, true, false}
use mathlib.Core.List.Memᴰ
use mathlib.Core.List.{List, [], Memᴰ}
use mathlib.Core.Option.{Option, some, none}
use lib.ListN.{length, get_or, take, get_elem?}
use lib.Seq.{take-append_seam}
use lib.Dec.{eqb}
use Rattle.lists.specs.Lists.{pick}
use Rattle.lasso.specs.Graph.{Graph, edges}
use Rattle.lasso.specs.Roll.{of_least, least_length, roll, roll_within}
use Rattle.lasso.specs.Following.{following}
use Rattle.lists.proofs.ElemLaws.{get_elem_lt, get_elem_none, get_elem_some, get_elem_get_d}
use Rattle.lists.proofs.Sorted.{Sorted}
use Rattle.lasso.proofs.OrderLaws.{Before, following_at}
use Rattle.lasso.proofs.RollLaws.{of_length-length}
use Rattle.lasso.proofs.CeilingLaws.{within_roll}
use Rattle.outcomes.specs.Tables.{written}
use Rattle.sequence.specs.Book.{nothing_left, list_at}

-- a number that is less is not equal
less_eqb : (a b : ℕ) → a < b → eqb a b ≡ false
less_eqb a b l = ne_eqb a b (λ e. omega arith)

-- before the number of lists a list is left
one_left : (rs : List (List ℕ)) (h : ℕ) → h < length rs → nothing_left rs h ≡ false
one_left rs h less = search less_eqb

-- there none is
none_left : (rs : List (List ℕ)) (h : ℕ) → h ≡ length rs → nothing_left rs h ≡ true
none_left rs h e = let le : length rs ≤ h = omega arith in search eq-eqb

-- up to the end of a list, the book's list at a place is what the place holds
pub list_at_get_elem : (rs : List (List ℕ)) (h : ℕ) → h ≤ length rs → list_at rs h ≡ get_elem? rs h
list_at_get_elem rs h l =
    let due : Bool → Option (List ℕ) = λ left. pick left none (some (get_or rs h [])) in
    elim (eq-or-lt_of_le l) [
      | inl e ↦ ap due (none_left rs h e) ∙ sym ((get_elem_none rs h).1 (omega arith))
      | inr less ↦ ap due (one_left rs h less) ∙ sym (get_elem_some rs h [] less)
    ]

-- after what place i holds follows what the next place holds
pub following_get_elem : {p : List ℕ} (rs : List (List ℕ)) (i : ℕ) → Sorted Before rs → get_elem? rs i ≡ some p
    → following p rs ≡ get_elem? rs (suc i)
following_get_elem rs i s e =
    subst (λ (q : List ℕ). following q rs ≡ get_elem? rs (suc i)) (get_elem_get_d rs i [] e) (following_at rs i s (get_elem_lt rs i e))

-- each list of the roll has one entry more than edges
pub roll_entries : (g : Graph) (xs : List ℕ) → Memᴰ xs (roll g) → suc (edges xs) ≡ length xs
roll_entries g xs m = go (least_length g) m
  where
    go : (a : Option ℕ) → Memᴰ xs (of_least g a) → suc (edges xs) ≡ length xs
    go none n = absurd (Memᴰ.not-nil n)
    go (some l) n = omega (arith, of_length-length g l xs n)

-- so has each list of the roll within a ceiling
pub within_entries : (g : Graph) (ceiling : ℕ) (xs : List ℕ) → Memᴰ xs (roll_within g ceiling) → suc (edges xs) ≡ length xs
within_entries g ceiling xs m = roll_entries g xs (within_roll g ceiling xs m)

-- entries 0 to L of the answer table are the list that was written
pub copy_written : (xs a : List ℕ) → suc (edges xs) ≡ length xs → take (suc (edges xs)) (written (some xs) a) ≡ xs
copy_written xs a e = rw e (take-append_seam xs _)
