-- What the roll is: all accepting paths that no accepting path is shorter than, each once, in dictionary order; and what
-- its length can be.
use Prim.Native.Nat.{ℕ, suc, ◌≤◌, ◌<◌}
use native.Mathlib.Omega.{arith}
use mathlib.Core.Path.{◌≡◌, refl, ap, subst}
use mathlib.Core.Logic.{◌↔◌}
use mathlib.Core.Option.{Option, some, none}
use mathlib.Core.List.Memᴰ
use mathlib.Core.List.{List, [], Memᴰ}
use lib.ListN.{length, get_or}
use lib.Dec.{T, eqb, leb, eqb→eq, leb→le}
use Rattle.lists.proofs.Tests.{non_empty_some, some_non_empty, parts, keep_mem, mem_keep}
use Rattle.lists.specs.Lists.{non_emptyb}
use Rattle.lasso.specs.Graph.{Graph, WellFormed, pathb, edges, lassob, acceptingb}
use Rattle.lasso.specs.Order.{all_lists}
use Rattle.lasso.specs.Roll.{of_length, least_length, of_least, roll}
use Rattle.lists.proofs.Least.{IsLeast, is_least_iff, is_least_has, Passes, seek_least}
use Rattle.lasso.proofs.Walk.{path_states}
use Rattle.lasso.proofs.Lasso.{AcceptingLength, accepting_length}
use Rattle.lasso.proofs.Cut.{lasso_accepting, least_lasso_accepting}
use Rattle.lists.proofs.Sorted.{All, all_places, Sorted, sorted_keep}
use Rattle.lasso.proofs.OrderLaws.{Before, lists_sorted, in_lists}

-- an accepting path is a lasso
pub accepting_lasso : (g : Graph) (xs : List ℕ) → T (acceptingb g xs) → T (lassob g xs)
accepting_lasso g xs h = search parts

-- a lasso has at least one edge
pub lasso_edges : (g : Graph) (xs : List ℕ) → T (lassob g xs) → 1 ≤ edges xs
lasso_edges g xs h = let t : T (leb 1 (edges xs)) = search parts in leb→le 1 (edges xs) t

-- a lasso of l edges has l + 1 entries
pub lasso_length : (g : Graph) (l : ℕ) (xs : List ℕ) → T (lassob g xs) → edges xs ≡ l → length xs ≡ suc l
lasso_length g l xs h e = omega (arith, lasso_edges g xs h)

-- the states of a lasso are states
pub lasso_states : (g : Graph) → WellFormed g → (xs : List ℕ) → T (lassob g xs) → All (λ x. x < g.size) xs
lasso_states g w xs h =
    let s : T (eqb (get_or xs 0 0) g.start) = search parts in
    let p : T (pathb g xs) = search parts in
    all_places (λ x. x < g.size) 0 xs (path_states g xs w p (omega (arith, eqb→eq (get_or xs 0 0) g.start s, w.start_state)))

-- a list of `of_length` has one entry more than its edges
pub of_length-length : (g : Graph) (l : ℕ) (xs : List ℕ) → Memᴰ xs (of_length g l) → length xs ≡ suc l
of_length-length g l xs m = ((in_lists g.size (suc l) xs).0 (keep_mem (acceptingb g) (all_lists g.size (suc l)) m).0).0

-- a list of `of_length` is an accepting path
pub of_length_accepting : (g : Graph) (l : ℕ) (xs : List ℕ) → Memᴰ xs (of_length g l) → T (acceptingb g xs)
of_length_accepting g l xs m = (keep_mem (acceptingb g) (all_lists g.size (suc l)) m).1

-- each accepting path of l edges is in `of_length`
pub in_of_length : (g : Graph) → WellFormed g → (l : ℕ) (xs : List ℕ) → T (acceptingb g xs) → edges xs ≡ l → Memᴰ xs (of_length g l)
in_of_length g w l xs h e =
    let a : T (lassob g xs) = accepting_lasso g xs h in
    mem_keep (acceptingb g) ((in_lists g.size (suc l) xs).1 (lasso_length g l xs a e, lasso_states g w xs a)) h

-- a length from 1 to the number of states of which there is a list
abbrev pub Occurs : Graph → ℕ → Type 0
Occurs g = Passes (λ l. non_emptyb (of_length g l)) 1 g.size

-- the least length is the least that occurs
pub least_length_occurs : (g : Graph) → IsLeast (Occurs g) (least_length g)
least_length_occurs g = seek_least (λ l. non_emptyb (of_length g l)) 1 g.size

-- the least length is that of some accepting path, and no accepting path is shorter
pub least_length_least : (g : Graph) → WellFormed g → IsLeast (AcceptingLength g) (least_length g)
least_length_least g w = is_least_iff (Occurs g) (AcceptingLength g) (least_length g) there back (least_length_occurs g)
  where
    there : (l : ℕ) → Occurs g l → AcceptingLength g l
    there l p = let (xs, m) = non_empty_some (of_length g l) p.2 in (xs, of_length_accepting g l xs m, omega (arith, of_length-length g l xs m))

    back : (l : ℕ) → AcceptingLength g l → Occurs g l
    back l (xs, a, e) = (omega (arith, lasso_edges g xs (accepting_lasso g xs a)), omega (arith, accepting_length g xs w a), some_non_empty (of_length g l) (in_of_length g w l xs a e))

-- the least length is at least 1 and at most the number of states
pub least_length_range : (g : Graph) (l : ℕ) → least_length g ≡ some l → (1 ≤ l) × (l ≤ g.size)
least_length_range g l e = omega (arith, is_least_has (Occurs g) (least_length g) (least_length_occurs g) l e)

-- no lasso is shorter than the least length
pub least_length_le : (g : Graph) → WellFormed g → (l : ℕ) → least_length g ≡ some l → (xs : List ℕ) → T (lassob g xs) → l ≤ edges xs
least_length_le g w l e xs h =
    let (ys, a, le) = lasso_accepting g xs h in
    let least : IsLeast (AcceptingLength g) (some l) = rw e at (least_length_least g w) in
    omega (arith, least.1 (edges ys) (ys, a, refl))

-- with a least length, the roll is the accepting paths of that length
pub roll_of : (g : Graph) (l : ℕ) → least_length g ≡ some l → roll g ≡ of_length g l
roll_of g l e = ap (of_least g) e

-- the roll ascends strictly in dictionary order
pub roll_strict : (g : Graph) → Sorted Before (roll g)
roll_strict g = go (least_length g)
  where
    go : (a : Option ℕ) → Sorted Before (of_least g a)
    go none = tt
    go (some l) = sorted_keep Before (acceptingb g) (all_lists g.size (suc l)) (lists_sorted g.size (suc l))

-- the roll is empty exactly if there is no least length
pub roll_empty : (g : Graph) → (roll g ≡ []) ↔ (least_length g ≡ none)
roll_empty g = (λ h. go (least_length g) (least_length_occurs g) h, λ e. ap (of_least g) e)
  where
    go : (a : Option ℕ) → IsLeast (Occurs g) a → of_least g a ≡ [] → a ≡ none
    go none least e = refl
    go (some l) least e = absurd (subst (λ (rs : List (List ℕ)). T (non_emptyb rs)) e least.0.2)

-- each list of the roll has one entry more than the least length
pub roll-length : (g : Graph) (l : ℕ) → least_length g ≡ some l → (xs : List ℕ) → Memᴰ xs (roll g) → length xs ≡ suc l
roll-length g l e xs m = of_length-length g l xs (rw (roll_of g l e) at m)

-- no accepting path is shorter
abbrev pub Shortest : Graph → List ℕ → Type 0
Shortest g xs = (ys : List ℕ) → T (acceptingb g ys) → edges xs ≤ edges ys

-- the roll holds exactly the accepting paths that no accepting path is shorter than
pub in_roll : (g : Graph) → WellFormed g → (xs : List ℕ) → Memᴰ xs (roll g) ↔ (T (acceptingb g xs) × Shortest g xs)
in_roll g w xs = go (least_length g) (least_length_least g w)
  where
    go : (a : Option ℕ) → IsLeast (AcceptingLength g) a → Memᴰ xs (of_least g a) ↔ (T (acceptingb g xs) × Shortest g xs)
    go none least = (λ m. absurd (Memᴰ.not-nil m), λ h. absurd (least (edges xs) (xs, h.0, refl)))
    go (some l) least = (
      λ m. (of_length_accepting g l xs m, λ ys a. omega (arith, of_length-length g l xs m, least.1 (edges ys) (ys, a, refl))),
      λ h. let (ys, a, e) = least.0 in in_of_length g w l xs h.0 (omega (arith, h.1 ys a, least.1 (edges xs) (xs, h.0, refl))),
    )

-- each list of the roll is a lasso of the least length
pub roll_lasso : (g : Graph) (l : ℕ) → least_length g ≡ some l → (xs : List ℕ) → Memᴰ xs (roll g) → T (lassob g xs) × (edges xs ≡ l)
roll_lasso g l e xs m = (accepting_lasso g xs (of_length_accepting g l xs (rw (roll_of g l e) at m)), omega (arith, roll-length g l e xs m))

-- each lasso of the least length is in the roll
pub lasso_in_roll : (g : Graph) → WellFormed g → (l : ℕ) → least_length g ≡ some l → (xs : List ℕ) → T (lassob g xs) → edges xs ≡ l → Memᴰ xs (roll g)
lasso_in_roll g w l e xs h long =
    let short : Shortest g xs = λ ys a. omega (arith, least_length_le g w l e ys (accepting_lasso g ys a)) in
    (in_roll g w xs).1 (least_lasso_accepting g xs h short, short)
