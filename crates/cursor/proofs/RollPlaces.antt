-- The lists of the roll by their places: the one in region 0 and the one after it.
use Prim.Native.Nat.{ℕ, suc, ◌+◌, ◌<◌}
use mathlib.Core.Path.{◌≡◌, sym, ◌∙◌, ap, subst}
use mathlib.Core.List.{List, [], ◌∷◌, head?, Memᴰ}
use mathlib.Core.Option.{some, none}
use native.Mathlib.Numerals.{add-one}
use native.Mathlib.Omega.{arith}
use lib.ListN.{length, get_or, get_elem?}
use Rattle.lasso.specs.Graph.{Graph}
use Rattle.lasso.specs.Roll.{roll}
use Rattle.lasso.specs.Following.{following}
use Rattle.lists.proofs.Tests.{get_d_mem, head_at}
use Rattle.lists.proofs.ElemLaws.{get_elem_lt, get_elem_none, get_elem_some, get_elem_get_d}
use Rattle.lasso.proofs.OrderLaws.{following_at}
use Rattle.lasso.proofs.RollLaws.{roll_strict}
use Rattle.current.specs.Current.{list_in}
use Rattle.cursor.specs.Cursor.{Stands}

-- the first list
pub stands_first : {g : Graph} {l : ℕ} {w : List ℕ} → head? (roll g) ≡ some (list_in g.start w l) → Stands g l w 0
stands_first {g} {l} {w} e =
    let held : get_elem? (roll g) 0 ≡ some (list_in g.start w l) = sym (head_at (roll g)) ∙ e in
    record { place_in = get_elem_lt (roll g) 0 held; list_at = get_elem_get_d (roll g) 0 [] held }

-- the list is one of the roll
pub stands_mem : {g : Graph} {l place : ℕ} {w : List ℕ} → Stands g l w place → Memᴰ (list_in g.start w l) (roll g)
stands_mem {g} {l} {place} s =
    subst (λ (xs : List ℕ). Memᴰ xs (roll g)) s.list_at (get_d_mem (roll g) place [] s.place_in)

-- what follows the list is what stands at the next place
pub follows_at : {g : Graph} {l place : ℕ} {w : List ℕ} → Stands g l w place → following (list_in g.start w l) (roll g) ≡ get_elem? (roll g) (suc place)
follows_at {g} {l} {place} s =
    ap (λ (xs : List ℕ). following xs (roll g)) (sym s.list_at) ∙ following_at (roll g) place (roll_strict g) s.place_in

-- the following list stands at the next place
pub stands_next : {g : Graph} {l place : ℕ} {w : List ℕ} (w' : List ℕ) → Stands g l w place
    → following (list_in g.start w l) (roll g) ≡ some (list_in g.start w' l) → Stands g l w' (place + 1)
stands_next {g} {l} {place} w' s e =
    let held : get_elem? (roll g) (suc place) ≡ some (list_in g.start w' l) = sym (follows_at s) ∙ e in
    record {
      place_in = omega (arith, get_elem_lt (roll g) (suc place) held);
      list_at = ap (λ (i : ℕ). get_or (roll g) i []) (add-one place) ∙ get_elem_get_d (roll g) (suc place) [] held;
    }

-- without a following list the place is the last
pub stands_last : {g : Graph} {l place : ℕ} {w : List ℕ} → Stands g l w place → following (list_in g.start w l) (roll g) ≡ none
    → length (roll g) ≡ place + 1
stands_last {g} {l} {place} s e = omega (arith, s.place_in, (get_elem_none (roll g) (suc place)).0 (sym (follows_at s) ∙ e))

-- the list at the first place is the first
pub stands_head : {g : Graph} {l : ℕ} {w : List ℕ} → Stands g l w 0 → head? (roll g) ≡ some (list_in g.start w l)
stands_head {g} {l} {w} s = go (roll g) s.place_in s.list_at
  where
    go : (rs : List (List ℕ)) → 0 < length rs → get_or rs 0 [] ≡ list_in g.start w l → head? rs ≡ some (list_in g.start w l)
    go [] low e = absurd (omega arith)
    go (r ∷ rs) low e = ap some e

-- the list at the next place follows
pub follows_next : {g : Graph} {l place : ℕ} {w : List ℕ} (w' : List ℕ) → Stands g l w place → Stands g l w' (place + 1)
    → following (list_in g.start w l) (roll g) ≡ some (list_in g.start w' l)
follows_next {g} {l} {place} w' s t =
    let list : get_or (roll g) (suc place) [] ≡ list_in g.start w' l =
    ap (λ (i : ℕ). get_or (roll g) i []) (sym (add-one place)) ∙ t.list_at in
    follows_at s ∙ get_elem_some (roll g) (suc place) [] (omega (arith, t.place_in)) ∙ ap some list

-- nothing follows the list at the last place
pub follows_none : {g : Graph} {l place : ℕ} {w : List ℕ} → Stands g l w place → length (roll g) ≡ place + 1
    → following (list_in g.start w l) (roll g) ≡ none
follows_none {g} {l} {place} s e = follows_at s ∙ (get_elem_none (roll g) (suc place)).1 (omega arith)
