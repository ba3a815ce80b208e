-- The successors of a list's last state, tried in their order: the first that may stand there is the least, and if the
-- list begins a lasso, then the last one may stand there if none before it may.
use Prim.Native.Nat.{ℕ, ◌+◌, ◌*◌, ◌≤◌, ◌<◌}
use native.Mathlib.Omega.{arith}
use borrow.Author.Count.{below_more}
use mathlib.Core.Path.{◌≡◌, sym, ◌∙◌, ap, subst}
use mathlib.Core.Logic.{inl, inr}
use mathlib.Core.List.{List, [], ◌∷◌, ◌++◌}
use lib.ListN.{length, get_or, take}
use lib.Dec.{T}
use Rattle.lasso.specs.Graph.{Graph, edgeb}
use Rattle.lists.proofs.Tests.{lt_or_ge, memb_at}
use Rattle.lists.proofs.Ascending.{equal, ascending_le}
use Rattle.lasso.specs.Extends.{Extends}
use Rattle.model.specs.declared.Header.{Header}
use Rattle.model.specs.Model.{graph_in}
use Rattle.model.proofs.Laws.{valid_well_formed}
use Rattle.table.specs.Changes.{SameOutside}
use Rattle.table.proofs.Laws.{same_outside_refl, same_outside_trans}
use Rattle.current.specs.Current.{list_in}
use Rattle.follow.specs.Places.{LeastFollower}
use Rattle.follow.proofs.ExtendLaws.{extends_edge, extends_step}
use Rattle.followers.proofs.RowLaws.{StateRead, successor_state}

-- The first k successors ts were tried after q: none of them from the bound on may stand there, and the table changed in
-- the regions 2 to 5 alone.
pub record Tried (g : Graph) (n l : ℕ) (q : List ℕ) (bound : ℕ) (ts w w' : List ℕ) (k : ℕ) : Type 0 where
  pub same : SameOutside (2 * n) (6 * n) w w'
  pub none : (j : ℕ) → j < k → bound ≤ get_or ts j 0 → Extends g l (q ++ get_or ts j 0 ∷ []) → ⊥

-- nothing is tried at first
pub tried_none : (g : Graph) (n l : ℕ) (q : List ℕ) (bound : ℕ) (ts w : List ℕ) → Tried g n l q bound ts w w 0
tried_none g n l q bound ts w = record { same = same_outside_refl (2 * n) (6 * n) w; none = λ j h. absurd (omega arith) }

-- one more successor t was tried: it is below the bound or may not stand there
pub tried_more : {g : Graph} {n l : ℕ} {q : List ℕ} {bound : ℕ} {ts w w' w'' : List ℕ} {k : ℕ} (t : ℕ) → Tried g n l q bound ts w w' k → SameOutside (2 * n) (6 * n) w' w''
    → t ≡ get_or ts k 0 → (bound ≤ t → Extends g l (q ++ t ∷ []) → ⊥) → Tried g n l q bound ts w w'' (k + 1)
tried_more {g} {n} {l} {q} {bound} {ts} {k = k} t tried s at here =
    record {
      same = same_outside_trans tried.same s;
      none = below_more (λ j. bound ≤ get_or ts j 0 → Extends g l (q ++ get_or ts j 0 ∷ []) → ⊥) k tried.none
          (subst (λ (u : ℕ). bound ≤ u → Extends g l (q ++ u ∷ []) → ⊥) at here);
    }

-- The successors of s, the last state of the list up to a place.
module _ {f w : List ℕ} {h : Header} {l place s : ℕ} (r : StateRead f h w l place s) where
  -- a state that may stand after the list is one of the successors
  follower_place : (y : ℕ) → Extends (graph_in f h) l (list_in (graph_in f h).start w place ++ y ∷ []) → (j : ℕ) × (j < length ((graph_in f h).succs s)) × (get_or ((graph_in f h).succs s) j 0 ≡ y)
  follower_place y x =
      memb_at y ((graph_in f h).succs s) (subst (λ (u : ℕ). T (edgeb (graph_in f h) u y)) (sym r.last) (extends_edge (graph_in f h) l (graph_in f h).start (take place w) y x))

  -- the same, with the successor's place written for the state
  follower_at : (y : ℕ) → Extends (graph_in f h) l (list_in (graph_in f h).start w place ++ y ∷ [])
      → (j : ℕ) × (j < length ((graph_in f h).succs s)) × (get_or ((graph_in f h).succs s) j 0 ≡ y) × Extends (graph_in f h) l (list_in (graph_in f h).start w place ++ get_or ((graph_in f h).succs s) j 0 ∷ [])
  follower_at y x =
      let (j, i, e) = follower_place y x in
      (j, i, e, subst (λ (u : ℕ). Extends (graph_in f h) l (list_in (graph_in f h).start w place ++ u ∷ [])) (sym e) x)

  -- of the successors from the bound on the first one that may stand after the list is the least
  pub tried_found : {bound k : ℕ} {w' : List ℕ} (t : ℕ) → Tried (graph_in f h) h.states l (list_in (graph_in f h).start w place) bound ((graph_in f h).succs s) w w' k
      → k < length ((graph_in f h).succs s) → t ≡ get_or ((graph_in f h).succs s) k 0 → bound ≤ t → Extends (graph_in f h) l (list_in (graph_in f h).start w place ++ t ∷ [])
      → LeastFollower (graph_in f h) l (list_in (graph_in f h).start w place) bound t
  tried_found {bound} {k} t tried inside at from x =
      record { state = omega (arith, r.sizes, successor_state t r inside at); from_bound = from; extends = x; least = least }
    where
      least : (y : ℕ) → bound ≤ y → y < t → Extends (graph_in f h) l (list_in (graph_in f h).start w place ++ y ∷ []) → ⊥
      least y p less z =
          let (j, i, e, there) = follower_at y z in
          elim (lt_or_ge j k) [
            | inl b ↦ tried.none j b (omega arith) there
            | inr b ↦ omega (arith, ascending_le ((graph_in f h).succs s) ((valid_well_formed r.prepared.valid).ascending s) k j b i)
          ]

  -- nothing from the bound on may stand after the list if no successor may
  pub tried_all : {bound k : ℕ} {w' : List ℕ} → Tried (graph_in f h) h.states l (list_in (graph_in f h).start w place) bound ((graph_in f h).succs s) w w' k
      → length ((graph_in f h).succs s) ≤ k → (y : ℕ) → bound ≤ y → Extends (graph_in f h) l (list_in (graph_in f h).start w place ++ y ∷ []) → ⊥
  tried_all tried all y p z = let (j, i, e, there) = follower_at y z in tried.none j (omega arith) (omega arith) there

  -- if the list begins a lasso, one of the successors may stand after it
  some_follower : Extends (graph_in f h) l (list_in (graph_in f h).start w place) → (j : ℕ) × (j < length ((graph_in f h).succs s)) × Extends (graph_in f h) l (list_in (graph_in f h).start w place ++ get_or ((graph_in f h).succs s) j 0 ∷ [])
  some_follower x =
      let (y, z) = extends_step (graph_in f h) l (list_in (graph_in f h).start w place) (omega (arith, r.long, r.inside)) x in
      let (j, i, e, there) = follower_at y z in
      (j, i, there)

  -- the last state of a list that begins a lasso has a successor
  pub some_successor : Extends (graph_in f h) l (list_in (graph_in f h).start w place) → 1 ≤ length ((graph_in f h).succs s)
  some_successor x = omega (arith, (some_follower x).1)

  -- if none of the other successors may stand after a list that begins a lasso, the last one may, and is the least
  pub tried_last : {k : ℕ} {w' : List ℕ} (t : ℕ) → Tried (graph_in f h) h.states l (list_in (graph_in f h).start w place) 0 ((graph_in f h).succs s) w w' k
      → length ((graph_in f h).succs s) ≡ k + 1 → t ≡ get_or ((graph_in f h).succs s) k 0 → Extends (graph_in f h) l (list_in (graph_in f h).start w place)
      → LeastFollower (graph_in f h) l (list_in (graph_in f h).start w place) 0 t
  tried_last {k} t tried all at x =
      let (j, i, there) = some_follower x in
      elim (lt_or_ge j k) [
        | inl b ↦ absurd (tried.none j b (omega arith) there)
        | inr b ↦
            let e : get_or ((graph_in f h).succs s) j 0 ≡ t = ap (λ (u : ℕ). get_or ((graph_in f h).succs s) u 0) (equal j k b (omega arith)) ∙ sym at in
            tried_found t tried (omega arith) at (omega arith) (subst (λ (u : ℕ). Extends (graph_in f h) l (list_in (graph_in f h).start w place ++ u ∷ [])) e there)
      ]
