-- What the listing keeps in the working table, and the list that stands there up to a place.
use Prim.Native.Nat.{ℕ, zero, suc, ◌+◌, ◌*◌, ◌≤◌, ◌<◌}
use native.Mathlib.Omega.{arith}
use mathlib.Core.Path.{◌≡◌, refl, sym, ◌∙◌, ap, subst}
use mathlib.Core.Logic.{inl, inr}
use mathlib.Core.List.{List, [], ◌∷◌, ◌++◌}
use lib.ListN.{length, get_or, take, set, length-take, length-set}
use lib.Seq.{ext_get_or, get_or-take, get_or-set_same, get_or-set_other, length-take-le}
use lib.Dec.{T}
use Rattle.lasso.specs.Graph.{WellFormed, pathb}
use Rattle.lists.proofs.Tests.{lt_or_ge}
use Rattle.lists.proofs.Places.{set-take}
use Rattle.lasso.proofs.Walk.{path_states}
use Rattle.lasso.proofs.RollLaws.{least_length_range}
use Rattle.model.specs.declared.Header.{Header}
use Rattle.model.specs.Model.{graph_in}
use Rattle.model.proofs.Laws.{Sizes, valid_sizes, valid_well_formed}
use Rattle.table.specs.Changes.{SameOutside}
use Rattle.current.specs.Current.{state_at, list_in}
use Rattle.stems.proofs.StemTable.{stems_kept}
use Rattle.follow.specs.Follow.{Prepared, StatesTo}
use Rattle.follow.specs.Places.{LeastFollower, Kept}
use Rattle.follow.proofs.FollowTable.{prepared_same}
use Rattle.follow.proofs.ExtendLaws.{path_begin, extends_path}

-- the length of the list, the number of states and the room of the table
pub prepared_sizes : {f w : List ℕ} {h : Header} {l : ℕ} → Prepared f h w l → (l ≤ h.states) × (h.states ≤ 4096) × (6 * h.states ≤ length w)
prepared_sizes {f} {h = h} {l = l} p = ((least_length_range (graph_in f h) l p.least).1, (valid_sizes p.valid).states_range.1, p.room)

-- the list fits into region 0
pub length_fits : {f w : List ℕ} {h : Header} {l : ℕ} → Prepared f h w l → l ≤ h.states
length_fits p = (prepared_sizes p).0

-- the states of a path are states
pub states_to : {f : List ℕ} {h : Header} {w : List ℕ} {l : ℕ} (place : ℕ) → Prepared f h w l → place ≤ l → T (pathb (graph_in f h) (list_in (graph_in f h).start w place)) → StatesTo h w place
states_to {f} {h} {w} {l} place p i path k j =
    subst (λ (x : ℕ). x < h.states) (at k j)
    (path_states (graph_in f h) (list_in (graph_in f h).start w place) wf path wf.start_state k (omega (arith, length-take-le place w short)))
  where
    wf : WellFormed (graph_in f h)
    wf = valid_well_formed p.valid

    short : place ≤ length w
    short = omega (arith, prepared_sizes p)

    at : (k : ℕ) → k ≤ place → get_or (list_in (graph_in f h).start w place) k 0 ≡ state_at h w k
    at zero j = refl
    at (suc k) j = get_or-take place w k 0 (omega arith)

-- a change in the regions 2 to 5 keeps the list
pub same_take : (n p : ℕ) {w w' : List ℕ} → SameOutside (2 * n) (6 * n) w w' → p ≤ 2 * n → take p w' ≡ take p w
same_take n p {w} {w'} s h =
    ext_get_or 0 (take p w') (take p w) (rw (length-take p w', length-take p w, s.same_length)) (λ i q. get_or-take p w' i 0 (below i q) ∙ s.same_before i (omega (arith, below i q)) ∙ sym (get_or-take p w i 0 (below i q)))
  where
    below : (i : ℕ) → i < length (take p w') → i < p
    below i q = omega (arith, length-take p w')

-- a table keeps what it holds
pub kept_refl : (n : ℕ) (w : List ℕ) → Kept n w w
kept_refl n w = record { same_length = refl; same_stems = λ i p q. refl; same_after = λ i p. refl }

-- what two changes keep, both together keep
pub kept_trans : {n : ℕ} {u v w : List ℕ} → Kept n u v → Kept n v w → Kept n u w
kept_trans a b =
    record {
      same_length = b.same_length ∙ a.same_length;
      same_stems = λ i p q. b.same_stems i p q ∙ a.same_stems i p q;
      same_after = λ i p. b.same_after i p ∙ a.same_after i p;
    }

-- a change in the regions 2 to 5 keeps region 1 and what stands past the regions
pub same_kept : (n : ℕ) {w w' : List ℕ} → SameOutside (2 * n) (6 * n) w w' → Kept n w w'
same_kept n s =
    record { same_length = s.same_length; same_stems = λ i p q. s.same_before i q; same_after = λ i p. s.same_after i p }

-- a store in region 0 keeps the other regions
pub set_kept : (n : ℕ) (w : List ℕ) (p t : ℕ) → p < n → Kept n w (set w p t)
set_kept n w p t h =
    record {
      same_length = length-set w p t;
      same_stems = λ i a b. get_or-set_other w p i t 0 (omega arith);
      same_after = λ i a. get_or-set_other w p i t 0 (omega arith);
    }

-- the listing can go on with a table that keeps region 1
pub prepared_kept : {f w w' : List ℕ} {h : Header} {l : ℕ} → Prepared f h w l → Kept h.states w w' → Prepared f h w' l
prepared_kept {f} {w} {w'} {h} {l} p k =
    record {
      valid = p.valid;
      room = omega (arith, p.room, k.same_length);
      least = p.least;
      stems = stems_kept (λ s i. k.same_stems (1 * (graph_in f h).size + s) (omega (arith, sizes)) (omega (arith, sizes))) p.stems;
    }
  where
    sizes : Sizes f h
    sizes = valid_sizes p.valid

-- a state is stored after the list
module _ {f w : List ℕ} {h : Header} {l place : ℕ} (t : ℕ) (p : Prepared f h w l) (inside : place < l) where
  -- the listing can go on
  pub set_prepared : Prepared f h (set w place t) l
  set_prepared = prepared_kept p (set_kept h.states w place t (omega (arith, length_fits p)))

  -- if the list holds states and t is one, the longer list holds states
  pub set-states : StatesTo h w place → t < h.states → StatesTo h (set w place t) (place + 1)
  set-states states i zero j = states 0 (omega arith)
  set-states states i (suc k) j =
      elim (lt_or_ge k place) [
        | inl low ↦ rw (get_or-set_other w place k t 0 (omega arith)) (states (suc k) (omega arith))
        | inr high ↦
            let e : place ≡ k = omega arith in
            subst (λ (m : ℕ). get_or (set w place t) m 0 < h.states) e (rw (get_or-set_same w place t 0 (omega (arith, length_fits p, p.room))) i)
      ]

-- what `append` asks of the table and of the least state that may stand at the next place, which tests found
pub append_asks : {f w v : List ℕ} {h : Header} {l place bound t : ℕ} → Prepared f h w l → place < l → SameOutside (2 * h.states) (6 * h.states) w v
    → LeastFollower (graph_in f h) l (list_in (graph_in f h).start w place) bound t → Prepared f h v l × ((place < l) × (StatesTo h v place × (t < h.states)))
append_asks {f} {w} {v} {h} {l} {place} {t = t} p inside same o = (
  prepared_same p same,
  (inside, (states_to place (prepared_same p same) (omega arith) path, omega (arith, valid_sizes p.valid, o.state))),
)
  where
    path : T (pathb (graph_in f h) (list_in (graph_in f h).start v place))
    path =
        rw (same_take h.states place same (omega (arith, length_fits p)))
        (path_begin (graph_in f h) (list_in (graph_in f h).start w place) (t ∷ []) (extends_path (graph_in f h) l (list_in (graph_in f h).start w place ++ t ∷ []) o.extends))

-- a test and a store after the list keep what the listing keeps
pub stored_kept : {f w v : List ℕ} {h : Header} {l place : ℕ} (t : ℕ) → Prepared f h w l → place < l → SameOutside (2 * h.states) (6 * h.states) w v → Kept h.states w (set v place t)
stored_kept {v = v} {h = h} {place = place} t p inside same = kept_trans (same_kept h.states same) (set_kept h.states v place t (omega (arith, length_fits p)))

-- a test and a store after the list make it one longer
pub stored_take : {f w v : List ℕ} {h : Header} {l place : ℕ} (t : ℕ) → Prepared f h w l → place < l → SameOutside (2 * h.states) (6 * h.states) w v → take (place + 1) (set v place t) ≡ take place w ++ t ∷ []
stored_take {v = v} {h = h} {place = place} t p inside same =
    set-take v place t (omega (arith, length_fits p, p.room, same.same_length))
    ∙ ap (λ (xs : List ℕ). xs ++ t ∷ []) (same_take h.states place same (omega (arith, length_fits p)))
