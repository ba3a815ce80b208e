-- The list and the roll: what is completed from place 0 is the first, and what follows a list of the roll is found from the
-- last place back, at the first place where a greater state may stand.
use Prim.Native.Nat.{ℕ, zero, suc, ◌+◌, ◌*◌, ◌≤◌, ◌<◌}
use native.Mathlib.Omega.{arith}
use mathlib.Core.Path.{◌≡◌, sym, ◌∙◌, ap, subst}
use mathlib.Core.Logic.{inl, inr}
use mathlib.Core.Option.{some, none}
use mathlib.Core.List.{List, [], ◌∷◌, ◌++◌, head?, Memᴰ}
use lib.ListN.{length, get_or, take, drop, set, take-append-drop}
use lib.Seq.{get_or-take, get_or_at, take_at, take-take, length-take-le}
use lib.Dec.{T}
use Rattle.lasso.specs.Graph.{pathb}
use Rattle.lasso.specs.Roll.{roll}
use Rattle.lasso.specs.Following.{following}
use Rattle.lists.proofs.Tests.{lt_or_ge}
use Rattle.lasso.specs.Extends.{Extends}
use Rattle.lasso.proofs.PlaceByPlace.{first_of-roll, next_of_roll, last_of-roll}
use Rattle.lasso.proofs.RollLaws.{roll_lasso}
use Rattle.model.specs.declared.Header.{Header}
use Rattle.model.specs.Model.{graph_in}
use Rattle.model.proofs.Laws.{valid_well_formed}
use Rattle.table.specs.Changes.{SameOutside}
use Rattle.table.proofs.Laws.{same_outside_refl, same_outside_trans}
use Rattle.current.specs.Current.{list_in}
use Rattle.follow.specs.Follow.{Prepared}
use Rattle.follow.specs.Places.{LeastFollower, Kept, Completed}
use Rattle.follow.proofs.FollowTable.{prepared_same}
use Rattle.follow.proofs.ExtendLaws.{lasso_path, path_begin, extends_start}
use Rattle.follow.proofs.PlacesTable.{same_take, length_fits, kept_trans, same_kept, prepared_kept, stored_kept, stored_take}

-- the list completed from place 0 is the first of the roll
pub completed_first : {f w w' : List ℕ} {h : Header} {l : ℕ} → Prepared f h w l → Completed (graph_in f h) l 0 w w' → head? (roll (graph_in f h)) ≡ some (list_in (graph_in f h).start w' l)
completed_first {f} {w' = w'} {h} {l} p c =
    first_of-roll (graph_in f h) (valid_well_formed p.valid) l p.least (list_in (graph_in f h).start w' l) c.lasso c.length none_less
  where
    none_less : (j y : ℕ) → j ≤ l → y < get_or (list_in (graph_in f h).start w' l) j 0 → Extends (graph_in f h) l (take j (list_in (graph_in f h).start w' l) ++ y ∷ []) → ⊥
    none_less zero y a less x = omega (arith, extends_start (graph_in f h) l y x)
    none_less (suc j) y a less x = c.least (suc j) y (omega arith) a less x

-- Going back through the list of the table w, as far as to a place: at no later place a greater state may stand, and the
-- table changed in the regions 2 to 5 alone.
pub record Retreating (f : List ℕ) (h : Header) (l : ℕ) (w w' : List ℕ) (place : ℕ) : Type 0 where
  pub prepared : Prepared f h w l
  pub listed : Memᴰ (list_in (graph_in f h).start w l) (roll (graph_in f h))
  pub within : place ≤ l
  pub same : SameOutside (2 * h.states) (6 * h.states) w w'
  pub none_greater : (i y : ℕ) → place < i → i ≤ l → get_or (list_in (graph_in f h).start w l) i 0 < y → Extends (graph_in f h) l (take i (list_in (graph_in f h).start w l) ++ y ∷ []) → ⊥

-- at first no place is passed
pub retreating_none : {f w : List ℕ} {h : Header} {l : ℕ} → Prepared f h w l → Memᴰ (list_in (graph_in f h).start w l) (roll (graph_in f h)) → Retreating f h l w w l
retreating_none {w = w} {h = h} p m =
    record {
      prepared = p;
      listed = m;
      within = omega arith;
      same = same_outside_refl (2 * h.states) (6 * h.states) w;
      none_greater = λ i y a b. absurd (omega arith);
    }

-- nothing follows the list if at no place a greater state may stand
pub retreating_all : {f w w' : List ℕ} {h : Header} {l place : ℕ} → Retreating f h l w w' place → place ≤ 0 → (following (list_in (graph_in f h).start w l) (roll (graph_in f h)) ≡ none) × (take l w' ≡ take l w)
retreating_all {f} {w} {h = h} {l = l} r e = (
  last_of-roll (graph_in f h) (valid_well_formed r.prepared.valid) l r.prepared.least (list_in (graph_in f h).start w l) r.listed none_greater,
  same_take h.states l r.same (omega (arith, length_fits r.prepared)),
)
  where
    none_greater : (i y : ℕ) → i ≤ l → get_or (list_in (graph_in f h).start w l) i 0 < y → Extends (graph_in f h) l (take i (list_in (graph_in f h).start w l) ++ y ∷ []) → ⊥
    none_greater zero y a more x = omega (arith, extends_start (graph_in f h) l y x)
    none_greater (suc i) y a more x = r.none_greater (suc i) y (omega arith) a more x

-- A greater state is looked for at the place that index p of the table holds.
pub record Raising (f : List ℕ) (h : Header) (l : ℕ) (w w' : List ℕ) (p bound : ℕ) : Type 0 where
  pub retreating : Retreating f h l w w' (p + 1)
  pub bound_is : bound ≡ get_or w p 0 + 1

-- one place back, from the state after the one that stands there on
pub raising_from : {f w w' : List ℕ} {h : Header} {l place : ℕ} (p bound : ℕ) → Retreating f h l w w' place → place ≡ p + 1 → bound ≡ get_or w' p 0 + 1 → Raising f h l w w' p bound
raising_from {f} {w} {w'} {h} {l} p bound r at e =
    record {
      retreating = subst (λ (i : ℕ). Retreating f h l w w' i) at r;
      bound_is = omega (arith, e, r.same.same_before p (omega (arith, r.within, length_fits r.prepared)));
    }

-- What the search for a greater state asks and what its two answers give.
module _ {f w w' : List ℕ} {h : Header} {l p bound : ℕ} (r : Raising f h l w w' p bound) where
  -- the place is one of the list
  inside : p < l
  inside = omega (arith, r.retreating.within)

  -- the list up to the place is as it was
  same_list : take p w' ≡ take p w
  same_list = same_take h.states p r.retreating.same (omega (arith, inside, length_fits r.retreating.prepared))

  -- the list before the place, cut from the whole list
  before_place : take p (take l w) ≡ take p w
  before_place = take-take p l w (omega (arith, inside))

  -- the listing can go on with the table as it is
  still_prepared : Prepared f h w' l
  still_prepared = prepared_same r.retreating.prepared r.retreating.same

  -- what the search for a greater state asks
  pub raising_asks : Prepared f h w' l × ((p < l) × T (pathb (graph_in f h) (list_in (graph_in f h).start w' p)))
  raising_asks = (still_prepared, (inside, subst (λ (xs : List ℕ). T (pathb (graph_in f h) ((graph_in f h).start ∷ xs))) (before_place ∙ sym same_list) path))
    where
      whole : T (pathb (graph_in f h) (list_in (graph_in f h).start w l))
      whole = lasso_path (graph_in f h) (list_in (graph_in f h).start w l) (roll_lasso (graph_in f h) l r.retreating.prepared.least (list_in (graph_in f h).start w l) r.retreating.listed).0

      path : T (pathb (graph_in f h) ((graph_in f h).start ∷ take p (take l w)))
      path =
          path_begin (graph_in f h) ((graph_in f h).start ∷ take p (take l w)) (drop p (take l w))
          (subst (λ (xs : List ℕ). T (pathb (graph_in f h) ((graph_in f h).start ∷ xs))) (sym (take-append-drop p (take l w))) whole)

  -- the state that stands at the place
  stands : get_or (list_in (graph_in f h).start w l) (suc p) 0 ≡ get_or w p 0
  stands = get_or-take l w p 0 inside

  -- a state that may stand at the place of the whole list may stand after the list up to there
  pub may_stand : (y : ℕ) → Extends (graph_in f h) l (take (suc p) (list_in (graph_in f h).start w l) ++ y ∷ []) → Extends (graph_in f h) l (list_in (graph_in f h).start w' p ++ y ∷ [])
  may_stand y x = subst (λ (xs : List ℕ). Extends (graph_in f h) l ((graph_in f h).start ∷ xs ++ y ∷ [])) (before_place ∙ sym same_list) x

  -- if no state from the bound on may stand at the place, it is passed
  pub raising_nothing : {v : List ℕ} → SameOutside (2 * h.states) (6 * h.states) w' v → ((y : ℕ) → bound ≤ y → Extends (graph_in f h) l (list_in (graph_in f h).start w' p ++ y ∷ []) → ⊥) → Retreating f h l w v p
  raising_nothing same nothing =
      record {
        prepared = r.retreating.prepared;
        listed = r.retreating.listed;
        within = omega (arith, inside);
        same = same_outside_trans r.retreating.same same;
        none_greater = none_greater;
      }
    where
      here : (y : ℕ) → get_or (list_in (graph_in f h).start w l) (suc p) 0 < y → Extends (graph_in f h) l (take (suc p) (list_in (graph_in f h).start w l) ++ y ∷ []) → ⊥
      here y more x = nothing y (omega (arith, r.bound_is, stands)) (may_stand y x)

      none_greater : (i y : ℕ) → p < i → i ≤ l → get_or (list_in (graph_in f h).start w l) i 0 < y → Extends (graph_in f h) l (take i (list_in (graph_in f h).start w l) ++ y ∷ []) → ⊥
      none_greater i y a b =
          elim (lt_or_ge (p + 1) i) [
            | inl q ↦ r.retreating.none_greater i y q b
            | inr q ↦
                let e : suc p ≡ i = omega arith in
                subst (λ (k : ℕ). get_or (list_in (graph_in f h).start w l) k 0 < y → Extends (graph_in f h) l (take k (list_in (graph_in f h).start w l) ++ y ∷ []) → ⊥) e (here y)
          ]

  -- The least state t from the bound on that may stand at the place is stored there.
  module _ {v : List ℕ} {t : ℕ} (same : SameOutside (2 * h.states) (6 * h.states) w' v) (o : LeastFollower (graph_in f h) l (list_in (graph_in f h).start w' p) bound t) where
    -- what completing the list after the place asks
    pub raised_asks : Prepared f h (set v p t) l × ((p + 1 ≤ l) × Extends (graph_in f h) l (list_in (graph_in f h).start (set v p t) (p + 1)))
    raised_asks = (
      prepared_kept still_prepared (stored_kept t still_prepared inside same),
      (omega (arith, inside), subst (λ (xs : List ℕ). Extends (graph_in f h) l ((graph_in f h).start ∷ xs)) (sym (stored_take t still_prepared inside same)) o.extends),
    )

    -- what the listing keeps is kept
    pub raised_kept : {u : List ℕ} → Completed (graph_in f h) l (p + 1) (set v p t) u → Kept h.states w u
    raised_kept c =
        kept_trans (same_kept h.states r.retreating.same)
        (kept_trans (stored_kept t still_prepared inside same) c.kept)

    -- the completed list follows the list of the table w
    pub raised_follows : {u : List ℕ} → Completed (graph_in f h) l (p + 1) (set v p t) u → following (list_in (graph_in f h).start w l) (roll (graph_in f h)) ≡ some (list_in (graph_in f h).start u l)
    raised_follows {u} c =
        next_of_roll (graph_in f h) (valid_well_formed r.retreating.prepared.valid) l r.retreating.prepared.least (list_in (graph_in f h).start w l) (list_in (graph_in f h).start u l) (suc p)
        r.retreating.listed c.lasso c.length inside agrees
        (omega (arith, stands, raised, r.bound_is, o.from_bound))
        (λ y more less x. o.least y (omega (arith, r.bound_is, stands)) (omega (arith, raised)) (may_stand y x))
        (λ i y a. c.least i y (omega arith))
        (λ i y a. r.retreating.none_greater i y (omega arith))
      where
        begins : take (p + 1) u ≡ take p w ++ t ∷ []
        begins = c.prefix ∙ stored_take t still_prepared inside same ∙ ap (λ (xs : List ℕ). xs ++ t ∷ []) same_list

        long : length (take p w) ≡ p
        long = length-take-le p w (omega (arith, inside, length_fits r.retreating.prepared, r.retreating.prepared.room))

        agrees : take (suc p) (list_in (graph_in f h).start u l) ≡ take (suc p) (list_in (graph_in f h).start w l)
        agrees =
            ap (λ (xs : List ℕ). (graph_in f h).start ∷ xs)
            (take-take p l u (omega (arith, inside)) ∙ sym (take-take p (p + 1) u (omega arith)) ∙ ap (take p) begins ∙ take_at (take p w) (t ∷ []) p long ∙ sym before_place)

        raised : get_or (list_in (graph_in f h).start u l) (suc p) 0 ≡ t
        raised =
            get_or-take l u p 0 inside ∙ sym (get_or-take (p + 1) u p 0 (omega arith)) ∙ ap (λ (xs : List ℕ). get_or xs p 0) begins
            ∙ get_or_at (take p w) t [] 0 p long
