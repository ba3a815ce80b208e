-- What is asked of a next state, and what the working table then holds after each search: the list, the stems, and the
-- levels.
use Prim.Native.Nat.{ℕ, zero, suc, ◌+◌, ◌*◌, ◌-◌, ◌/◌, ◌≤◌, ◌<◌}
use mathlib.Core.Path.{◌≡◌, refl, sym, ◌∙◌, ap, subst}
use mathlib.Core.Bool.{Bool}
use mathlib.Core.List.{List, [], ◌∷◌, ◌++◌}
use mathlib.Core.Option.{Option}
use native.Mathlib.Omega.{arith}
use lib.ListN.{length, get_or}
use lib.Seq.{length-take-le, get_or-take}
use lib.Dec.{T}
use Rattle.lists.specs.Decides.{Decides}
use Rattle.lasso.specs.Graph.{Graph, pathb}
use Rattle.lasso.specs.Distance.{dist}
use Rattle.lasso.proofs.RollLaws.{least_length_range}
use Rattle.lasso.proofs.Extend.{Ahead}
use Rattle.model.specs.declared.Header.{Header}
use Rattle.model.specs.Model.{graph_in}
use Rattle.model.proofs.Laws.{Sizes, valid_sizes, valid_well_formed}
use Rattle.table.specs.Changes.{SameOutside}
use Rattle.table.proofs.Laws.{same_outside_refl, same_outside_trans}
use Rattle.edge_search.specs.declared.SpreadAnswer.{SpreadAnswer}
use Rattle.edge_search.specs.Promises.{SpreadFrom}
use Rattle.walks.specs.Through.{marked_sources, DistancesWithin}
use Rattle.spread.proofs.SearchLaws.{spread_same_outside}
use Rattle.stems.specs.Stems.{StemEntries}
use Rattle.stems.proofs.StemTable.{stems_kept}
use Rattle.current.specs.Current.{state_at, list_in}
use Rattle.current.proofs.CurrentLaws.{list_kept}
use Rattle.follow.specs.Follow.{Prepared, StatesTo, OnStem, ClosesMarked, ClosesStart, MayFollow}
use Rattle.follow.proofs.FollowLevels.{LevelsBelow, distances_levels, marks_levels}
use Rattle.follow.proofs.FollowLaws.{Beginning, Holds, next_state, place_state, ahead_stem, stem_extends, marked_extends, closes_not_extends, closes_decides}

-- a search changes neither the stems nor the list
module _ (g : Graph) (w v : List ℕ) (same : SameOutside (2 * g.size) (6 * g.size) w v) where
  -- the stems stand as before
  stems_same : (l : ℕ) → StemEntries g l w → StemEntries g l v
  stems_same l stems =
      stems_kept (λ s h. same.same_before (1 * g.size + s) (omega arith)) stems

  -- the states of the list stand as before
  list_same : (place : ℕ) → place ≤ g.size → (k : ℕ) → k ≤ place → get_or (g.start ∷ v) k 0 ≡ get_or (list_in g.start w place) k 0
  list_same place b k h = list_kept g.start k same (omega arith) ∙ in_front k h
    where
      in_front : (k : ℕ) → k ≤ place → get_or (g.start ∷ w) k 0 ≡ get_or (list_in g.start w place) k 0
      in_front zero i = refl
      in_front (suc k) i = sym (get_or-take place w k 0 (omega arith))

-- a search keeps what is prepared
pub prepared_same : {f : List ℕ} {h : Header} {w w' : List ℕ} {l : ℕ} → Prepared f h w l → SameOutside (2 * h.states) (6 * h.states) w w' → Prepared f h w' l
prepared_same {f} {h} {w} {w'} {l} p same =
    record {
      valid = p.valid;
      room = omega (arith, p.room, same.same_length);
      least = p.least;
      stems = stems_same (graph_in f h) w w' same l p.stems;
    }

-- what is asked of state t after the list up to a place: the two are a path
pub record Asked (f : List ℕ) (h : Header) (w : List ℕ) (l place t : ℕ) : Type 0 where
  pub prepared : Prepared f h w l
  pub within : place < l
  pub path : T (pathb (graph_in f h) (list_in (graph_in f h).start w place ++ t ∷ []))

-- a state asked of, and the table after a search
module _ {f : List ℕ} {h : Header} {w : List ℕ} {l place t : ℕ} (asked : Asked f h w l place t) where
  -- the least length is at most the number of states, and the table has room for the regions
  pub asked_sizes : (l ≤ h.states) × (6 * h.states ≤ length w) × Sizes f h
  asked_sizes =
      let S : Sizes f h = valid_sizes asked.prepared.valid in
      (omega (arith, least_length_range (graph_in f h) l asked.prepared.least, S.states_are), asked.prepared.room, S)

  -- the list and the state are the beginning of a path
  pub asked_beginning : Beginning (graph_in f h) l place (list_in (graph_in f h).start w place) t
  asked_beginning =
      record {
        well_formed = valid_well_formed asked.prepared.valid;
        least = asked.prepared.least;
        within = asked.within;
        places = ap suc (length-take-le place w (omega (arith, asked_sizes, asked.within)));
        starts = refl;
        path = asked.path;
      }

  -- after a search the table holds what the tests read
  pub asked_holds : {φ : ℕ → Option ℕ} (v : List ℕ) → SameOutside (2 * (graph_in f h).size) (6 * (graph_in f h).size) w v → LevelsBelow (graph_in f h).size (l - (place + 1) + 1) v φ → Holds (graph_in f h) l place (list_in (graph_in f h).start w place) φ v
  asked_holds v same levels =
      record {
        stems = stems_same (graph_in f h) w v same l asked.prepared.stems;
        states = list_same (graph_in f h) w v same place (omega (arith, asked_sizes, asked.within));
        levels = levels;
      }

  -- after a search the states of the list are states
  pub asked_states : (v : List ℕ) → SameOutside (2 * (graph_in f h).size) (6 * (graph_in f h).size) w v → StatesTo h v place
  asked_states v same k b =
      rw (list_same (graph_in f h) w v same place (omega (arith, asked_sizes, asked.within)) k b) (place_state asked_beginning k b)

  -- a search changes regions 2 to 5 only, by the header's number of states
  pub asked_same : (v : List ℕ) → SameOutside (2 * (graph_in f h).size) (6 * (graph_in f h).size) w v → SameOutside (2 * h.states) (6 * h.states) w v
  asked_same v same = same

  -- t on a stem at its place: t may follow
  pub stem_follows : OnStem h.states w place t → MayFollow (graph_in f h) l w place t
  stem_follows x = stem_extends asked_beginning asked.prepared.stems x

  -- the states of the list by their places
  pub asked_at : (k : ℕ) → k ≤ place → state_at h w k ≡ get_or (list_in (graph_in f h).start w place) k 0
  asked_at = list_same (graph_in f h) w w (same_outside_refl _ _ w) place (omega (arith, asked_sizes, asked.within))

  -- t on no stem: the loop start is not ahead
  pub not_ahead : (OnStem h.states w place t → ⊥) → Ahead (graph_in f h) l (list_in (graph_in f h).start w place) t → ⊥
  not_ahead no_stem x = no_stem (ahead_stem asked_beginning asked.prepared.stems x)

  -- after the search from t
  module _ {count : ℕ} (v : List ℕ) (D : DistancesWithin (graph_in f h) t (l - (place + 1) + 1) w v count) where
    -- the table holds the distances from t
    near : Holds (graph_in f h) l place (list_in (graph_in f h).start w place) (dist (graph_in f h) t) v
    near = asked_holds v D.outside (distances_levels D)

    -- a loop start and a mark passed: t may follow
    pub marked_follows : ClosesMarked (graph_in f h) h.states h.start v place (l - (place + 1)) → MayFollow (graph_in f h) l w place t
    marked_follows x = marked_extends asked_beginning near x

    -- what the search on from the marked states leaves, if its limit is that of the search from t and it has no target
    abbrev SearchedOn : List ℕ → SpreadAnswer → Type 0
    SearchedOn u r = SpreadFrom (graph_in f h) (marked_sources (graph_in f h) (l - (place + 1) + 1) v) (l - (place + 1) + 1) h.states v u r

    -- both searches change regions 2 to 5 only
    pub searched_outside : (u : List ℕ) (r : SpreadAnswer) → SearchedOn u r → SameOutside (2 * (graph_in f h).size) (6 * (graph_in f h).size) w u
    searched_outside u r sp =
        same_outside_trans D.outside (spread_same_outside (graph_in f h) (marked_sources (graph_in f h) (l - (place + 1) + 1) v) (l - (place + 1) + 1) h.states r sp)

    -- t is on no stem after the search either
    stem_same : (OnStem h.states w place t → ⊥) → OnStem h.states v place t → ⊥
    stem_same never x =
        never (subst (λ (e : ℕ). e / 2 ≡ place + 2) (D.outside.same_before (1 * h.states + t) (omega (arith, next_state asked_beginning))) x)

    -- when both are ruled out
    module _ (no_stem : OnStem h.states w place t → ⊥) (no_mark : ClosesMarked (graph_in f h) h.states h.start v place (l - (place + 1)) → ⊥) where
      -- no state of the list that can start the loop is near enough: t may not follow
      pub far_not_follows : (ClosesStart h.states h.start v place (l - (place + 1)) → ⊥) → MayFollow (graph_in f h) l w place t → ⊥
      far_not_follows far =
          closes_not_extends asked_beginning near (stem_same no_stem) no_mark far

      -- the search on from the marked states decides whether t may follow
      pub via_decides : (u : List ℕ) (r : SpreadAnswer) → SearchedOn u r → (b : Bool) → Decides (ClosesStart h.states h.start u place (l - (place + 1))) b → Decides (MayFollow (graph_in f h) l w place t) b
      via_decides u r sp b known =
          let levels = marks_levels D asked_beginning.well_formed u r sp in
          closes_decides asked_beginning near (stem_same no_stem) no_mark (asked_holds u (searched_outside u r sp) levels) b known
