-- The row of the list's last state: what reading that state gives, and what the test of one of its successors asks and
-- answers.
use Prim.Native.Nat.{ℕ, zero, suc, ◌*◌, ◌≤◌, ◌<◌}
use native.Mathlib.Omega.{arith}
use mathlib.Core.Path.{◌≡◌, refl, sym, ◌∙◌, subst}
use mathlib.Core.Bool.{Bool, true, false}
use mathlib.Core.List.{List, [], ◌∷◌, ◌++◌}
use lib.ListN.{length, get_or, take}
use lib.Seq.{get_or-take, length-take-le}
use lib.Dec.{T}
use Rattle.lasso.specs.Graph.{WellFormed, edgeb, pathb}
use Rattle.lists.proofs.Tests.{at_memb}
use Rattle.lasso.proofs.Walk.{path_states}
use Rattle.lists.specs.Decides.{Decides}
use Rattle.model.specs.declared.Header.{Header}
use Rattle.model.specs.Model.{graph_in}
use Rattle.model.proofs.Laws.{Sizes, valid_sizes, valid_well_formed}
use Rattle.table.specs.Changes.{SameOutside}
use Rattle.current.specs.Current.{list_in}
use Rattle.follow.specs.Follow.{Prepared}
use Rattle.follow.proofs.FollowTable.{prepared_same}
use Rattle.follow.proofs.ExtendLaws.{path_snoc}
use Rattle.follow.proofs.PlacesTable.{prepared_sizes, same_take}

-- the last state of the list up to a place is the one at that place
pub list_in_last : (x : ℕ) (w : List ℕ) (p : ℕ) → p ≤ length w → get_or (x ∷ take p w) (length (take p w)) 0 ≡ get_or (x ∷ w) p 0
list_in_last x w zero h = refl
list_in_last x w (suc p) h = rw (length-take-le (suc p) w h) (get_or-take (suc p) w p 0 (omega arith))

-- what is known of the state s at a place of the list, which is its last state up to there
pub record StateRead (f : List ℕ) (h : Header) (w : List ℕ) (l place s : ℕ) : Type 0 where
  pub prepared : Prepared f h w l
  pub inside : place < l
  pub path : T (pathb (graph_in f h) (list_in (graph_in f h).start w place))
  pub sizes : Sizes f h
  pub fits : l ≤ h.states
  pub long : length (take place w) ≡ place
  pub last : s ≡ get_or (list_in (graph_in f h).start w place) (length (take place w)) 0
  pub state : s < h.states

-- the state that stands at the last place of a path is its last state
pub read_row : {f w : List ℕ} {h : Header} {l place s : ℕ} → Prepared f h w l → place < l → T (pathb (graph_in f h) (list_in (graph_in f h).start w place)) → s ≡ get_or (h.start ∷ w) place 0 → StateRead f h w l place s
read_row {f} {w} {h} {l} {place} {s} p inside path at =
    record { prepared = p; inside = inside; path = path; sizes = sizes; fits = (prepared_sizes p).0; long = long; last = last; state = state }
  where
    sizes : Sizes f h
    sizes = valid_sizes p.valid

    wf : WellFormed (graph_in f h)
    wf = valid_well_formed p.valid

    short : place ≤ length w
    short = omega (arith, prepared_sizes p)

    long : length (take place w) ≡ place
    long = length-take-le place w short

    last : s ≡ get_or (list_in (graph_in f h).start w place) (length (take place w)) 0
    last = at ∙ sym (list_in_last (graph_in f h).start w place short)

    state : s < h.states
    state = omega (arith, last, sizes, path_states (graph_in f h) (list_in (graph_in f h).start w place) wf path wf.start_state (length (take place w)) (omega arith))

-- the successor at place k is joined to s by an edge
successor_edge : {f w : List ℕ} {h : Header} {l place s k : ℕ} (t : ℕ) → StateRead f h w l place s → k < length ((graph_in f h).succs s) → t ≡ get_or ((graph_in f h).succs s) k 0 → T (edgeb (graph_in f h) s t)
successor_edge {f} {h = h} {s = s} {k = k} t r inside at = subst (λ (u : ℕ). T (edgeb (graph_in f h) s u)) (sym at) (at_memb ((graph_in f h).succs s) k inside)

-- the successor at place k is a state
pub successor_state : {f w : List ℕ} {h : Header} {l place s k : ℕ} (t : ℕ) → StateRead f h w l place s → k < length ((graph_in f h).succs s) → t ≡ get_or ((graph_in f h).succs s) k 0 → t < h.states
successor_state {s = s} t r inside at = omega (arith, r.sizes, (valid_well_formed r.prepared.valid).edge_states s t (successor_edge t r inside at))

-- what the test of the successor t at place k asks, after tests of others
pub test_asks : {f w w' : List ℕ} {h : Header} {l place s k : ℕ} (t : ℕ) → StateRead f h w l place s → SameOutside (2 * h.states) (6 * h.states) w w' → k < length ((graph_in f h).succs s) → t ≡ get_or ((graph_in f h).succs s) k 0
    → Prepared f h w' l × ((place < l) × ((t < h.states) × T (pathb (graph_in f h) (list_in (graph_in f h).start w' place ++ t ∷ []))))
test_asks {f} {w} {w'} {h} {l} {place} {s} {k} t r same inside at = (prepared_same r.prepared same, (r.inside, (successor_state t r inside at, path)))
  where
    path : T (pathb (graph_in f h) (list_in (graph_in f h).start w' place ++ t ∷ []))
    path =
        rw (same_take h.states place same (omega (arith, r.inside, r.fits)))
        (path_snoc (graph_in f h) (graph_in f h).start (take place w) t r.path (subst (λ (u : ℕ). T (edgeb (graph_in f h) u t)) r.last (successor_edge t r inside at)))

-- what is so of the list after tests was so before them
pub as_before : {f w w' : List ℕ} {h : Header} {l place s : ℕ} (P : List ℕ → Type 0) → StateRead f h w l place s → SameOutside (2 * h.states) (6 * h.states) w w' → P (take place w') → P (take place w)
as_before {h = h} {place = place} P r same = subst P (same_take h.states place same (omega (arith, r.inside, r.fits)))
