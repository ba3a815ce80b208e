-- What was to be shown about paths is so, and the roll and distances are what they are said to be.
use Prim.Native.Nat.{ℕ, suc, ◌+◌, ◌-◌, ◌≤◌, ◌<◌}
use mathlib.Core.Path.{◌≡◌, refl, sym, ◌∙◌, ap, subst}
use mathlib.Core.Logic.{inl, inr}
use mathlib.Core.List.{List, [], ◌∷◌, Memᴰ}
use mathlib.Core.Option.{Option}
use native.Mathlib.Omega.{arith}
use lib.ListN.{length, get_or}
use lib.Dec.{T, eqb}
use Rattle.lists.specs.Lists.{memb, anyb, up_from}
use Rattle.lasso.specs.Graph.{Graph, edgeb, pathb, edges, loopsb, lassob, acceptingb, loop_start}
use Rattle.lasso.specs.Distance.{dist, dist_plus}
use Rattle.lasso.specs.Roll.{least_length, roll}
use Rattle.lasso.specs.Shown.{HasLength, OfLeastLength, ToBeShown, RollShown, NoEdgeOut, PathLength, DistanceShown, DistancePlusShown}
use Rattle.lists.proofs.Tests.{parts, join, memb_at, eq→eqb, eq_or_apart, range_up_from, some_anyb}
use Rattle.lists.proofs.Least.{IsLeast, is_least_by, is_least_bounds, is_least_iff}
use Rattle.lasso.proofs.Walk.{Walk, walk_from, walk_to, walk_length, walk_uncons, run_path, run_last, path_segment}
use Rattle.lasso.proofs.Distance.{dist_least, dist_plus_least}
use Rattle.lasso.proofs.Lasso.{Lasso, accepting_iff, accepting_length, loop_start_lem}
use Rattle.lasso.proofs.Cut.{lasso_accepting, least_lasso_accepting}
use Rattle.lists.proofs.Sorted.{sorted_at}
use Rattle.lasso.proofs.OrderLaws.{Before, before_irrefl}
use Rattle.lasso.proofs.RollLaws.{accepting_lasso, least_length_least, roll_strict, in_roll}
use Rattle.lasso.proofs.RoundLaws.{loop_lasso}

-- an accepting path of a length is a lasso of that length
accepting_has : (g : Graph) (l : ℕ) → HasLength (acceptingb g) l → HasLength (lassob g) l
accepting_has g l (xs, acc, e) = (xs, accepting_lasso g xs acc, e)

-- a lasso of a length gives an accepting path that is no longer
lasso_has : (g : Graph) (l : ℕ) → HasLength (lassob g) l → (m : ℕ) × HasLength (acceptingb g) m × (m ≤ l)
lasso_has g l (xs, h, e) = let (ys, acc, le) = lasso_accepting g xs h in (edges ys, (ys, acc, refl), omega arith)

-- the least length of an accepting path is that of a lasso
least_of_lassos : (g : Graph) (l : Option ℕ) → IsLeast (HasLength (acceptingb g)) l → IsLeast (HasLength (lassob g)) l
least_of_lassos g l least = is_least_by (HasLength (acceptingb g)) (HasLength (lassob g)) l (accepting_has g) (lasso_has g) least

-- the least length of a lasso is that of an accepting path
least_of_accepting : (g : Graph) (l : Option ℕ) → IsLeast (HasLength (lassob g)) l → IsLeast (HasLength (acceptingb g)) l
least_of_accepting g l least =
    is_least_bounds (HasLength (lassob g)) (HasLength (acceptingb g)) l (lasso_has g)
    (λ n h. (n, accepting_has g n h, omega arith)) least

-- a lasso of least length is an accepting path
least_accepting : (g : Graph) (xs : List ℕ) → OfLeastLength (lassob g) xs → T (acceptingb g xs)
least_accepting g xs (h, least) = least_lasso_accepting g xs h (λ ys acc. least ys (accepting_lasso g ys acc))

-- an accepting path of least length is a lasso of least length
least_lasso : (g : Graph) (xs : List ℕ) → OfLeastLength (acceptingb g) xs → OfLeastLength (lassob g) xs
least_lasso g xs (acc, least) = (
  accepting_lasso g xs acc,
  λ ys h. let (zs, acc', le) = lasso_accepting g ys h in omega (arith, least zs acc'),
)

-- from where its loop starts an accepting path is a closed walk with a mark
loops_there : (g : Graph) (xs : List ℕ) → T (acceptingb g xs) → T (loopsb g xs (loop_start xs))
loops_there g xs acc =
    let (low, closes, unique) = loop_start_lem g xs acc in
    let (q, mark, (l, different)) = (accepting_iff g xs).0 acc in
    let e : l.k ≡ loop_start xs = unique l.k (omega arith) (sym l.closes) in
    let marked : T (g.marked (get_or xs l.r 0)) = rw l.holds mark in
    let k : ℕ = loop_start xs in
    let n : ℕ = edges xs - loop_start xs in
    let in-r : Memᴰ l.r (up_from k n) = range_up_from k n l.r (omega arith) (omega arith) in
    let marks : T (anyb (λ r. g.marked (get_or xs r 0)) (up_from k n)) = some_anyb (λ r. g.marked (get_or xs r 0)) in-r marked in
    let closed : T (eqb (get_or xs (edges xs) 0) (get_or xs (loop_start xs) 0)) = eq→eqb _ _ (sym closes) in
    search join

pub to_be_shown : ToBeShown
to_be_shown g wf = record {
  same_existence = (
    λ (xs, h). let (ys, acc, le) = lasso_accepting g xs h in (ys, acc),
    λ (xs, acc). (xs, accepting_lasso g xs acc),
  );
  same_least = λ l. (least_of_accepting g l, least_of_lassos g l);
  least_length = least_of_lassos g (least_length g) (least_length_least g wf);
  rule_obeyed = λ xs h. let acc : T (acceptingb g xs) = least_accepting g xs h in search parts;
  same_paths = λ xs. (
    λ h. (least_accepting g xs h, λ ys acc. h.1 ys (accepting_lasso g ys acc)),
    least_lasso g xs,
  );
  length_le = λ xs acc. accepting_length g xs wf acc;
  one_place = λ xs acc k.
      let (low, closes, unique) = loop_start_lem g xs acc in
      (λ h. unique k h.0 h.1, λ e. rw e (low, closes));
  loop_there = loops_there g;
}

-- of two places of the roll the earlier one holds the list that is before
roll_ordered : (g : Graph) (i j : ℕ) → i < j → j < length (roll g) → Before (get_or (roll g) i []) (get_or (roll g) j [])
roll_ordered g = sorted_at Before [] (roll g) (roll_strict g)

-- two places of the roll, of which the first is the earlier one, do not hold the same list
roll_apart : (g : Graph) (i j : ℕ) → i < j → j < length (roll g) → get_or (roll g) i [] ≡ get_or (roll g) j [] → ⊥
roll_apart g i j less l e =
    before_irrefl (get_or (roll g) j []) (subst (λ (xs : List ℕ). Before xs (get_or (roll g) j [])) e (roll_ordered g i j less l))

pub roll_shown : RollShown
roll_shown g wf = record {
  holds = in_roll g wf;
  ordered = roll_ordered g;
  once = λ i j in-i in-j e. elim (eq_or_apart i j) [
    | inl same ↦ same
    | inr (inl less) ↦ absurd (roll_apart g i j less in-j e)
    | inr (inr more) ↦ absurd (roll_apart g j i more in-i (sym e))
  ];
}

-- a path that goes on from a place leaves its state by an edge
path_goes_on : (g : Graph) (xs : List ℕ) (j : ℕ) → T (pathb g xs) → j < edges xs → (t : ℕ) × T (edgeb g (get_or xs j 0) t)
path_goes_on g xs j h less =
    let w = path_segment g xs h j (j + 1) (omega arith) (omega arith) in
    let (t, e, rest) = walk_uncons {m = 0} (walk_length (omega arith) w) in
    (t, e)

-- a path does not go on from a state with no edge out
path_ends : (g : Graph) (s : ℕ) → g.succs s ≡ [] → (xs : List ℕ) → T (pathb g xs) → (j : ℕ) → get_or xs j 0 ≡ s
    → j < edges xs → ⊥
path_ends g s none xs h j at less =
    let (t, e) = path_goes_on g xs j h less in
    let e' : T (edgeb g s t) = subst (λ (x : ℕ). T (edgeb g x t)) at e in
    subst (λ (ts : List ℕ). T (memb t ts)) none e'

pub no_edge_out : NoEdgeOut
no_edge_out g s none = record {
  last = path_ends g s none;
  no_closed_path = λ xs h closes m.
      let (j, inside, at) = memb_at s xs m in
      elim (eq_or_apart j (edges xs)) [
        | inl e ↦ path_ends g s none xs h 0 (closes.1 ∙ ap (λ (i : ℕ). get_or xs i 0) (sym e) ∙ at) closes.0
        | inr (inl less) ↦ path_ends g s none xs h j at less
        | inr (inr more) ↦ absurd (omega arith)
      ];
  no_loop = λ xs acc m.
      let l : Lasso g s xs = loop_lasso s xs acc m in
      path_ends g s none xs l.path l.r l.holds l.r_lt;
}

-- the states of a walk are a path with as many edges
walk_path : (g : Graph) (s t n : ℕ) → Walk g s t n → PathLength g s t n
walk_path g s t n (us, run, e) =
    (s ∷ us, run_path run, ap suc e, refl, ap (λ (i : ℕ). get_or (s ∷ us) i 0) (sym e) ∙ run_last run)

-- a path is a walk with as many edges
path_walk : (g : Graph) (s t n : ℕ) → PathLength g s t n → Walk g s t n
path_walk g s t n (xs, path, long, first, last) =
    let w = path_segment g xs path 0 n (omega arith) (omega arith) in
    walk_from (sym first) (walk_to (walk_length (omega arith) w) last)

pub distance_shown : DistanceShown
distance_shown g wf s t l =
    is_least_iff (Walk g s t) (PathLength g s t) (dist g s t) (walk_path g s t) (path_walk g s t) (dist_least wf s t l)

pub distance_plus_shown : DistancePlusShown
distance_plus_shown g wf s t =
    is_least_iff (λ n. (1 ≤ n) × Walk g s t n) (λ n. (1 ≤ n) × PathLength g s t n) (dist_plus g s t)
    (λ n h. (h.0, walk_path g s t n h.1)) (λ n h. (h.0, path_walk g s t n h.1)) (dist_plus_least wf s t)
