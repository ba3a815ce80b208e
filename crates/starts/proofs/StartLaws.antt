-- Laws of the states that can start the loop of a shortest lasso: when a state has a loop length within the rest of the
-- least length, and that an edge enters such a state from a state no nearer to the initial state.
use Prim.Native.Nat.{ℕ, zero, suc, ◌+◌, ◌-◌, ◌≤◌, ◌<◌}
use mathlib.Core.Path.{◌≡◌, refl, subst}
use mathlib.Core.Logic.{◌↔◌}
use mathlib.Core.Option.{Option, some, none}
use native.Mathlib.Omega.{arith}
use lib.Dec.{T}
use Rattle.lasso.specs.Graph.{Graph, WellFormed, edgeb}
use Rattle.lasso.specs.Distance.{dist}
use Rattle.lasso.specs.Roll.{least_length}
use Rattle.lists.proofs.Least.{is_least_has}
use Rattle.lasso.proofs.Walk.{Walk, walk_here, walk_edge, walk_cons, walk_uncons, walk_append, walk_zero, walk_to, walk_end_state}
use Rattle.lasso.proofs.Distance.{dist_walk, dist_le}
use Rattle.lasso.proofs.Lasso.{Knot, knot→lasso, lasso→lassob}
use Rattle.lasso.proofs.RollLaws.{least_length_le}
use Rattle.walks.specs.Through.{loop_length}
use Rattle.lists.proofs.UnderLaws.{under_some, some_under}
use Rattle.walks.proofs.ThroughLaws.{ViaMark, loop_length_least}
use Rattle.starts.specs.LoopStarts.{loop_within, start_loop}

-- k is the length of a closed walk from x through a mark
abbrev pub ClosedVia : Graph → ℕ → ℕ → Type 0
ClosedVia g x k = (1 ≤ k) × ViaMark g x (λ q m. Walk g q x m) k

-- a walk with an edge ends with one
walk_unsnoc : {g : Graph} {s t : ℕ} (m : ℕ) → Walk g s t (suc m) → (u : ℕ) × Walk g s u m × T (edgeb g u t)
walk_unsnoc {g} {s} zero w =
    let (u, edge, rest) = walk_uncons w in
    (s, walk_here s, subst (λ (x : ℕ). T (edgeb g s x)) (walk_zero rest) edge)
walk_unsnoc {g} {s} {t} (suc m) w =
    let (v, edge, rest) = walk_uncons w in
    let (u, front, last) = walk_unsnoc {g = g} {s = (walk_uncons w).0} {t = t} m rest in
    (u, walk_cons edge front, last)

-- a closed walk through a mark may start at the state before its end
closed_before : {g : Graph} {x k : ℕ} → ClosedVia g x k
    → (u : ℕ) × (j : ℕ) × T (edgeb g u x) × Walk g x u j × ClosedVia g u k
closed_before {g} {x} {k} (p, (q, zero, zero, t, v, w, e)) = absurd (omega arith)
closed_before {g} {x} {k} (p, (q, suc a, zero, t, v, w, e)) =
    let (u, front, edge) = walk_unsnoc a (walk_to v (walk_zero w)) in
    let mark : T (g.marked x) = subst (λ (y : ℕ). T (g.marked y)) (walk_zero w) t in
    (u, a, edge, front, (p, (x, 1, a, mark, walk_edge edge, front, omega arith)))
closed_before {g} {x} {k} (p, (q, a, suc m, t, v, w, e)) =
    let (u, front, edge) = walk_unsnoc m w in
    (u, a + m, edge, walk_append v front, (p, (q, suc a, m, t, walk_cons edge v, front, omega arith)))

module _ {g : Graph} (wf : WellFormed g) where
  -- a state at a distance from the initial state is a state
  pub dist_state : {s d : ℕ} → dist g g.start s ≡ some d → s < g.size
  dist_state {s} {d} e = walk_end_state wf wf.start_state (dist_walk g g.start s d e)

  -- the loop length is the length of a closed walk through a mark
  pub loop_length_closed : {s b : ℕ} → s < g.size → loop_length g s ≡ some b → ClosedVia g s b
  loop_length_closed {s} {b} h e = is_least_has (ClosedVia g s) (loop_length g s) (loop_length_least wf s h) b e

  -- a walk to a state and a closed walk through a mark from there are a lasso: together they have the least length or more
  pub least_length_closed_le : {l s d k : ℕ} → least_length g ≡ some l → dist g g.start s ≡ some d → ClosedVia g s k
      → l ≤ d + k
  least_length_closed_le {l} {s} {d} {k} least e (p, (q, a, m, t, v, w, total)) =
      let around : Knot g q (d + k) = record {
        knot = s;
        a = d;
        b = a;
        c = m;
        stem = dist_walk g g.start s d e;
        there = v;
        back = w;
        turns = omega arith;
        total = omega arith;
      } in
      let (xs, lasso, long) = knot→lasso around in
      omega (arith, least_length_le g wf l least xs (lasso→lassob t lasso))

  -- a state can start the loop of a lasso with l transitions exactly if its distance and its loop length are at
  -- most l together
  pub start_loop_iff : (l s b : ℕ) → (start_loop g l s ≡ some b)
      ↔ ((d : ℕ) × (dist g g.start s ≡ some d) × (loop_length g s ≡ some b) × (d + b ≤ l))
  start_loop_iff l s b = (there (dist g g.start s) refl, λ (d, e, loop, h). back d e loop h)
    where
      there : (a : Option ℕ) → dist g g.start s ≡ a → loop_within l a (loop_length g s) ≡ some b
          → (d : ℕ) × (dist g g.start s ≡ some d) × (loop_length g s ≡ some b) × (d + b ≤ l)
      there none e h = let z : ◌≡◌ {A = ℕ} 0 1 = cc in absurd (omega arith)
      there (some d) e h =
          let (loop, low) = under_some (suc (l - d)) (loop_length g s) b h in
          (d, e, loop, omega (arith, (loop_length_closed (dist_state e) loop).0))

      back : (d : ℕ) → dist g g.start s ≡ some d → loop_length g s ≡ some b → d + b ≤ l → start_loop g l s ≡ some b
      back d e loop h = rw e (some_under (suc (l - d)) (loop_length g s) b loop (omega arith))

  -- for the least length, the distance and the loop length are that length together
  pub start_loop_least : (l s b : ℕ) → least_length g ≡ some l → start_loop g l s ≡ some b
      → (d : ℕ) × (dist g g.start s ≡ some d) × (loop_length g s ≡ some b) × (d + b ≡ l)
  start_loop_least l s b least h =
      let (d, e, loop, le) = (start_loop_iff l s b).0 h in
      (d, e, loop, omega (arith, least_length_closed_le least e (loop_length_closed (dist_state e) loop)))

  -- an edge enters a state that can start the loop of a shortest lasso from a state no nearer to the initial state
  pub start_loop_entered : (l s b : ℕ) → least_length g ≡ some l → start_loop g l s ≡ some b
      → (u : ℕ) × (d : ℕ) × (e : ℕ) × T (edgeb g u s) × (dist g g.start u ≡ some e) × (dist g g.start s ≡ some d) × (d ≤ e)
  start_loop_entered l s b least h =
      let (d, q, loop, le) = (start_loop_iff l s b).0 h in
      let (u, j, edge, on, closed) = closed_before (loop_length_closed (dist_state q) loop) in
      let (e, p, _) = dist_le wf wf.start_state (walk_append (dist_walk g g.start s d q) on) in
      (u, d, e, edge, p, q, omega (arith, least_length_closed_le least p closed))
