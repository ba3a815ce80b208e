-- Ways to a goal: no way is shorter than what is left of the least length, and how ways are put together and taken apart.
use Prim.Native.Nat.{ℕ, zero, suc, ◌+◌, ◌-◌, ◌≤◌, ◌<◌}
use native.Mathlib.Omega.{arith}
use mathlib.Core.Path.{◌≡◌, refl, sym, ◌∙◌, ap, subst}
use mathlib.Core.Logic.{◌⊎◌, inl, inr}
use mathlib.Core.Option.{some}
use lib.Dec.{T}
use Rattle.lasso.specs.Graph.{Graph, edgeb}
use Rattle.lasso.specs.Distance.{dist, reachb}
use Rattle.lists.proofs.Least.{is_least_le, is_least_has}
use Rattle.lasso.proofs.Walk.{Walk, walk_here, walk_edge, walk_cons, walk_uncons, walk_append, walk_zero, walk_length, walk_from, walk_to, reach_walk, walk_reach}
use Rattle.lasso.proofs.Distance.{dist_walk, dist_le}
use Rattle.walks.specs.Through.{via_mark}
use Rattle.walks.proofs.ThroughLaws.{ViaMark, via_mark_least}
use Rattle.starts.proofs.StartLaws.{dist_state, start_loop_least, loop_length_closed, least_length_closed_le}
use Rattle.goals.specs.Goals.{LastMark, Base, Goal, WayTo, WayThrough, StepTo}

-- a way of k steps is a walk of k edges, and back
pub to_walk : {g : Graph} {s y : ℕ} (k : ℕ) → T (reachb g k s y) → Walk g s y k
to_walk {g} {s} {y} k r = reach_walk g k s y r

pub of_walk : {g : Graph} {s y k : ℕ} → Walk g s y k → T (reachb g k s y)
of_walk {g} {s} {y} {k} w = walk_reach g k s y w

-- the list up to the loop start
module _ {g : Graph} {l : ℕ} {p : ℕ → ℕ} {b : ℕ} (o : Base g l p b) where
  -- the loop start is a state
  pub base_state : p b < g.size
  base_state = dist_state o.well_formed o.loop.at

  -- it stands before the least length
  pub base_before : b < l
  base_before =
      let (k, loop) = o.loop.is in
      let (d, at, around, total) = start_loop_least o.well_formed l (p b) k o.least loop in
      let same : d ≡ b = cc o.loop.at in
      omega (arith, (loop_length_closed o.well_formed base_state around).0)

  -- the walk along the list
  walk_steps : (i n : ℕ) → i + n ≤ b → Walk g (p i) (p (i + n)) n
  walk_steps i zero h = let e : i ≡ i + 0 = omega arith in walk_to (walk_here (p i)) (ap p e)
  walk_steps i (suc n) h =
      let e : suc i + n ≡ i + suc n = omega arith in
      walk_cons (o.edge i (omega arith)) (walk_to (walk_steps (suc i) n (omega arith)) (ap p e))

  -- from a place to a later one
  pub walk_along : (i j : ℕ) → i ≤ j → j ≤ b → Walk g (p i) (p j) (j - i)
  walk_along i j h k = let e : i + (j - i) ≡ j = omega arith in walk_to (walk_steps i (j - i) (omega arith)) (ap p e)

  -- a closed walk from a goal through a mark is no shorter than what the goal's place leaves of the least length
  goal_closed : {m y : ℕ} (q a e : ℕ) (at : Goal g l p m y) → T (g.marked q) → Walk g y q a → Walk g q y e → 1 ≤ a + e → l ≤ at.place + (a + e)
  goal_closed q a e at marked there back turns =
      least_length_closed_le o.well_formed o.least at.at (turns, (q, a, e, marked, there, back, refl))

  -- from a goal along the list
  goal_along : {m y : ℕ} (at : Goal g l p m y) (j : ℕ) → at.place ≤ j → j ≤ b → Walk g y (p j) (j - at.place)
  goal_along at j h k = walk_from (sym at.holds) (walk_along at.place j h k)

  -- a way through a mark from the loop start, and on to a goal
  pub later_least : (t c k : ℕ) → via_mark g (p b) t ≡ some c → 1 ≤ k → WayTo g l p (b + 1) t k → l ≤ b + c + k
  later_least t c k via turns (y, at, way) =
      let (q, a, e, marked, there, on, total) = is_least_has (ViaMark g (p b) (λ z m. Walk g z t m)) (via_mark g (p b) t) (via_mark_least o.well_formed (p b) base_state t) c via in
      let low : at.place ≤ b = omega (arith, at.low) in
      let from : Walk g y q (b - at.place + a) = walk_append (goal_along at b low (omega arith)) there in
      let back : Walk g q y (e + k) = walk_append on (to_walk k way) in
      omega (arith, goal_closed q (b - at.place + a) (e + k) at marked from back (omega arith))

  -- a way from the loop start, and on to a goal at or before the last mark
  pub below_least : {mark : ℕ} → LastMark g p b mark → (t c k : ℕ) → dist g (p b) t ≡ some c → 1 ≤ k → WayTo g l p mark t k → l ≤ b + c + k
  below_least {mark} marks t c k near turns (y, at, way) =
      let r : ℕ = mark - 1 in
      let marked : T (g.marked (p r)) = marks.is r (omega (arith, at.low)) in
      let low : at.place ≤ r = omega (arith, at.low) in
      let high : r ≤ b = omega (arith, marks.low, at.low) in
      let there : Walk g y (p r) (r - at.place) = goal_along at r low high in
      let back : Walk g (p r) y (b - r + c + k) = walk_append (walk_append (walk_along r b high (omega arith)) (dist_walk g (p b) t c near)) (to_walk k way) in
      omega (arith, goal_closed (p r) (r - at.place) (b - r + c + k) at marked there back (omega arith))

  -- a way from the loop start, and on through a mark to a goal
  pub through_least : (t c k : ℕ) → dist g (p b) t ≡ some c → 1 ≤ k → WayThrough g l p (b + 1) t k → l ≤ b + c + k
  through_least t c k near turns (z, y, a, e, marked, to_mark, on, at, total) =
      let low : at.place ≤ b = omega (arith, at.low) in
      let there : Walk g y z (b - at.place + c + a) = walk_append (walk_append (goal_along at b low (omega arith)) (dist_walk g (p b) t c near)) (to_walk a to_mark) in
      omega (arith, goal_closed z (b - at.place + c + a) e at marked there (to_walk e on) (omega arith))

  -- a goal that is marked is one at or before the last mark
  pub goal_marked : {mark y : ℕ} → LastMark g p b mark → Goal g l p (b + 1) y → T (g.marked y) → Goal g l p mark y
  goal_marked marks at marked =
      record {
        place = at.place;
        low = marks.last at.place (omega (arith, at.low)) (subst (λ (x : ℕ). T (g.marked x)) (sym at.holds) marked);
        holds = at.holds;
        at = at.at;
        starts = at.starts;
      }

  -- a step is a way
  pub step_way : (m s k : ℕ) → k ≡ 1 → StepTo g l p m s → WayTo g l p m s k
  step_way m s k one (y, at, edge) = (y, at, of_walk (walk_length (sym one) (walk_edge {g = g} edge)))

  -- an edge before a way
  pub cons_to : (m s t k : ℕ) → T (edgeb g s t) → WayTo g l p m t k → WayTo g l p m s (suc k)
  cons_to m s t k edge (y, at, way) = (y, at, of_walk (walk_cons {g = g} edge (to_walk k way)))

  pub cons_through : (m s t k : ℕ) → T (edgeb g s t) → WayThrough g l p m t k → WayThrough g l p m s (suc k)
  cons_through m s t k edge (z, y, a, e, marked, to_mark, on, at, total) =
      (z, y, suc a, e, marked, of_walk (walk_cons {g = g} edge (to_walk a to_mark)), on, at, omega arith)

  -- a way is a step, or starts with an edge
  pub peel_to : (m s k : ℕ) → WayTo g l p m s (suc k) → ((suc k ≡ 1) × StepTo g l p m s) ⊎ ((t : ℕ) × (j : ℕ) × (k ≡ suc j) × T (edgeb g s t) × WayTo g l p m t (suc j))
  peel_to m s zero (y, at, way) =
      let walk : Walk g s y 1 = to_walk 1 way in
      let (u, edge, rest) = walk_uncons walk in
      inl (refl, (y, at, subst (λ (x : ℕ). T (edgeb g s x)) (walk_zero rest) edge))
  peel_to m s (suc k) (y, at, way) =
      let walk : Walk g s y (suc (suc k)) = to_walk (suc (suc k)) way in
      let (u, edge, rest) = walk_uncons walk in
      inr (u, k, refl, edge, (y, at, of_walk rest))

  -- a way through a mark starts at the mark, or with an edge
  pub peel_through : {mark : ℕ} → LastMark g p b mark → (s k : ℕ) → WayThrough g l p (b + 1) s (suc k)
      → ((suc k ≡ 1) × StepTo g l p mark s) ⊎ ((T (g.marked s) × WayTo g l p (b + 1) s (suc k)) ⊎ ((t : ℕ) × (j : ℕ) × (k ≡ suc j) × T (edgeb g s t) × WayThrough g l p (b + 1) t (suc j)))
  peel_through marks s k (z, y, zero, e, marked, to_mark, on, at, total) =
      let walk : Walk g s z 0 = to_walk 0 to_mark in
      let same : z ≡ s = sym (walk_zero walk) in
      let long : e ≡ suc k = omega arith in
      let way : Walk g s y (suc k) = walk_from (sym same) (walk_length long (to_walk e on)) in
      inr (inl (subst (λ (x : ℕ). T (g.marked x)) same marked, (y, at, of_walk way)))
  peel_through marks s zero (z, y, suc a, e, marked, to_mark, on, at, total) =
      let walk : Walk g s z (suc a) = to_walk (suc a) to_mark in
      let (u, edge, rest) = walk_uncons walk in
      let none_left : a ≡ 0 = omega arith in
      let none-on : e ≡ 0 = omega arith in
      let at-z : u ≡ z = walk_zero (walk_length none_left rest) in
      let last : Walk g z y e = to_walk e on in
      let at_y : z ≡ y = walk_zero (walk_length none-on last) in
      inl (refl, (y, goal_marked marks at (subst (λ (x : ℕ). T (g.marked x)) at_y marked), subst (λ (x : ℕ). T (edgeb g s x)) (at-z ∙ at_y) edge))
  peel_through marks s (suc k) (z, y, suc a, e, marked, to_mark, on, at, total) =
      let walk : Walk g s z (suc a) = to_walk (suc a) to_mark in
      let (u, edge, rest) = walk_uncons walk in
      inr (inr (u, k, refl, edge, (z, y, a, e, marked, of_walk rest, on, at, omega arith)))

  -- the least steps through a mark grow by at most one along an edge
  pub via_step : (s t c : ℕ) → via_mark g (p b) s ≡ some c → T (edgeb g s t) → (d : ℕ) × (via_mark g (p b) t ≡ some d) × (d ≤ c + 1)
  via_step s t c via edge =
      let (q, a, e, marked, there, on, total) = is_least_has (ViaMark g (p b) (λ z m. Walk g z s m)) (via_mark g (p b) s) (via_mark_least o.well_formed (p b) base_state s) c via in
      is_least_le (ViaMark g (p b) (λ z m. Walk g z t m)) (via_mark g (p b) t) (via_mark_least o.well_formed (p b) base_state t) (c + 1) (q, a, e + 1, marked, there, walk_append on (walk_edge edge), omega arith)

  -- for a marked state they are the distance
  pub via_marked : (s c : ℕ) → T (g.marked s) → dist g (p b) s ≡ some c → via_mark g (p b) s ≡ some c
  via_marked s c marked near =
      let (v, via, low) = is_least_le (ViaMark g (p b) (λ z m. Walk g z s m)) (via_mark g (p b) s) (via_mark_least o.well_formed (p b) base_state s) c (s, c, 0, marked, dist_walk g (p b) s c near, walk_here s, omega arith) in
      let (q, a, e, _, there, on, total) = is_least_has (ViaMark g (p b) (λ z m. Walk g z s m)) (via_mark g (p b) s) (via_mark_least o.well_formed (p b) base_state s) v via in
      let (d, at, high) = dist_le o.well_formed base_state (walk_append there on) in
      let same : d ≡ c = cc in
      let equal : v ≡ c = omega arith in
      via ∙ ap (λ (x : ℕ). some x) equal
