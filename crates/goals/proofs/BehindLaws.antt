-- Which state may stand after the last loop start of a list: the one that the tables say. If the list has a mark after the
-- loop start, that is the table of ways through a mark, else the other; at the last place the state is a goal.
use Prim.Native.Nat.{ℕ, suc, ◌+◌, ◌-◌, ◌≤◌, ◌<◌}
use native.Mathlib.Omega.{arith}
use mathlib.Core.Path.{◌≡◌, refl, sym, ◌∙◌, ap, subst}
use mathlib.Core.Logic.{◌↔◌, ◌⊎◌, inl, inr}
use mathlib.Core.List.{List, [], ◌∷◌, ◌++◌}
use mathlib.Core.Option.{some}
use lib.ListN.{length, get_or}
use lib.Dec.{T}
use Rattle.lasso.specs.Graph.{Graph, WellFormed}
use Rattle.lasso.specs.Distance.{dist}
use Rattle.lasso.specs.Extends.{Extends}
use Rattle.lists.proofs.Tests.{lt_or_ge}
use Rattle.lists.proofs.Least.{is_least_le}
use Rattle.lasso.proofs.Walk.{Walk, walk_here, walk_append, walk_length, walk_zero, walk_to}
use Rattle.lasso.proofs.Distance.{dist_le}
use Rattle.lasso.proofs.Extend.{Ahead, MarkAhead, BothPassed, completes_extends}
use Rattle.walks.specs.Through.{via_mark}
use Rattle.walks.proofs.ThroughLaws.{ViaMark, via_mark_least, via_mark_marked}
use Rattle.stems.specs.Stems.{LoopAt}
use Rattle.follow.proofs.FollowLaws.{Beginning, to_place, from_place, between, ahead_loop, both_loop, extends_passed}
use Rattle.goals.specs.Goals.{LastMark, Base, Goal, WayTo, WayThrough, Later, Sooner}
use Rattle.goals.proofs.GoalLaws.{to_walk, of_walk, base_state, later_least, below_least, through_least, goal_marked}

-- a list q with its last loop start at place b, and a state t after it
pub record Behind (g : Graph) (l place b : ℕ) (q : List ℕ) (t : ℕ) : Type 0 where
  pub beginning : Beginning g l place q t
  pub base : Base g l (λ k. get_or q k 0) b
  pub inside : b ≤ place
  pub last : (k : ℕ) → b < k → k ≤ place → LoopAt g l (λ k. get_or q k 0) k → ⊥

-- a mark stands after the loop start
abbrev pub MarkBehind : Graph → List ℕ → ℕ → ℕ → Type 0
MarkBehind g q b place = (r : ℕ) × (b < r) × (r ≤ place) × T (g.marked (get_or q r 0))

module _ {g : Graph} {l place b : ℕ} {q : List ℕ} {t : ℕ} (o : Behind g l place b q t) where
  -- the state at a place
  abbrev at : ℕ → ℕ
  at k = get_or q k 0

  -- the graph is well-formed
  wf : WellFormed g
  wf = o.base.well_formed

  -- the list has a state more than edges
  places : length q ≡ suc place
  places = o.beginning.places

  -- a loop start at its place is a goal: none stands after the last one
  loop_goal : (k : ℕ) → k ≤ place → LoopAt g l at k → Goal g l at (b + 1) (at k)
  loop_goal k h x =
      elim (lt_or_ge b k) [
        | inl behind ↦ absurd (o.last k behind h x)
        | inr before ↦ record { place = k; low = omega arith; holds = refl; at = x.at; starts = x.is }
      ]

  -- a mark ahead: the state to go back to is a goal
  ahead_goal : (x : MarkAhead g l q t) → Goal g l at (b + 1) (at x.k)
  ahead_goal x = let (high, loop) = ahead_loop o.beginning x in loop_goal x.k high loop

  -- both passed: the state to go back to is a goal
  both_goal : (x : BothPassed g l q t) → Goal g l at (b + 1) (at x.k)
  both_goal x = let (high, loop) = both_loop o.beginning x in loop_goal x.k high loop

  -- a goal, a mark from its place on, and a way from t to it extend the list
  passed_extends : {m y : ℕ} (r k : ℕ) → (z : Goal g l at m y) → z.place ≤ r → r ≤ place → T (g.marked (at r)) → Walk g t y k → suc place + k ≡ l → Extends g l (q ++ t ∷ [])
  passed_extends r k z low high marked way total =
      completes_extends g q t o.beginning.path o.beginning.starts l
      (inr (inr (record {
        k = z.place;
        r = r;
        a = k;
        k_le = low;
        r_lt = omega (arith, places);
        marked = marked;
        back = walk_to way (sym z.holds);
        total = omega (arith, places);
      })))

  -- where a mark stands after the loop start
  module _ (marked : MarkBehind g q b place) where
    -- the least steps through a mark are those of the list, if a way of the rest is there
    via_here : (m : ℕ) → suc place + suc m ≡ l → WayTo g l at (b + 1) t (suc m) → via_mark g (at b) t ≡ some (suc place - b)
    via_here m total way =
        let (r, low, high, is) = marked in
        let (v, via, short) = is_least_le (ViaMark g (at b) (λ z k. Walk g z t k)) (via_mark g (at b) t) (via_mark_least wf (at b) (base_state o.base) t) (suc place - b) (at r, r - b, suc place - r, is, between o.beginning b r (omega arith) high, from_place o.beginning r high, omega arith) in
        let same : v ≡ suc place - b = omega (arith, later_least o.base t v (suc m) via (omega arith) way, o.inside) in
        via ∙ ap (λ (x : ℕ). some x) same

    -- t may follow exactly if the table of ways through a mark has it at its place
    pub later_iff : suc place < l → (Ahead g l q t → ⊥) → Extends g l (q ++ t ∷ []) ↔ Later g l at b t (suc place - b)
    later_iff more never = (there, back)
      where
        told : (m : ℕ) → suc place + suc m ≡ l → WayTo g l at (b + 1) t (suc m) → Later g l at b t (suc place - b)
        told m total way = (via_here m total way, (m, omega (arith, o.inside), way))

        there : Extends g l (q ++ t ∷ []) → Later g l at b t (suc place - b)
        there x =
            let m : ℕ = l - suc place - 1 in
            elim (extends_passed o.beginning never x) [
              | inl y ↦
                  let way : Walk g t (at y.k) (suc m) = walk_length (omega (arith, y.total, places)) (walk_append y.to_mark y.back) in
                  told m (omega arith) (at y.k, ahead_goal y, of_walk way)
              | inr y ↦
                  let way : Walk g t (at y.k) (suc m) = walk_length (omega (arith, y.total, places)) y.back in
                  told m (omega arith) (at y.k, both_goal y, of_walk way)
            ]

        back : Later g l at b t (suc place - b) → Extends g l (q ++ t ∷ [])
        back (via, (m, total, (y, z, way))) =
            let (r, low, high, is) = marked in
            passed_extends r (suc m) z (omega (arith, z.low)) high is (to_walk (suc m) way) (omega (arith, o.inside))

    -- at the last place t may follow exactly if it is a goal
    pub later_last : suc place ≡ l → Extends g l (q ++ t ∷ []) ↔ Goal g l at (b + 1) t
    later_last all = (there, back)
      where
        there : Extends g l (q ++ t ∷ []) → Goal g l at (b + 1) t
        there x =
            elim (extends_passed o.beginning (λ y. omega (arith, y.turns, y.total, places)) x) [
              | inl y ↦
                  let way : Walk g t (at y.k) 0 = walk_length (omega (arith, y.total, places)) (walk_append y.to_mark y.back) in
                  subst (λ (z : ℕ). Goal g l at (b + 1) z) (sym (walk_zero way)) (ahead_goal y)
              | inr y ↦
                  let way : Walk g t (at y.k) 0 = walk_length (omega (arith, y.total, places)) y.back in
                  subst (λ (z : ℕ). Goal g l at (b + 1) z) (sym (walk_zero way)) (both_goal y)
            ]

        back : Goal g l at (b + 1) t → Extends g l (q ++ t ∷ [])
        back z =
            let (r, low, high, is) = marked in
            passed_extends r 0 z (omega (arith, z.low)) high is (walk_here t) (omega arith)

  -- where none does
  module _ {mark : ℕ} (marks : LastMark g at b mark) (unmarked : MarkBehind g q b place → ⊥) where
    -- both passed: the state to go back to is a goal at or before the last mark
    both_below : (x : BothPassed g l q t) → Goal g l at mark (at x.k)
    both_below x =
        let y = both_goal x in
        let high : x.r ≤ place = omega (arith, x.r_lt, places) in
        elim (lt_or_ge b x.r) [
          | inl behind ↦ absurd (unmarked (x.r, behind, high, x.marked))
          | inr before ↦
              let low : x.r < mark = marks.last x.r before x.marked in
              below y x.k x.k_le low refl
        ]
      where
        below : {y r : ℕ} → Goal g l at (b + 1) y → (k : ℕ) → k ≤ r → r < mark → at k ≡ y → Goal g l at mark y
        below {y} z k h i e =
            let (d, near, low) = dist_le wf wf.start_state (to_place o.beginning k (omega (arith, marks.low, o.inside))) in
            let same : d ≡ z.place = cc z.at in
            record { place = z.place; low = omega arith; holds = z.holds; at = z.at; starts = z.starts }

    -- a goal at or before the last mark, and a way from t to it
    below_extends : {y : ℕ} (k : ℕ) → Goal g l at mark y → Walk g t y k → suc place + k ≡ l → Extends g l (q ++ t ∷ [])
    below_extends k z way total =
        let r : ℕ = mark - 1 in
        let high : r ≤ place = omega (arith, marks.low, o.inside) in
        passed_extends r k z (omega (arith, z.low)) high (marks.is r (omega (arith, z.low))) way total

    -- the distance is that of the list, if a way of the rest is there
    near_here : (m : ℕ) → suc place + suc m ≡ l → WayTo g l at mark t (suc m) ⊎ WayThrough g l at (b + 1) t (suc m) → dist g (at b) t ≡ some (suc place - b)
    near_here m total way =
        let (d, near, short) = dist_le wf (base_state o.base) (from_place o.beginning b o.inside) in
        let same : d ≡ suc place - b = elim way [
          | inl x ↦ omega (arith, below_least o.base marks t d (suc m) near (omega arith) x, o.inside)
          | inr x ↦ omega (arith, through_least o.base t d (suc m) near (omega arith) x, o.inside)
        ] in
        near ∙ ap (λ (x : ℕ). some x) same

    -- t may follow exactly if the other table has it at its place
    pub sooner_iff : suc place < l → (Ahead g l q t → ⊥) → Extends g l (q ++ t ∷ []) ↔ Sooner g l at b mark t (suc place - b)
    sooner_iff more never = (there, back)
      where
        back : Sooner g l at b mark t (suc place - b) → Extends g l (q ++ t ∷ [])
        back (near, (m, total, inl (y, z, way))) = below_extends (suc m) z (to_walk (suc m) way) (omega (arith, o.inside))
        back (near, (m, total, inr (z, y, a, e, is, to_mark, on, goal, sum))) =
            completes_extends g q t o.beginning.path o.beginning.starts l
            (inr (inl (record {
              k = goal.place;
              mark = z;
              a = a;
              b = e;
              k_lt = omega (arith, goal.low, o.inside, places);
              marked = is;
              to_mark = to_walk a to_mark;
              back = walk_to (to_walk e on) (sym goal.holds);
              total = omega (arith, o.inside, places);
            })))

        told : (m : ℕ) → suc place + suc m ≡ l → WayTo g l at mark t (suc m) ⊎ WayThrough g l at (b + 1) t (suc m) → Sooner g l at b mark t (suc place - b)
        told m total way = (near_here m total way, (m, omega (arith, o.inside), way))

        there : Extends g l (q ++ t ∷ []) → Sooner g l at b mark t (suc place - b)
        there x =
            let m : ℕ = l - suc place - 1 in
            elim (extends_passed o.beginning never x) [
              | inl y ↦
                  told m (omega arith) (inr (y.mark, at y.k, y.a, y.b, y.marked, of_walk y.to_mark, of_walk y.back, ahead_goal y, omega (arith, y.total, places)))
              | inr y ↦
                  let way : Walk g t (at y.k) (suc m) = walk_length (omega (arith, y.total, places)) y.back in
                  told m (omega arith) (inl (at y.k, both_below y, of_walk way))
            ]

    -- at the last place t may follow exactly if it is a goal at or before the last mark
    pub sooner_last : suc place ≡ l → Extends g l (q ++ t ∷ []) ↔ Goal g l at mark t
    sooner_last all = (there, λ z. below_extends 0 z (walk_here t) (omega arith))
      where
        there : Extends g l (q ++ t ∷ []) → Goal g l at mark t
        there x =
            elim (extends_passed o.beginning (λ y. omega (arith, y.turns, y.total, places)) x) [
              | inl y ↦
                  let none_there : y.a ≡ 0 = omega (arith, y.total, places) in
                  let none-back : y.b ≡ 0 = omega (arith, y.total, places) in
                  let at_mark : t ≡ y.mark = walk_zero (walk_length none_there y.to_mark) in
                  let at-goal : y.mark ≡ at y.k = walk_zero (walk_length none-back y.back) in
                  let is : T (g.marked (at y.k)) = subst (λ (z : ℕ). T (g.marked z)) at-goal y.marked in
                  subst (λ (z : ℕ). Goal g l at mark z) (sym (at_mark ∙ at-goal)) (goal_marked o.base marks (ahead_goal y) is)
              | inr y ↦
                  let way : Walk g t (at y.k) 0 = walk_length (omega (arith, y.total, places)) y.back in
                  subst (λ (z : ℕ). Goal g l at mark z) (sym (walk_zero way)) (both_below y)
            ]

-- where the loop start itself is marked
module _ {g : Graph} {l : ℕ} {p : ℕ → ℕ} {b mark : ℕ} (o : Base g l p b) (marks : LastMark g p b mark) (marked : T (g.marked (p b))) where
  -- every goal is one at or before the last mark
  mark_is_last : mark ≡ b + 1
  mark_is_last = omega (arith, marks.low, marks.last b (omega arith) marked)

  -- the least steps through a mark are the distances
  via_dist : (t : ℕ) → via_mark g (p b) t ≡ dist g (p b) t
  via_dist t = via_mark_marked o.well_formed (p b) (base_state o) t marked

  -- both tables are the same
  pub tables_same : (t c : ℕ) → Later g l p b t c ↔ Sooner g l p b mark t c
  tables_same t c = (there, back)
    where
      there : Later g l p b t c → Sooner g l p b mark t c
      there (via, (m, total, way)) =
          (sym (via_dist t) ∙ via, (m, total, inl (subst (λ (x : ℕ). WayTo g l p x t (suc m)) (sym mark_is_last) way)))

      back : Sooner g l p b mark t c → Later g l p b t c
      back (near, (m, total, inl way)) =
          (via_dist t ∙ near, (m, total, subst (λ (x : ℕ). WayTo g l p x t (suc m)) mark_is_last way))
      back (near, (m, total, inr (z, y, a, e, is, to_mark, on, goal, sum))) =
          let first : Walk g t z a = to_walk a to_mark in
          let second : Walk g z y e = to_walk e on in
          (via_dist t ∙ near, (m, total, (y, goal, of_walk (walk_length sum (walk_append first second)))))
