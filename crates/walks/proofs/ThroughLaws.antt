-- Laws for callers: via_mark and loop_length are least over all walks through a mark; distances and then a search on from the
-- marked states find them.
use Prim.Native.Nat.{ℕ, zero, suc, ◌+◌, ◌≤◌, ◌<◌}
use mathlib.Core.Path.{◌≡◌, refl, sym, ◌∙◌, ap, subst}
use mathlib.Core.Bool.{Bool, true, false}
use mathlib.Core.List.{List}
use mathlib.Core.Option.{Option, some}
use native.Mathlib.Omega.{arith}
use lib.Dec.{T}
use Rattle.lasso.specs.Graph.{Graph, WellFormed}
use Rattle.lasso.specs.Distance.{dist}
use Rattle.lists.proofs.Tests.{T_true}
use Rattle.lists.proofs.Least.{IsLeast, is_least_by, is_least_iff, is_least_unique}
use Rattle.lasso.proofs.Walk.{Walk, walk_here, walk_zero, walk_end_state, walk_to, walk_append, walk_length}
use Rattle.lasso.proofs.Distance.{dist_least, dist_walk, dist_le}
use Rattle.edge_search.specs.declared.SpreadAnswer.{SpreadAnswer}
use Rattle.edge_search.specs.declared.SpreadAnswer.TheVariants.{Length, Nothing}
use Rattle.frontier.specs.Regions.{entry, value_of}
use Rattle.lists.specs.Limit.{under}
use Rattle.edge_search.specs.Promises.{ExhaustedFrom, SpreadFrom}
use Rattle.walks.specs.Through.{only_if, marked_dist, via_mark, loop_length, DistancesWithin, marked_sources, LoopLength}
use Rattle.lists.proofs.UnderLaws.{under-under}
use Rattle.hits.proofs.HitLaws.{Timed, hit_level_least, hit_length_least}
use Rattle.spread.proofs.SearchLaws.{value_entry, spread_nothing, exhausted_levels, searched-length}

-- k is the length of a walk from x to a marked state q, and m more that P allows from q
abbrev pub ViaMark : Graph → ℕ → (ℕ → ℕ → Type 0) → ℕ → Type 0
ViaMark g x P k = (q : ℕ) × (a : ℕ) × (m : ℕ) × T (g.marked q) × Walk g x q a × P q m × (a + m ≡ k)

-- what is given only if a test is passed is given, and the test is passed
only_if_some : (b : Bool) (d : Option ℕ) (a : ℕ) → only_if b d ≡ some a → T b × (d ≡ some a)
only_if_some true d a e = (tt, e)
only_if_some false d a e = let z : ◌≡◌ {A = ℕ} 0 1 = cc in absurd (omega arith)

-- walks from x through a mark
module _ {g : Graph} (wf : WellFormed g) (x : ℕ) (l : x < g.size) where
  -- the least over marked states at their distances from x is the least over walks from x to them
  timed_via : (P : ℕ → ℕ → Type 0) (b : Option ℕ) → IsLeast (Timed g.size (marked_dist g x) P) b
      → IsLeast (ViaMark g x P) b
  timed_via P b least = is_least_by (Timed g.size (marked_dist g x) P) (ViaMark g x P) b from back least
    where
      from : (k : ℕ) → Timed g.size (marked_dist g x) P k → ViaMark g x P k
      from k (q, a, m, p, e, w, s) =
          let d : T (g.marked q) × (dist g x q ≡ some a) = only_if_some (g.marked q) (dist g x q) a e in
          (q, a, m, d.0, dist_walk g x q a d.1, w, s)

      back : (k : ℕ) → ViaMark g x P k → (j : ℕ) × Timed g.size (marked_dist g x) P j × (j ≤ k)
      back k (q, a, m, t, v, w, s) =
          let d : (i : ℕ) × (dist g x q ≡ some i) × (i ≤ a) = dist_le wf l v in
          (d.0 + m, (q, d.0, m, walk_end_state wf l v, rw (T_true (g.marked q) t) d.1, w, refl), omega arith)

  -- via_mark is the least length of a walk from x through a mark to t
  pub via_mark_least : (t : ℕ) → IsLeast (ViaMark g x (λ q m. Walk g q t m)) (via_mark g x t)
  via_mark_least t = timed_via (λ q m. Walk g q t m) (via_mark g x t) (hit_level_least wf (marked_dist g x) t)

  -- from a marked state the least lengths through a mark are the distances
  pub via_mark_marked : (t : ℕ) → T (g.marked x) → via_mark g x t ≡ dist g x t
  via_mark_marked t marked =
      is_least_unique (Walk g x t) (via_mark g x t) (dist g x t)
      (is_least_iff (ViaMark g x (λ q m. Walk g q t m)) (Walk g x t) (via_mark g x t)
      (λ m v. let (q, a, e, is, there, on, total) = v in walk_length total (walk_append there on))
      (λ m v. (x, 0, m, marked, walk_here x, v, omega arith))
      (via_mark_least t))
      (dist_least wf x t l)

  -- loop_length is the least length of a walk from x through a mark back to x with an edge after the mark
  loop_length-after : IsLeast (ViaMark g x (λ q m. (1 ≤ m) × Walk g q x m)) (loop_length g x)
  loop_length-after =
      timed_via (λ q m. (1 ≤ m) × Walk g q x m) (loop_length g x) (hit_length_least wf (marked_dist g x) x)

  -- loop_length is the least length of a closed walk from x with an edge and a mark: if the mark is at its end, it is at its
  -- start too
  pub loop_length_least : IsLeast (λ k. (1 ≤ k) × ViaMark g x (λ q m. Walk g q x m) k) (loop_length g x)
  loop_length_least =
      is_least_by (ViaMark g x (λ q m. (1 ≤ m) × Walk g q x m)) (λ k. (1 ≤ k) × ViaMark g x (λ q m. Walk g q x m) k) (loop_length g x) (λ k h. (omega arith, (h.0, h.1, h.2, h.3, h.4, h.5.1, h.6))) (λ k h. (k, turned k h.0 h.1, omega arith)) loop_length-after
    where
      turned : (k : ℕ) → 1 ≤ k → ViaMark g x (λ q m. Walk g q x m) k → ViaMark g x (λ q m. (1 ≤ m) × Walk g q x m) k
      turned k p (q, a, zero, t, v, w, s) =
          let e : q ≡ x = walk_zero w in
          (x, 0, a, subst (λ (y : ℕ). T (g.marked y)) e t, walk_here x, (omega arith, walk_to v e), omega arith)
      turned k p (q, a, suc m, t, v, w, s) = (q, a, suc m, t, v, (omega arith, w), s)

-- a greater limit makes no difference to a number that is given only if a test is passed
only_if-under : (b : Bool) (limit bound : ℕ) (a : Option ℕ) → limit ≤ bound
    → under limit (only_if b (under bound a)) ≡ under limit (only_if b a)
only_if-under true limit bound a l = under-under limit bound a l
only_if-under false limit bound a l = refl

-- after a call that put the distances from x, up to the limit, into region 2
module _ {g : Graph} {x limit reached : ℕ} {w w' : List ℕ} (d : DistancesWithin g x limit w w' reached) where
  -- a marked state's start level is its distance from x, if it is below the limit
  marked_sources-dist : (s : ℕ) → s < g.size → marked_sources g limit w' s ≡ under limit (marked_dist g x s)
  marked_sources-dist s l =
      ap (λ (e : ℕ). under limit (only_if (g.marked s) (value_of e))) (d.distances s l)
      ∙ ap (λ (a : Option ℕ). under limit (only_if (g.marked s) a)) (value_entry (under (suc limit) (dist g x s)))
      ∙ only_if-under (g.marked s) limit (suc limit) (dist g x s) (omega arith)

  -- the search on from the marked states leaves the least lengths through a mark, below the limit
  pub via_mark_levels : {target count : ℕ} {w'' : List ℕ}
      → ExhaustedFrom g (marked_sources g limit w') limit target w' w'' count → (s : ℕ) → s < g.size
      → under limit (value_of (entry 2 g.size w'' s)) ≡ under limit (via_mark g x s)
  via_mark_levels ex = exhausted_levels g limit (marked_sources g limit w') (marked_dist g x) marked_sources-dist ex

  -- with a target that is no state its answer is Nothing, and it leaves the least lengths through a mark
  pub via_mark_nothing : (w'' : List ℕ) → WellFormed g → (r : SpreadAnswer)
      → SpreadFrom g (marked_sources g limit w') limit g.size w' w'' r
      → (count : ℕ) × (r ≡ Nothing count) × ((s : ℕ) → s < g.size → under limit (value_of (entry 2 g.size w'' s)) ≡ under limit (via_mark g x s))
  via_mark_nothing w'' wf r sp =
      let n = spread_nothing (marked_sources g limit w') wf r sp in (n.0, n.1, via_mark_levels n.2)

  -- with target x its answer is the loop length of x
  pub loop_length_answer : (w'' : List ℕ) → (r : SpreadAnswer) → SpreadFrom g (marked_sources g limit w') limit x w' w'' r
      → LoopLength g x limit r
  loop_length_answer w'' (Length l) found =
      sym (searched-length g limit (marked_sources g limit w') (marked_dist g x) marked_sources-dist x) ∙ found.length
  loop_length_answer w'' (Nothing count) ex =
      sym (searched-length g limit (marked_sources g limit w') (marked_dist g x) marked_sources-dist x) ∙ ex.length
