-- A state stands on a stem exactly if the lengths of a way from it to a loop start and of the loop there are what its
-- distance leaves of the least length.
use Prim.Native.Nat.{ℕ, zero, suc, ◌+◌, ◌-◌, ◌≤◌, ◌<◌}
use native.Mathlib.Omega.{arith}
use mathlib.Core.Path.{◌≡◌, sym, ◌∙◌, ap, subst}
use mathlib.Core.Logic.{◌⊎◌, inl, inr}
use mathlib.Core.Option.{some}
use lib.Dec.{T}
use Rattle.lasso.specs.Graph.{Graph, WellFormed, edgeb}
use Rattle.lasso.specs.Distance.{dist}
use Rattle.lasso.specs.Roll.{least_length}
use Rattle.lasso.proofs.Walk.{Walk, walk_here, walk_cons, walk_uncons, walk_append, walk_zero}
use Rattle.lasso.proofs.Distance.{dist_walk, dist_le, dist_self}
use Rattle.starts.specs.LoopStarts.{start_loop}
use Rattle.starts.proofs.StartLaws.{dist_state, loop_length_closed, start_loop_least, start_loop_iff}
use Rattle.stems.specs.Stems.{IsStart, Stem}

-- from s a walk to a loop start, and the loop there, have m edges together
abbrev pub StemWay : Graph → ℕ → ℕ → ℕ → Type 0
StemWay g l s m = (k : ℕ) × (a : ℕ) × (b : ℕ) × Walk g s k a × (start_loop g l k ≡ some b) × (a + b ≡ m)

-- the loop at s has m edges
abbrev pub StemEnd : Graph → ℕ → ℕ → ℕ → Type 0
StemEnd g l s m = start_loop g l s ≡ some m

module _ {g : Graph} {l : ℕ} (wf : WellFormed g) (least : least_length g ≡ some l) where
  -- the loop of a loop start has an edge
  pub start_turns : (s b : ℕ) → start_loop g l s ≡ some b → 1 ≤ b
  start_turns s b e =
      let (d, at, loop, le) = (start_loop_iff wf l s b).0 e in
      (loop_length_closed wf (dist_state wf at) loop).0

  -- a loop start's distance is what its loop leaves of the least length
  pub start_at : (s b d : ℕ) → start_loop g l s ≡ some b → dist g g.start s ≡ some d → d + b ≡ l
  start_at s b d e at =
      let (d', at', loop, total) = start_loop_least wf l s b least e in
      let same : d ≡ d' = cc in
      omega arith

  -- no way is shorter than what the distance leaves
  pub way_least : (t c m : ℕ) → dist g g.start t ≡ some c → StemWay g l t m → l ≤ c + m
  way_least t c m at (k, a, b, way, loop, total) =
      let (d, at-k, le) = dist_le wf wf.start_state (walk_append (dist_walk g g.start t c at) way) in
      omega (arith, start_at k b d loop at-k)

  -- a loop start is a way of its own
  pub end_way : (s m : ℕ) → StemEnd g l s m → StemWay g l s m
  end_way s m e = (s, 0, m, walk_here s, e, omega arith)

  -- an edge before a way
  pub cons_way : (s t m : ℕ) → T (edgeb g s t) → StemWay g l t m → StemWay g l s (suc m)
  cons_way s t m edge (k, a, b, way, loop, total) = (k, suc a, b, walk_cons edge way, loop, omega arith)

  -- a way ends here, or starts with an edge
  pub peel_way : (s m : ℕ) → StemWay g l s (suc m) → StemEnd g l s (suc m) ⊎ ((t : ℕ) × (k : ℕ) × (m ≡ suc k) × T (edgeb g s t) × StemWay g l t (suc k))
  peel_way s m (k, zero, b, way, loop, total) =
      let same : k ≡ s = sym (walk_zero way) in
      let long : b ≡ suc m = omega arith in
      inl (subst (λ (x : ℕ). start_loop g l x ≡ some (suc m)) same (loop ∙ ap (λ (x : ℕ). some x) long))
  peel_way s m (k, suc a, b, way, loop, total) =
      let (t, edge, rest) = walk_uncons way in
      let turns : 1 ≤ b = start_turns k b loop in
      let left : m ≡ suc (m - 1) = omega arith in
      inr (t, m - 1, left, edge, (k, a, b, rest, loop, omega arith))

  -- a way of the right length makes a stem
  pub way_stem : (s c m : ℕ) → s < g.size → dist g g.start s ≡ some c → c + m ≡ l → StemWay g l s m → Stem g l s c
  way_stem s c m h at total (k, a, b, way, loop, long) =
      let (a', on, le) = dist_le wf h way in
      let (d, at-k, le') = dist_le wf wf.start_state (walk_append (dist_walk g g.start s c at) (dist_walk g s k a' on)) in
      let same : d ≡ c + a' = omega (arith, start_at k b d loop at-k) in
      record {
        knot = k;
        rest = a';
        at = at;
        on = on;
        whole = at-k ∙ ap (λ (x : ℕ). some x) same;
        starts = (b, loop);
      }

  -- a stem is a way of the right length
  pub stem_way : {s d : ℕ} → Stem g l s d → (m : ℕ) × (d + suc m ≡ l) × StemWay g l s (suc m)
  stem_way {s} {d} o =
      let (b, loop) = o.starts in
      let turns : 1 ≤ b = start_turns o.knot b loop in
      let total : d + o.rest + b ≡ l = start_at o.knot b (d + o.rest) loop o.whole in
      (o.rest + b - 1, omega arith, (o.knot, o.rest, b, dist_walk g s o.knot o.rest o.on, loop, omega arith))

  -- a loop start is on a stem
  pub start_stem : (s : ℕ) → IsStart g l s → (d : ℕ) × Stem g l s d
  start_stem s (b, loop) =
      let (d, at, _, total) = start_loop_least wf l s b least loop in
      let zero-on : dist g s s ≡ some 0 = dist_self wf (dist_state wf at) in
      let same : d ≡ d + 0 = omega arith in
      (d, record { knot = s; rest = 0; at = at; on = zero-on; whole = at ∙ ap (λ (x : ℕ). some x) same; starts = (b, loop) })
