-- The pass back over the distances from the initial state, with the loop starts as ends: what leads on is what stands on a
-- stem, and the entries that are made of it are those of the stems.
use Prim.Native.Nat.{ℕ, zero, suc, ◌+◌, ◌*◌, ◌-◌, ◌≤◌, ◌<◌}
use native.Mathlib.Omega.{arith}
use mathlib.Core.Path.{◌≡◌, refl, ◌∙◌, ap}
use mathlib.Core.Logic.{◌↔◌, inl, inr}
use mathlib.Core.List.{List}
use mathlib.Core.Option.{Option, some, none}
use Rattle.lasso.specs.Graph.{Graph, WellFormed}
use Rattle.lasso.specs.Distance.{dist}
use Rattle.lists.specs.Limit.{under}
use Rattle.lasso.specs.Roll.{least_length}
use Rattle.lasso.proofs.Distance.{dist_step}
use Rattle.lasso.proofs.RollLaws.{least_length_range}
use Rattle.lists.proofs.Tests.{lt_or_ge}
use Rattle.frontier.specs.Regions.{entry, entry_of}
use Rattle.spread.proofs.SearchLaws.{level_within}
use Rattle.ways.specs.Ways.{KeptBack}
use Rattle.ways.proofs.WayLaws.{Tight, tight_kept}
use Rattle.starts.specs.LoopStarts.{start_loop}
use Rattle.stems.specs.Stems.{Stem, StemEntry, on_none, on_stem, on_start, flag_of}
use Rattle.stems.proofs.StemLaws.{StemWay, StemEnd, start_turns, start_at, way_least, end_way, cons_way, peel_way, way_stem, stem_way, start_stem}

-- a positive entry is that of a value
entry_some : (v : Option ℕ) → 1 ≤ entry_of v → (k : ℕ) × (v ≡ some k)
entry_some none h = absurd (omega arith)
entry_some (some k) h = (k, refl)

-- region 2 holds the distances up to the least length, and region 4 the loop lengths of the loop starts
pub record StemsReady (g : Graph) (l : ℕ) (w : List ℕ) : Type 0 where
  pub levels : (t : ℕ) → t < g.size → entry 2 g.size w t ≡ entry_of (under (suc l) (dist g g.start t))
  pub ends : (t : ℕ) → t < g.size → entry 4 g.size w t ≡ entry_of (start_loop g l t)

module _ {g : Graph} {l : ℕ} {w : List ℕ} (wf : WellFormed g) (least : least_length g ≡ some l) (ready : StemsReady g l w) where
  -- the entry of region 2 below the length is that of the distance
  level_is : (t c : ℕ) → t < g.size → c < suc l → (entry 2 g.size w t ≡ suc c) ↔ (dist g g.start t ≡ some c)
  level_is t c h low = level_within l (entry 2 g.size w t) (dist g g.start t) c (ready.levels t h) (omega arith)

  -- ways to a loop start are tight
  stem_tight : Tight g g.size l (dist g g.start) (StemWay g l) (StemEnd g l) w
  stem_tight =
      record {
        level = λ t c h low. level_is t c h (omega arith);
        up = λ s t c h at edge. dist_step wf g.start s t wf.start_state at edge;
        least = λ t c m h at way. way_least wf least t c (suc m) at way;
        ends = λ s m e. end_way wf least s (suc m) e;
        cons = λ s t m edge way. cons_way wf least s t (suc m) edge way;
        peel = λ s m way. peel_way wf least s m way;
        flagged = λ s h e.
            let (b, loop) = entry_some (start_loop g l s) (omega (arith, ready.ends s h)) in
            let (d, o) = start_stem wf least s (b, loop) in
            let turns : 1 ≤ b = start_turns wf least s b loop in
            let total : d + b ≡ l = start_at wf least s b d loop o.at in
            let long : b ≡ suc (b - 1) = omega arith in
            (d, b - 1, (level_is s d h (omega arith)).1 o.at, omega arith, loop ∙ ap (λ (x : ℕ). some x) long);
        flags = λ s c m h at total e. omega (arith, ready.ends s h, ap entry_of e);
      }

  -- after the pass
  module _ {w' : List ℕ} (kept : KeptBack g g.size w w') where
    -- what keeps its level stands on a stem
    pub kept_stem : (s c : ℕ) → s < g.size → entry 2 g.size w' s ≡ suc c → Stem g l s c
    kept_stem s c h at =
        let (near, (m, total, way)) = (tight_kept wf stem_tight kept s c h).0 at in
        way_stem wf least s c (suc m) h near total way

    -- what stands on a stem keeps its level
    pub stem_kept : (s d : ℕ) → s < g.size → Stem g l s d → (entry 2 g.size w' s ≡ suc d) × (d < l)
    stem_kept s d h o =
        let (m, total, way) = stem_way wf least o in
        ((tight_kept wf stem_tight kept s d h).1 (o.at, (m, total, way)), omega arith)

    -- the levels are at most the number of states
    pub kept_low : (s : ℕ) → s < g.size → entry 2 g.size w' s ≤ g.size
    kept_low s h = elim (lt_or_ge 0 (entry 2 g.size w' s)) [
      | inl p ↦
          let at : entry 2 g.size w' s ≡ suc (entry 2 g.size w' s - 1) = omega arith in
          let o = kept_stem s (entry 2 g.size w' s - 1) h at in
          omega (arith, stem_kept s (entry 2 g.size w' s - 1) h o, least_length_range g l least)
      | inr p ↦ omega arith
    ]

    -- the entry made of the level and the loop length
    pub kept_entry : (s e v : ℕ) → s < g.size → v ≡ entry_of (start_loop g l s) → e ≡ 2 * entry 2 g.size w' s + flag_of v → StemEntry g l s e
    kept_entry s e v h is made = by (entry 2 g.size w' s) refl (start_loop g l s) refl
      where
        flag_none : start_loop g l s ≡ none → flag_of v ≡ 0
        flag_none q = ap flag_of (is ∙ ap entry_of q)

        flag_some : (b : ℕ) → start_loop g l s ≡ some b → flag_of v ≡ 1
        flag_some b q = ap flag_of (is ∙ ap entry_of q)

        by : (level : ℕ) → entry 2 g.size w' s ≡ level → (loop : Option ℕ) → start_loop g l s ≡ loop → StemEntry g l s e
        by zero at none q = on_none (λ d o. omega (arith, stem_kept s d h o)) (omega (arith, flag_none q))
        by zero at (some b) q =
            let (d, o) = start_stem wf least s (b, q) in
            absurd (omega (arith, stem_kept s d h o))
        by (suc c) at none q =
            on_stem c (kept_stem s c h at) (λ (b, r). let z : ◌≡◌ {A = ℕ} 0 1 = cc in omega arith) (omega (arith, flag_none q))
        by (suc c) at (some b) q = on_start c (kept_stem s c h at) (b, q) (omega (arith, flag_some b q))
