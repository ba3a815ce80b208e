-- The passes that make the tables: what keeps its level is what the table says.
use Prim.Native.Nat.{ℕ, suc, ◌+◌, ◌-◌, ◌≤◌, ◌<◌}
use native.Mathlib.Omega.{arith}
use mathlib.Core.Path.{◌≡◌, refl, sym, ◌∙◌}
use mathlib.Core.Logic.{◌↔◌, ◌⊎◌, inl, inr}
use mathlib.Core.List.{List}
use mathlib.Core.Option.{some}
use lib.Dec.{T}
use Rattle.lasso.specs.Graph.{Graph, edgeb}
use Rattle.lists.proofs.Tests.{eq→eqb}
use Rattle.lasso.specs.Distance.{dist}
use Rattle.lasso.proofs.Distance.{dist_step}
use Rattle.frontier.specs.Regions.{entry}
use Rattle.walks.specs.Through.{via_mark}
use Rattle.ways.specs.Ways.{KeptBack}
use Rattle.ways.proofs.WayLaws.{Tight, tight_kept}
use Rattle.goals.specs.Goals.{LastMark, Base, WayTo, WayThrough, StepTo, Later, Sooner, LaterReady, SoonerReady}
use Rattle.goals.proofs.GoalLaws.{base_state, base_before, later_least, below_least, through_least, step_way, cons_to, cons_through, peel_to, peel_through, via_step, via_marked}

-- the ways and ends of the table for lists with a mark after the loop start
abbrev LaterWay : Graph → ℕ → (ℕ → ℕ) → ℕ → ℕ → ℕ → Type 0
LaterWay g l p b s k = WayTo g l p (b + 1) s k

abbrev LaterEnd : Graph → ℕ → (ℕ → ℕ) → ℕ → ℕ → ℕ → Type 0
LaterEnd g l p b s k = (k ≡ 1) × StepTo g l p (b + 1) s

-- those of the table for lists with none
abbrev SoonerWay : Graph → ℕ → (ℕ → ℕ) → ℕ → ℕ → ℕ → ℕ → Type 0
SoonerWay g l p b mark s k = WayTo g l p mark s k ⊎ WayThrough g l p (b + 1) s k

abbrev SoonerEnd : Graph → ℕ → (ℕ → ℕ) → ℕ → ℕ → ℕ → ℕ → Type 0
SoonerEnd g l p b mark s k = ((k ≡ 1) × StepTo g l p mark s) ⊎ (T (g.marked s) × WayTo g l p (b + 1) s k)

module _ {g : Graph} {l : ℕ} {p : ℕ → ℕ} {b : ℕ} (o : Base g l p b) where
  -- the ways through a mark after the loop start are tight
  later_tight : {w : List ℕ} → LaterReady g l p b w → Tight g g.size (l - b) (via_mark g (p b)) (LaterWay g l p b) (LaterEnd g l p b) w
  later_tight ready =
      record {
        level = λ t c h low. ready.level t c h (omega arith);
        up = λ s t c h via edge. via_step o s t c via edge;
        least = λ t c m h via way. omega (arith, later_least o t c (suc m) via (omega arith) way);
        ends = λ s m e. step_way o (b + 1) s (suc m) e.0 e.1;
        cons = λ s t m edge way. cons_to o (b + 1) s t (suc m) edge way;
        peel = λ s m way. peel_to o (b + 1) s m way;
        flagged = λ s h e.
            let (last, step) = (ready.ends s h).0 e in
            (l - b - 1, 0, omega (arith, base_before o), omega (arith, base_before o), (refl, step));
        flags = λ s c m h at total e. (ready.ends s h).1 (omega (arith, e.0, base_before o), e.1);
      }

  -- the pass leaves the table for lists with a mark after the loop start
  pub later_made : {w w' : List ℕ} → LaterReady g l p b w → KeptBack g g.size w w' → (t c : ℕ) → t < g.size → (entry 2 g.size w' t ≡ suc c) ↔ Later g l p b t c
  later_made ready kept t c h =
      let both = tight_kept o.well_formed (later_tight ready) kept t c h in (
        λ at. let (via, (m, total, way)) = both.0 at in (via, (m, omega (arith, base_before o), way)),
        λ x. let (via, (m, total, way)) = x in both.1 (via, (m, omega arith, way)),
      )

  -- up to the last mark
  module _ {mark : ℕ} (marks : LastMark g p b mark) where
    -- the ways to a goal at or before the last mark and those through a mark are tight
    sooner_tight : {w : List ℕ} → SoonerReady g l p b mark w → Tight g g.size (l - b) (dist g (p b)) (SoonerWay g l p b mark) (SoonerEnd g l p b mark) w
    sooner_tight {w} ready =
        record {
          level = λ t c h low. ready.level t c h (omega arith);
          up = λ s t c h near edge. dist_step o.well_formed (p b) s t (base_state o) near edge;
          least = λ t c m h near way. omega (arith, least t c m near way);
          ends = ends;
          cons = cons;
          peel = peel;
          flagged = flagged;
          flags = flags;
        }
      where
        least : (t c m : ℕ) → dist g (p b) t ≡ some c → SoonerWay g l p b mark t (suc m) → l ≤ b + c + suc m
        least t c m near (inl way) = below_least o marks t c (suc m) near (omega arith) way
        least t c m near (inr way) = through_least o t c (suc m) near (omega arith) way

        ends : (s m : ℕ) → SoonerEnd g l p b mark s (suc m) → SoonerWay g l p b mark s (suc m)
        ends s m (inl (one, step)) = inl (step_way o mark s (suc m) one step)
        ends s m (inr (marked, (y, at, way))) = inr (s, y, 0, suc m, marked, eq→eqb s s refl, way, at, omega arith)

        cons : (s t m : ℕ) → T (edgeb g s t) → SoonerWay g l p b mark t (suc m) → SoonerWay g l p b mark s (suc (suc m))
        cons s t m edge (inl way) = inl (cons_to o mark s t (suc m) edge way)
        cons s t m edge (inr way) = inr (cons_through o (b + 1) s t (suc m) edge way)

        peel : (s m : ℕ) → SoonerWay g l p b mark s (suc m) → SoonerEnd g l p b mark s (suc m) ⊎ ((t : ℕ) × (k : ℕ) × (m ≡ suc k) × T (edgeb g s t) × SoonerWay g l p b mark t (suc k))
        peel s m (inl way) =
            elim (peel_to o mark s m way) [
              | inl e ↦ inl (inl e)
              | inr (t, k, more, edge, rest) ↦ inr (t, k, more, edge, inl rest)
            ]
        peel s m (inr way) =
            elim (peel_through o marks s m way) [
              | inl e ↦ inl (inl e)
              | inr (inl e) ↦ inl (inr e)
              | inr (inr (t, k, more, edge, rest)) ↦ inr (t, k, more, edge, inr rest)
            ]

        flagged : (s : ℕ) → s < g.size → 1 ≤ entry 4 g.size w s → (c : ℕ) × (m : ℕ) × (entry 2 g.size w s ≡ suc c) × (c + suc m ≡ l - b) × SoonerEnd g l p b mark s (suc m)
        flagged s h e =
            elim ((ready.ends s h).0 e) [
              | inl (last, step) ↦ (l - b - 1, 0, omega (arith, base_before o), omega (arith, base_before o), inl (refl, step))
              | inr (marked, reached, same) ↦
                  let c : ℕ = entry 2 g.size w s - 1 in
                  let at : entry 2 g.size w s ≡ suc c = omega arith in
                  let (via, (m, total, way)) = (ready.table.later s c h).0 (same ∙ at) in
                  (c, m, at, omega arith, inr (marked, way))
            ]

        flags : (s c m : ℕ) → s < g.size → entry 2 g.size w s ≡ suc c → c + suc m ≡ l - b → SoonerEnd g l p b mark s (suc m) → 1 ≤ entry 4 g.size w s
        flags s c m h at total (inl (one, step)) = (ready.ends s h).1 (inl (omega (arith, base_before o), step))
        flags s c m h at total (inr (marked, way)) =
            let near : dist g (p b) s ≡ some c = (ready.level s c h (omega arith)).0 at in
            let there : entry 5 g.size w s ≡ suc c = (ready.table.later s c h).1 (via_marked o s c marked near, (m, omega arith, way)) in
            (ready.ends s h).1 (inr (marked, omega arith, there ∙ sym at))

    -- the pass leaves the table for lists with no mark after the loop start
    pub sooner_made : {w w' : List ℕ} → SoonerReady g l p b mark w → KeptBack g g.size w w' → (t c : ℕ) → t < g.size → (entry 2 g.size w' t ≡ suc c) ↔ Sooner g l p b mark t c
    sooner_made ready kept t c h =
        let both = tight_kept o.well_formed (sooner_tight ready) kept t c h in (
          λ at. let (near, (m, total, way)) = both.0 at in (near, (m, omega (arith, base_before o), way)),
          λ x. let (near, (m, total, way)) = x in both.1 (near, (m, omega arith, way)),
        )
