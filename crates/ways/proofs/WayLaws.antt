-- When a way leads on from a state: exactly if it has a way of the right length, where no way is shorter. A way is of any
-- kind that is made of an end and steps.
use Prim.Native.Nat.{ℕ, zero, suc, ◌+◌, ◌≤◌, ◌<◌}
use native.Mathlib.Omega.{arith}
use mathlib.Core.Path.{◌≡◌, refl, ◌∙◌, subst}
use mathlib.Core.Logic.{◌↔◌, ◌⊎◌, inl, inr}
use mathlib.Core.Option.{Option, some}
use mathlib.Core.List.{List}
use lib.Dec.{T}
use Rattle.lasso.specs.Graph.{Graph, WellFormed, edgeb}
use Rattle.frontier.specs.Regions.{entry}
use Rattle.ways.specs.Ways.{Leads, end, step, KeptBack}

-- levels f stand in region 2 below R; Way s m: there is a way of m steps from s; no way ends before R; the states flagged
-- are those at which a way of the rest ends, End s m
pub record Tight (g : Graph) (n R : ℕ) (f : ℕ → Option ℕ) (Way End : ℕ → ℕ → Type 0) (w : List ℕ) : Type 0 where
  pub level : (t c : ℕ) → t < n → c < R → (entry 2 n w t ≡ suc c) ↔ (f t ≡ some c)
  pub up : (s t c : ℕ) → s < n → f s ≡ some c → T (edgeb g s t) → (d : ℕ) × (f t ≡ some d) × (d ≤ c + 1)
  pub least : (t c m : ℕ) → t < n → f t ≡ some c → Way t (suc m) → R ≤ c + suc m
  pub ends : (s m : ℕ) → End s (suc m) → Way s (suc m)
  pub cons : (s t m : ℕ) → T (edgeb g s t) → Way t (suc m) → Way s (suc (suc m))
  pub peel : (s m : ℕ) → Way s (suc m) → End s (suc m) ⊎ ((t : ℕ) × (k : ℕ) × (m ≡ suc k) × T (edgeb g s t) × Way t (suc k))
  pub flagged : (s : ℕ) → s < n → 1 ≤ entry 4 n w s → (c : ℕ) × (m : ℕ) × (entry 2 n w s ≡ suc c) × (c + suc m ≡ R) × End s (suc m)
  pub flags : (s c m : ℕ) → s < n → entry 2 n w s ≡ suc c → c + suc m ≡ R → End s (suc m) → 1 ≤ entry 4 n w s

module _ {g : Graph} {n R : ℕ} {f : ℕ → Option ℕ} {Way End : ℕ → ℕ → Type 0} {w : List ℕ} (wf : WellFormed g) (size : g.size ≡ n) (o : Tight g n R f Way End w) where
  -- what leads on has a way of the rest
  leads_way : (t c : ℕ) → t < n → entry 2 n w t ≡ suc c → Leads g n w t → (m : ℕ) × (c + suc m ≡ R) × Way t (suc m)
  leads_way t c h e (end r l) =
      let (d, m, at, total, last) = o.flagged t h l in
      (m, omega arith, o.ends t m last)
  leads_way t c h e (step {t = u} r edge at l) =
      let state : u < n = omega (arith, (wf.edge_states t u edge).1) in
      let next : entry 2 n w u ≡ suc (suc c) = omega arith in
      let (m, total, way) = leads_way u (suc c) state next l in
      (suc m, omega arith, o.cons t u m edge way)

  -- a state at which a way of the rest ends leads on
  way_last : (m t c : ℕ) → t < n → f t ≡ some c → c + suc m ≡ R → End t (suc m) → Leads g n w t
  way_last m t c h e total last =
      let at : entry 2 n w t ≡ suc c = (o.level t c h (omega arith)).1 e in
      end {s = t} (omega arith) (o.flags t c m h at total last)

  -- a way of the rest leads on
  way_leads : (m t c : ℕ) → t < n → f t ≡ some c → c + suc m ≡ R → Way t (suc m) → Leads g n w t
  way_leads zero t c h e total way =
      elim (o.peel t 0 way) [
        | inl last ↦ way_last 0 t c h e total last
        | inr (u, k, more, edge, rest) ↦ absurd (omega arith)
      ]
  way_leads (suc m) t c h e total way =
      elim (o.peel t (suc m) way) [
        | inl last ↦ way_last (suc m) t c h e total last
        | inr (u, k, more, edge, rest) ↦
            let state : u < n = omega (arith, (wf.edge_states t u edge).1) in
            let (d, is, most) = o.up t u c h e edge in
            let same-k : k ≡ m = omega arith in
            let rest' : Way u (suc m) = subst (λ (x : ℕ). Way u (suc x)) same-k rest in
            let same : d ≡ suc c = omega (arith, o.least u d m state is rest') in
            let is' : f u ≡ some (suc c) = subst (λ (x : ℕ). f u ≡ some x) same is in
            let at : entry 2 n w t ≡ suc c = (o.level t c h (omega arith)).1 e in
            let next : entry 2 n w u ≡ suc (suc c) = (o.level u (suc c) state (omega arith)).1 is' in
            step {s = t} {t = u} (omega arith) edge (omega arith) (way_leads m u (suc c) state is' (omega arith) rest')
      ]

-- what a pass keeps, where ways are tight
module _ {g : Graph} {R : ℕ} {f : ℕ → Option ℕ} {Way End : ℕ → ℕ → Type 0} {w w' : List ℕ} (wf : WellFormed g) (o : Tight g g.size R f Way End w) (kept : KeptBack g g.size w w') where
  -- a level is kept exactly if a way of the rest is there
  pub tight_kept : (t c : ℕ) → t < g.size → (entry 2 g.size w' t ≡ suc c) ↔ ((f t ≡ some c) × ((m : ℕ) × (c + suc m ≡ R) × Way t (suc m)))
  tight_kept t c h = (there, back)
    where
      there : entry 2 g.size w' t ≡ suc c → (f t ≡ some c) × ((m : ℕ) × (c + suc m ≡ R) × Way t (suc m))
      there at =
          let (same, leads) = kept.leads t h (omega arith) in
          let before : entry 2 g.size w t ≡ suc c = omega arith in
          let (m, total, way) = leads_way wf refl o t c h before leads in
          ((o.level t c h (omega arith)).0 before, (m, total, way))

      back : (f t ≡ some c) × ((m : ℕ) × (c + suc m ≡ R) × Way t (suc m)) → entry 2 g.size w' t ≡ suc c
      back (at, (m, total, way)) =
          kept.kept t h (way_leads wf refl o m t c h at total way) ∙ (o.level t c h (omega arith)).1 at
