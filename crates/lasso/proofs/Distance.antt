-- Distances are least lengths of walks, with no bound on the walks' lengths: a walk that passes a state twice can be cut,
-- and one that does not has fewer edges than there are states.
use Prim.Native.Nat.{ℕ, zero, suc, ◌+◌, ◌-◌, ◌≤◌, ◌<◌}
use mathlib.Core.Path.{◌≡◌, ◌∙◌, ap}
use mathlib.Core.Logic.{◌⊎◌, inl, inr}
use mathlib.Core.List.{List, ◌∷◌}
use mathlib.Core.Option.{some}
use native.Mathlib.Omega.{arith}
use lib.ListN.{length, get_or}
use lib.Dec.{T}
use Rattle.lists.specs.Lists.{differentb, seek}
use Rattle.lasso.specs.Graph.{Graph, WellFormed, edgeb, pathb}
use Rattle.lasso.specs.Distance.{reachb, dist, dist_plus}
use Rattle.lists.proofs.Tests.{decide, Repeat, not_different_repeats}
use Rattle.lists.proofs.Least.{IsLeast, Passes, is_least_by, is_least_le, is_least_has, seek_least}
use Rattle.lists.proofs.Different.{length_different}
use Rattle.lasso.proofs.Walk.{Run, Walk, walk_append, walk_to, walk_cons, walk_uncons, walk_here, walk_edge, run_path, run_last, run_states, path_segment, reach_walk, walk_reach}

-- a walk that passes a state twice can be cut
pub walk_cut : {g : Graph} {s t : ℕ} {us : List ℕ} → Run g s us t → Repeat (s ∷ us)
    → (n : ℕ) × Walk g s t n × (n < length us)
walk_cut {g} {s} {us = us} r d =
    let h : T (pathb g (s ∷ us)) = run_path r in
    let front : Walk g s (get_or (s ∷ us) d.i 0) (d.i - 0) = path_segment g (s ∷ us) h 0 d.i (omega arith) (omega arith) in
    let back : Walk g (get_or (s ∷ us) d.j 0) _ (length us - d.j) = path_segment g (s ∷ us) h d.j (length us) (omega arith) (omega arith) in
    (_, walk_append (walk_to front d.same) (walk_to back (run_last r)), omega arith)

-- a walk that passes no state twice has fewer edges than there are states
pub walk_different : {g : Graph} {s t : ℕ} {us : List ℕ} → WellFormed g → s < g.size → Run g s us t
    → T (differentb (s ∷ us)) → length us < g.size
walk_different {g} {s} {us = us} wf l r d = omega (arith, length_different g.size (s ∷ us) d (run_states wf l r))

-- a walk with fewer edges than there are states and not more than m
abbrev pub Short : Graph → ℕ → ℕ → ℕ → Type 0
Short g s t m = (n : ℕ) × Walk g s t n × (n ≤ m) × (n < g.size)

-- a walk has fewer edges than there are states, or there is one with fewer edges
walk_short_or_cut : {g : Graph} {s t m : ℕ} → WellFormed g → s < g.size → Walk g s t m
    → (m < g.size) ⊎ ((n : ℕ) × Walk g s t n × (n < m))
walk_short_or_cut {g} {s} {t} {m} wf l w =
    elim (decide (differentb (s ∷ w.0))) [
      | inl d ↦ inl (omega (arith, walk_different wf l w.1 d))
      | inr d ↦ let (n, v, less) = walk_cut w.1 (not_different_repeats (s ∷ w.0) d) in inr (n, v, omega arith)
    ]

-- every walk leaves a short one, by cuts; each cut shortens the walk, so fuel for its edges is enough
walk_short_fuel : {g : Graph} {s t m : ℕ} → WellFormed g → s < g.size → (fuel : ℕ) → m ≤ fuel → Walk g s t m
    → Short g s t m
walk_short_fuel {m = m} wf l zero b w =
    elim (walk_short_or_cut wf l w) [ inl q ↦ (m, w, omega arith, q) | inr c ↦ absurd (omega arith) ]
walk_short_fuel {g} {s} {t} {m} wf l (suc fuel) b w =
    elim (walk_short_or_cut wf l w) [
      | inl q ↦ (m, w, omega arith, q)
      | inr c ↦ let (n, v, le, low) = walk_short_fuel wf l fuel (omega arith) c.1 in (n, v, omega arith, low)
    ]

-- every walk leaves a short one
pub walk_short : {g : Graph} {s t m : ℕ} → WellFormed g → s < g.size → Walk g s t m → Short g s t m
walk_short {m = m} wf l w = walk_short_fuel wf l m (omega arith) w

-- m is one of the lengths from a on that dist and dist_plus seek among, and a walk from s to t has it
abbrev Found : Graph → ℕ → ℕ → ℕ → ℕ → Type 0
Found g a s t m = Passes (λ k. reachb g k s t) a g.size m

-- what is sought is the least length found
found_least : (g : Graph) (a s t : ℕ) → IsLeast (Found g a s t) (seek (λ k. reachb g k s t) a g.size)
found_least g a s t = seek_least (λ k. reachb g k s t) a g.size

-- what is sought is found
found_has : (g : Graph) (a s t d : ℕ) → seek (λ k. reachb g k s t) a g.size ≡ some d → Found g a s t d
found_has g a s t d e = is_least_has (Found g a s t) (seek (λ k. reachb g k s t) a g.size) (found_least g a s t) d e

-- the distance is the least length of a walk, if there is one
pub dist_least : {g : Graph} → WellFormed g → (s t : ℕ) → s < g.size → IsLeast (λ m. Walk g s t m) (dist g s t)
dist_least {g} wf s t l =
    is_least_by (Found g 0 s t) (λ m. Walk g s t m) (dist g s t) (λ m h. reach_walk g m s t h.2) short (found_least g 0 s t)
  where
    short : (m : ℕ) → Walk g s t m → (n : ℕ) × Found g 0 s t n × (n ≤ m)
    short m w = let (n, v, le, low) = walk_short wf l w in (n, (omega arith, omega arith, walk_reach g n s t v), le)

-- the positive distance is the least length of a walk with an edge, if there is one
pub dist_plus_least : {g : Graph} → WellFormed g → (s t : ℕ) → IsLeast (λ m. (1 ≤ m) × Walk g s t m) (dist_plus g s t)
dist_plus_least {g} wf s t =
    is_least_by (Found g 1 s t) (λ m. (1 ≤ m) × Walk g s t m) (dist_plus g s t) (λ m h. (h.0, reach_walk g m s t h.2)) short (found_least g 1 s t)
  where
    short : (m : ℕ) → (1 ≤ m) × Walk g s t m → (n : ℕ) × Found g 1 s t n × (n ≤ m)
    short zero h = absurd (omega arith)
    short (suc m) h =
        let (u, edge, w) = walk_uncons h.1 in
        let (n, v, le, low) = walk_short wf (wf.edge_states s u edge).1 w in
        (suc n, (omega arith, omega arith, walk_reach g (suc n) s t (walk_cons edge v)), omega arith)

-- a distance is below the number of states
pub dist-below : (g : Graph) (s t d : ℕ) → dist g s t ≡ some d → d < g.size
dist-below g s t d e = omega (arith, found_has g 0 s t d e)

-- a positive distance is at least one and at most the number of states
pub dist_plus_range : (g : Graph) (s t d : ℕ) → dist_plus g s t ≡ some d → (1 ≤ d) × (d ≤ g.size)
dist_plus_range g s t d e = omega (arith, found_has g 1 s t d e)

-- the distance is attained by a walk
pub dist_walk : (g : Graph) (s t d : ℕ) → dist g s t ≡ some d → Walk g s t d
dist_walk g s t d e = reach_walk g d s t (found_has g 0 s t d e).2

-- a walk bounds the distance
pub dist_le : {g : Graph} {s t m : ℕ} → WellFormed g → s < g.size → Walk g s t m
    → (d : ℕ) × (dist g s t ≡ some d) × (d ≤ m)
dist_le {g} {s} {t} {m} wf l w = is_least_le (λ n. Walk g s t n) (dist g s t) (dist_least wf s t l) m w

-- a walk with an edge bounds the positive distance
pub dist_plus_le : {g : Graph} {s t m : ℕ} → WellFormed g → 1 ≤ m → Walk g s t m
    → (d : ℕ) × (dist_plus g s t ≡ some d) × (d ≤ m)
dist_plus_le {g} {s} {t} {m} wf p w = is_least_le (λ n. (1 ≤ n) × Walk g s t n) (dist_plus g s t) (dist_plus_least wf s t) m (p, w)

-- going by way of t is not shorter than the distance
pub dist_triangle : {g : Graph} → WellFormed g → (s t u : ℕ) {d e : ℕ} → s < g.size → dist g s t ≡ some d
    → dist g t u ≡ some e → (f : ℕ) × (dist g s u ≡ some f) × (f ≤ d + e)
dist_triangle {g} wf s t u {d} {e} l p q = dist_le wf l (walk_append (dist_walk g s t d p) (dist_walk g t u e q))

-- the distance to a successor is at most one more
pub dist_step : {g : Graph} → WellFormed g → (s t u : ℕ) {d : ℕ} → s < g.size → dist g s t ≡ some d → T (edgeb g t u)
    → (f : ℕ) × (dist g s u ≡ some f) × (f ≤ d + 1)
dist_step {g} wf s t u {d} l p q = dist_le wf l (walk_append (dist_walk g s t d p) (walk_edge q))

-- the distance from a state to itself is zero
pub dist_self : {g : Graph} {s : ℕ} → WellFormed g → s < g.size → dist g s s ≡ some 0
dist_self {g} {s} wf l =
    let r : (d : ℕ) × (dist g s s ≡ some d) × (d ≤ 0) = dist_le wf l (walk_here s) in
    let e : r.0 ≡ 0 = omega arith in
    r.1 ∙ ap (λ (k : ℕ). some k) e
