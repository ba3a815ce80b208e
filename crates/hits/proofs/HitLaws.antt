-- Laws of hits: what hit_level and hit_length find is the least over walks from sources; a single source gives distances;
-- sources at or above the limit do not matter below it.
use Prim.Native.Nat.{ℕ, suc, ◌+◌, ◌≤◌, ◌<◌}
use mathlib.Core.Path.{◌≡◌, sym, ◌∙◌, ap}
use mathlib.Core.Option.{Option, some, none}
use native.Mathlib.Omega.{arith}
use native.Mathlib.Decide.{ℕ_discrete}
use Rattle.lists.specs.Lists.{below}
use Rattle.lasso.specs.Graph.{Graph, WellFormed}
use Rattle.lasso.specs.Distance.{dist, dist_plus}
use Rattle.lists.specs.Least.{sum, least_of}
use Rattle.lists.proofs.Tests.{below_lt, lt_below}
use Rattle.lists.proofs.Least.{IsLeast, Sums, OfEntry, is_least_unique, is_least_iff, is_least_own, sum_least, least_of_least, least_of_cong}
use Rattle.lasso.proofs.Walk.{Walk}
use Rattle.lasso.proofs.Distance.{dist_least, dist_plus_least, dist_plus_range}
use Rattle.lists.specs.Limit.{under}
use Rattle.hits.specs.Hit.{hit_level, hit_length}
use Rattle.lists.proofs.UnderLaws.{under_least, under_some, some_under}

-- k is the start level a of a source s below n, and m more that P allows from s
abbrev pub Timed : ℕ → (ℕ → Option ℕ) → (ℕ → ℕ → Type 0) → ℕ → Type 0
Timed n source P k = (s : ℕ) × (a : ℕ) × (m : ℕ) × (s < n) × (source s ≡ some a) × P s m × (a + m ≡ k)

-- the least over sources of start level and least number allowed is the least such sum
pub timed_least : (n : ℕ) (source : ℕ → Option ℕ) (P : ℕ → ℕ → Type 0) (f : ℕ → Option ℕ) → ((s : ℕ) → s < n → IsLeast (P s) (f s)) → IsLeast (Timed n source P) (least_of (λ s. sum (source s) (f s)) (below n))
timed_least n source P f each =
    is_least_iff (OfEntry sums (below n)) (Timed n source P) (least_of (λ s. sum (source s) (f s)) (below n)) (λ k h. (h.0, h.2.0, h.2.1, below_lt n h.1, h.2.2, h.2.3, h.2.4)) (λ k h. (h.0, lt_below n h.0 h.3, (h.1, h.2, h.4, h.5, h.6)))
    (least_of_least sums (λ s. sum (source s) (f s)) (below n) (λ s m. sum_least (λ a. source s ≡ some a) (P s) (source s) (f s) (is_least_own (source s)) (each s (below_lt n m))))
  where
    sums : ℕ → ℕ → Type 0
    sums s = Sums (λ a. source s ≡ some a) (P s)

-- the hit level is the least level at which a walk from a source hits t
pub hit_level_least : {g : Graph} → WellFormed g → (source : ℕ → Option ℕ) (t : ℕ) → IsLeast (Timed g.size source (λ s m. Walk g s t m)) (hit_level g source t)
hit_level_least {g} wf source t =
    timed_least g.size source (λ s m. Walk g s t m) (λ s. dist g s t) (λ s l. dist_least wf s t l)

-- the hit length is the least level at which a walk with an edge from a source hits t
pub hit_length_least : {g : Graph} → WellFormed g → (source : ℕ → Option ℕ) (t : ℕ) → IsLeast (Timed g.size source (λ s m. (1 ≤ m) × Walk g s t m)) (hit_length g source t)
hit_length_least {g} wf source t =
    timed_least g.size source (λ s m. (1 ≤ m) × Walk g s t m) (λ s. dist_plus g s t) (λ s l. dist_plus_least wf s t)

-- the hit level depends on the states' start levels only
pub hit_level_cong : (g : Graph) (source source' : ℕ → Option ℕ) (t : ℕ) → ((s : ℕ) → s < g.size → source s ≡ source' s) → hit_level g source t ≡ hit_level g source' t
hit_level_cong g source source' t same =
    least_of_cong (λ s. sum (source s) (dist g s t)) (λ s. sum (source' s) (dist g s t)) (below g.size) (λ s m. ap (λ (a : Option ℕ). sum a (dist g s t)) (same s (below_lt g.size m)))

-- the hit length depends on the states' start levels only
pub hit_length_cong : (g : Graph) (source source' : ℕ → Option ℕ) (t : ℕ) → ((s : ℕ) → s < g.size → source s ≡ source' s) → hit_length g source t ≡ hit_length g source' t
hit_length_cong g source source' t same =
    least_of_cong (λ s. sum (source s) (dist_plus g s t)) (λ s. sum (source' s) (dist_plus g s t)) (below g.size) (λ s m. ap (λ (a : Option ℕ). sum a (dist_plus g s t)) (same s (below_lt g.size m)))

-- x is the one source below n, with start level 0
pub record Single (n x : ℕ) (source : ℕ → Option ℕ) : Type 0 where
  pub inside : x < n
  pub zero_at : source x ≡ some 0
  pub none_else : (s : ℕ) → s < n → (s ≡ x → ⊥) → source s ≡ none

-- the one source decides the least
timed_single : (n x : ℕ) (source f : ℕ → Option ℕ) → Single n x source → least_of (λ s. sum (source s) (f s)) (below n) ≡ f x
timed_single n x source f single =
    is_least_unique (λ k. f x ≡ some k) (least_of (λ s. sum (source s) (f s)) (below n)) (f x)
    (is_least_iff (Timed n source (λ s m. f s ≡ some m)) (λ k. f x ≡ some k) (least_of (λ s. sum (source s) (f s)) (below n)) from (λ k e. (x, 0, k, single.inside, single.zero_at, e, omega arith))
    (timed_least n source (λ s m. f s ≡ some m) f (λ s l. is_least_own (f s))))
    (is_least_own (f x))
  where
    from : (k : ℕ) → Timed n source (λ s m. f s ≡ some m) k → f x ≡ some k
    from k h =
        elim (ℕ_discrete h.0 x) [
          | yes e ↦
              let z : h.1 ≡ 0 = cc (single.zero_at, h.4, e) in
              let q : h.2 ≡ k = omega arith in
              ap f (sym e) ∙ h.5 ∙ ap (λ (j : ℕ). some j) q
          | no d ↦ let z : ◌≡◌ {A = ℕ} 0 1 = cc (single.none_else h.0 h.3 d, h.4) in absurd (omega arith)
        ]

-- from a single source at level 0 the hit level is the distance
pub hit_level_single : (g : Graph) (x : ℕ) (source : ℕ → Option ℕ) (t : ℕ) → Single g.size x source → hit_level g source t ≡ dist g x t
hit_level_single g x source t single = timed_single g.size x source (λ s. dist g s t) single

-- sources at or above a limit do not matter for sums below a bound that keeps start levels below the limit
timed_under : (n limit bound : ℕ) (source f : ℕ → Option ℕ) → ((s a m : ℕ) → f s ≡ some m → a + m < bound → a < limit) → under bound (least_of (λ s. sum (under limit (source s)) (f s)) (below n)) ≡ under bound (least_of (λ s. sum (source s) (f s)) (below n))
timed_under n limit bound source f small =
    is_least_unique near (under bound (least_of (λ s. sum (under limit (source s)) (f s)) (below n))) (under bound (least_of (λ s. sum (source s) (f s)) (below n)))
    (is_least_iff (λ k. Timed n (λ s. under limit (source s)) own k × (k < bound)) near (under bound (least_of (λ s. sum (under limit (source s)) (f s)) (below n))) from to
    (under_least (Timed n (λ s. under limit (source s)) own) bound (least_of (λ s. sum (under limit (source s)) (f s)) (below n)) (timed_least n (λ s. under limit (source s)) own f (λ s l. is_least_own (f s)))))
    (under_least (Timed n source own) bound (least_of (λ s. sum (source s) (f s)) (below n)) (timed_least n source own f (λ s l. is_least_own (f s))))
  where
    own : ℕ → ℕ → Type 0
    own s m = f s ≡ some m

    near : ℕ → Type 0
    near k = Timed n source own k × (k < bound)

    from : (k : ℕ) → Timed n (λ s. under limit (source s)) own k × (k < bound) → near k
    from k (h, l) = ((h.0, h.1, h.2, h.3, (under_some limit (source h.0) h.1 h.4).0, h.5, h.6), l)

    to : (k : ℕ) → near k → Timed n (λ s. under limit (source s)) own k × (k < bound)
    to k (h, l) = ((h.0, h.1, h.2, h.3, some_under limit (source h.0) h.1 h.4 (small h.0 h.1 h.2 h.5 (omega arith)), h.5, h.6), l)

-- sources at or above the limit do not matter for levels below it
pub hit_level-under : (g : Graph) (limit : ℕ) (source : ℕ → Option ℕ) (t : ℕ) → under limit (hit_level g (λ s. under limit (source s)) t) ≡ under limit (hit_level g source t)
hit_level-under g limit source t =
    timed_under g.size limit limit source (λ s. dist g s t) (λ s a m e l. omega arith)

-- sources at or above the limit do not matter for lengths up to it
pub hit_length-under : (g : Graph) (limit : ℕ) (source : ℕ → Option ℕ) (t : ℕ) → under (suc limit) (hit_length g (λ s. under limit (source s)) t) ≡ under (suc limit) (hit_length g source t)
hit_length-under g limit source t =
    timed_under g.size limit (suc limit) source (λ s. dist_plus g s t) (λ s a m e l. omega (arith, dist_plus_range g s t m e))
