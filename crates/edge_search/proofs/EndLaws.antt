-- Laws of the search's end: every hit up to the levels looked at is in, so what is found is least and what is not found
-- is not there.
use Prim.Native.Nat.{ℕ, zero, suc, ◌+◌, ◌≤◌, ◌<◌}
use mathlib.Core.Path.{◌≡◌, refl, ◌∙◌, ap, subst}
use mathlib.Core.Logic.{inl, inr}
use mathlib.Core.List.{List}
use mathlib.Core.Option.{Option, some, none}
use native.Mathlib.Omega.{arith}
use lib.ListN.{length}
use lib.Dec.{T}
use Rattle.lists.specs.Lists.{memb}
use Rattle.lasso.specs.Graph.{Graph, WellFormed, edgeb}
use Rattle.lists.proofs.Tests.{lt_or_ge}
use Rattle.lists.proofs.Least.{IsLeast, is_least_unique}
use Rattle.lasso.proofs.Walk.{Run, done, next, Walk, walk_here, walk_edge, walk_append}
use Rattle.frontier.specs.Regions.{entry, entry_of}
use Rattle.lists.specs.Limit.{under}
use Rattle.hits.specs.Hit.{hit_level, hit_length}
use Rattle.frontier.specs.Buckets.{sources}
use Rattle.edge_search.specs.Promises.{FoundFrom, ExhaustedFrom}
use Rattle.frontier.specs.Search.{Hit, start, step, ReachedBy, State}
use Rattle.lists.proofs.UnderLaws.{under_lt, under_least}
use Rattle.hits.proofs.HitLaws.{Timed, hit_level_least, hit_length_least}
use Rattle.frontier.proofs.BucketLaws.{source_entry}
use Rattle.frontier.proofs.PushLaws.{level_le}

-- a hit goes on along a run
run_hit : {g : Graph} {source : ℕ → Option ℕ} {s t : ℕ} {us : List ℕ} (j k : ℕ) → Hit g.size g.succs source j s → Run g s us t → j + length us ≡ k → Hit g.size g.succs source k t
run_hit {g} {source} {s} {t} j k H (done e) q =
    let m : j ≡ k = omega arith in
    subst (λ (x : ℕ). Hit g.size g.succs source k x) e (subst (λ (x : ℕ). Hit g.size g.succs source x s) m H)
run_hit j k H (next e r) q = run_hit (suc j) k (step H e refl) r (omega arith)

-- a hit is a walk from a source, counted from the source's level
pub hit_timed : {g : Graph} {source : ℕ → Option ℕ} {k t : ℕ} → Hit g.size g.succs source k t → Timed g.size source (λ s m. Walk g s t m) k
hit_timed {k = k} {t = t} (start l e) = (t, k, 0, l, e, walk_here t, omega arith)
hit_timed {g} {source} (step {j = j} {s = s} H e q) =
    let x : Timed g.size source (λ u m. Walk g u s m) j = hit_timed {g = g} {source = source} {k = j} {t = s} H in
    (x.0, x.1, x.2 + 1, x.3, x.4, walk_append x.5 (walk_edge e), omega arith)

-- a walk from a source is a hit
pub timed_hit : {g : Graph} {source : ℕ → Option ℕ} {k t : ℕ} → Timed g.size source (λ s m. Walk g s t m) k → Hit g.size g.succs source k t
timed_hit {k = k} (s, a, m, l, e, (us, r, q), p) = run_hit a k (start l e) r (omega arith)

-- a run with an edge ends with one
run_into : {g : Graph} {source : ℕ → Option ℕ} {s t : ℕ} {us : List ℕ} (j k : ℕ) → Hit g.size g.succs source j s → Run g s us t → 1 ≤ length us → j + length us ≡ suc k → (u : ℕ) × Hit g.size g.succs source k u × T (edgeb g u t)
run_into j k H (done e) l q = absurd (omega arith)
run_into {g} {source} {s} j k H (next e (done f)) l q =
    let m : j ≡ k = omega arith in
    (s, subst (λ (x : ℕ). Hit g.size g.succs source x s) m H, subst (λ (x : ℕ). T (edgeb g s x)) f e)
run_into j k H (next e (next f r)) l q = run_into (suc j) k (step H e refl) (next f r) (omega arith) (omega arith)

-- a walk with an edge from a source ends with an edge from a state that is hit one level before
timed_into : {g : Graph} {source : ℕ → Option ℕ} {k t : ℕ} → Timed g.size source (λ s m. (1 ≤ m) × Walk g s t m) (suc k) → (u : ℕ) × Hit g.size g.succs source k u × T (edgeb g u t)
timed_into {k = k} (s, a, m, l, e, (o, (us, r, q)), p) = run_into a k (start l e) r (omega arith) (omega arith)

-- an edge from a state that is hit makes a walk with an edge
into_timed : {g : Graph} {source : ℕ → Option ℕ} {k u t : ℕ} → Hit g.size g.succs source k u → T (edgeb g u t) → Timed g.size source (λ s m. (1 ≤ m) × Walk g s t m) (suc k)
into_timed {g} {source} {k} {u} H e =
    let x : Timed g.size source (λ s m. Walk g s u m) k = hit_timed H in
    (x.0, x.1, x.2 + 1, x.3, x.4, (omega arith, walk_append x.5 (walk_edge e)), omega arith)

module _ {n limit target v at end count : ℕ} {succs : ℕ → List ℕ} {w₀ w : List ℕ} (S : State n succs limit target w₀ v at end count w) (b : ℕ) (looked : (i : ℕ) → i < count → entry 2 n w (entry 3 n w i) < b → i < at) (sourced : (s a : ℕ) → sources n limit w₀ s ≡ some a → a < b → a < v) where
  -- a state reached by an entry below b has been looked at
  looked_at : {j s : ℕ} → ReachedBy n (suc j) s w → suc j < b → (i : ℕ) × (i < at) × (entry 3 n w i ≡ s)
  looked_at {s = s} R l =
      let x : (i : ℕ) × (i < count) × (entry 3 n w i ≡ s) = S.queue.holds s R.inside R.reached in
      (x.0, looked x.0 x.1 (rw x.2 (omega (arith, R.by))), x.2)

  -- where every queued state with an entry below b has been looked at, and every source below it is in, all hits below b
  -- are in
  complete : {k t : ℕ} → Hit n succs (sources n limit w₀) k t → k < b → ReachedBy n (suc k) t w
  complete {k} {t} (start l e) h = S.started t k l e (sourced t k e h)
  complete {k} {t} (step {j = j} {s = s} H e q) h =
      let R : ReachedBy n (suc j) s w = complete H (omega arith) in
      let x : (i : ℕ) × (i < at) × (entry 3 n w i ≡ s) = looked_at R (omega arith) in
      let P : ReachedBy n (suc (entry 2 n w (entry 3 n w x.0))) t w = S.passed x.0 t x.1 (rw x.2 e) in
      record {
        inside = P.inside;
        reached = P.reached;
        by = omega (arith, P.by, R.by, ap (λ (y : ℕ). entry 2 n w y) x.2);
      }

  -- and no edge leads to the target from a hit that has been looked at
  no_edge : {k u : ℕ} → Hit n succs (sources n limit w₀) k u → suc k < b → T (memb target (succs u)) → ⊥
  no_edge {k} {u} H l e =
      let x : (i : ℕ) × (i < at) × (entry 3 n w i ≡ u) = looked_at (complete H (omega arith)) l in
      S.missed x.0 x.1 (rw x.2 e)

-- a target that is no source is not hit at the level that is being looked at: an edge would have led into it before
pub not_hit :
    {n limit target at end count : ℕ} {succs : ℕ → List ℕ} {w₀ w : List ℕ} (level : ℕ)
    → State n succs limit target w₀ (level + 1) at end count w → sources n limit w₀ target ≡ none
    → Hit n succs (sources n limit w₀) level target → ⊥
not_hit {n} {limit} {target} {at} {end} {count} {succs} {w₀} {w} level S none' H = go H
  where
    looked : (i : ℕ) → i < count → entry 2 n w (entry 3 n w i) < level + 1 → i < at
    looked i h k =
        elim (lt_or_ge i at) [
          | inl p ↦ p
          | inr p ↦ elim (lt_or_ge i end) [ inl q ↦ absurd (omega (arith, S.present i p q)) | inr q ↦ absurd (omega (arith, S.later i q h)) ]
        ]

    go : Hit n succs (sources n limit w₀) level target → ⊥
    go (start l e) = let z : ◌≡◌ {A = ℕ} 0 1 = cc (none', e) in absurd (omega arith)
    go (step H e q) = no_edge S (level + 1) looked (λ s a p r. r) H (omega arith) e

-- the number that stands for the least of some numbers, from an entry that tells one of them and is not above any
pub entry_least : (P : ℕ → Type 0) (a : Option ℕ) (e : ℕ) → IsLeast P a → ((k : ℕ) → e ≡ suc k → P k) → ((k : ℕ) → P k → (1 ≤ e) × (e ≤ suc k)) → e ≡ entry_of a
entry_least P none zero least tells above = refl
entry_least P none (suc k) least tells above = absurd (least k (tells k refl))
entry_least P (some m) zero least tells above = absurd (omega (arith, above m least.0))
entry_least P (some m) (suc k) least tells above =
    omega (arith, above m least.0, least.1 k (tells k refl))

-- an edge into the target from a state of the level: its length is the least
pub edge_found : {g : Graph} {limit target at end count u : ℕ} {w₀ w : List ℕ} (level : ℕ) → WellFormed g → level < limit → State g.size g.succs limit target w₀ (level + 1) at end count w → Hit g.size g.succs (sources g.size limit w₀) level u → T (edgeb g u target) → FoundFrom g (sources g.size limit w₀) limit target w₀ w (level + 1)
edge_found {g} {limit} {target} {at} {end} {count} {u} {w₀} {w} level wf l S H e =
    record {
      outside = S.outside;
      length = ap (under (suc limit)) least ∙ under_lt (suc limit) (suc level) (omega arith) ∙ ap (λ (k : ℕ). some k) (omega arith);
    }
  where
    source : ℕ → Option ℕ
    source = sources g.size limit w₀

    looked : (i : ℕ) → i < count → entry 2 g.size w (entry 3 g.size w i) < level + 1 → i < at
    looked i h k =
        elim (lt_or_ge i at) [
          | inl p ↦ p
          | inr p ↦ elim (lt_or_ge i end) [ inl q ↦ absurd (omega (arith, S.present i p q)) | inr q ↦ absurd (omega (arith, S.later i q h)) ]
        ]

    not_less : (m : ℕ) → Timed g.size source (λ s m. (1 ≤ m) × Walk g s target m) m → suc level ≤ m
    not_less zero (s, a, m, i, p, (o, x), q) = absurd (omega arith)
    not_less (suc m) h =
        elim (lt_or_ge m level) [
          | inl k ↦
              let x : (y : ℕ) × Hit g.size g.succs source m y × T (edgeb g y target) = timed_into h in
              absurd (no_edge S (level + 1) looked (λ s a p q. q) x.1 (omega arith) x.2)
          | inr k ↦ omega arith
        ]

    least : hit_length g source target ≡ some (suc level)
    least =
        is_least_unique (Timed g.size source (λ s m. (1 ≤ m) × Walk g s target m)) (hit_length g source target) (some (suc level)) (hit_length_least wf source target) (into_timed H e, not_less)

-- all levels below the limit have been looked at: what is there up to the limit is in, and no edge leads to the target
pub nothing_found : {g : Graph} {limit target level at count : ℕ} {w₀ w : List ℕ} → WellFormed g → level ≡ limit → State g.size g.succs limit target w₀ level at at count w → ExhaustedFrom g (sources g.size limit w₀) limit target w₀ w count
nothing_found {g} {limit} {target} {level} {at} {count} {w₀} {w} wf same S =
    record {
      outside = S.outside;
      length = is_least_unique (λ k. into k × (k < suc limit)) (under (suc limit) (hit_length g source target)) none (under_least into (suc limit) (hit_length g source target) (hit_length_least wf source target)) (λ m h. no_length m h.0 h.1);
      levels = λ t l.
          entry_least (λ k. onto t k × (k < suc limit)) (under (suc limit) (hit_level g source t)) (entry 2 g.size w t) (under_least (onto t) (suc limit) (hit_level g source t) (hit_level_least wf source t)) (λ k e. (hit_timed (S.sound k t l e), omega (arith, level_le S t l)))
          (λ k h. let R = complete S (suc level) looked sourced (timed_hit h.0) (omega arith) in (R.reached, R.by));
      queue = S.queue;
    }
  where
    source : ℕ → Option ℕ
    source = sources g.size limit w₀

    into : ℕ → Type 0
    into = Timed g.size source (λ s m. (1 ≤ m) × Walk g s target m)

    onto : ℕ → ℕ → Type 0
    onto t = Timed g.size source (λ s m. Walk g s t m)

    looked : (i : ℕ) → i < count → entry 2 g.size w (entry 3 g.size w i) < suc level → i < at
    looked i h k = elim (lt_or_ge i at) [ inl p ↦ p | inr p ↦ absurd (omega (arith, S.later i p h)) ]

    sourced : (s a : ℕ) → source s ≡ some a → a < suc level → a < level
    sourced s a e h = omega (arith, source_entry limit (entry 2 g.size w₀ s) a e)

    no_length : (m : ℕ) → into m → m < suc limit → ⊥
    no_length zero (s, a, m, i, p, (o, x), q) l = omega arith
    no_length (suc m) h l =
        let x : (y : ℕ) × Hit g.size g.succs source m y × T (edgeb g y target) = timed_into h in
        no_edge S (suc level) looked sourced x.1 (omega arith) x.2
