-- Laws of the queue and of a push: there is room for a state that was not reached, and a push keeps the state of the search.
use Prim.Native.Nat.{ℕ, zero, suc, ◌+◌, ◌*◌, ◌≤◌, ◌<◌}
use mathlib.Core.Path.{◌≡◌, sym, ◌∙◌, ap, subst}
use mathlib.Core.Logic.{inl, inr}
use mathlib.Core.List.{List, ◌∷◌}
use native.Mathlib.Omega.{arith}
use native.Mathlib.Decide.{ℕ_discrete}
use lib.ListN.{length, get_or, take, drop, length-drop}
use lib.Seq.{get_or-take, get_or-drop, length-take-le}
use Rattle.lists.proofs.Tests.{lt_or_ge, places_different}
use Rattle.lists.proofs.Different.{length_different_places}
use Rattle.table.specs.Changes.{SameOutside}
use Rattle.table.proofs.Laws.{same_outside_refl, same_outside_widen, same_outside_trans}
use Rattle.frontier.specs.Regions.{entry}
use Rattle.frontier.specs.Buckets.{sources}
use Rattle.frontier.specs.Search.{Queue, Hit, ReachedBy, State, Pushed, Reached, before, first}
use Rattle.frontier.proofs.BucketLaws.{listed_same}

-- a state that was not reached is not in the queue, so the queue has room for it
pub queue_room : {n count : ℕ} {w : List ℕ} (t : ℕ) → 6 * n ≤ length w → Queue n count w → t < n → entry 2 n w t ≡ 0 → count < n
queue_room {n} {count} {w} t fits Q l e =
    omega (arith, long, length_different_places n (t ∷ queued) (places_different (t ∷ queued) apart) states)
  where
    queued : List ℕ
    queued = take count (drop (3 * n) w)

    long : length queued ≡ count
    long = length-take-le count (drop (3 * n) w) (rw length-drop (omega (arith, Q.within)))

    here : (i : ℕ) → i < count → get_or queued i 0 ≡ entry 3 n w i
    here i h = get_or-take count (drop (3 * n) w) i 0 h ∙ get_or-drop (3 * n) w i 0

    states : (j : ℕ) → j < length (t ∷ queued) → get_or (t ∷ queued) j 0 < n
    states zero h = l
    states (suc j) h = rw (here j (omega (arith, long))) (Q.states j (omega (arith, long)))

    apart : (i j : ℕ) → i < j → j < length (t ∷ queued) → get_or (t ∷ queued) i 0 ≡ get_or (t ∷ queued) j 0 → ⊥
    apart i zero p q r = absurd (omega arith)
    apart zero (suc j) p q r =
        let same : entry 3 n w j ≡ t = sym (r ∙ here j (omega (arith, long))) in
        omega (arith, rw same at (Q.reached j (omega (arith, long))))
    apart (suc i) (suc j) p q r =
        Q.once i j (omega arith) (omega (arith, long)) (sym (here i (omega (arith, long))) ∙ r ∙ here j (omega (arith, long)))

-- every queue entry has an entry of at most v + 1 in region 2
pub queued_le : {n limit target v at end count : ℕ} {succs : ℕ → List ℕ} {w₀ w : List ℕ} → State n succs limit target w₀ v at end count w → (i : ℕ) → i < count → entry 2 n w (entry 3 n w i) ≤ suc v
queued_le {at = at} {end = end} S i h =
    elim (lt_or_ge i at) [
      | inl l ↦ omega (arith, S.earlier i l)
      | inr g ↦ elim (lt_or_ge i end) [ inl l ↦ omega (arith, S.present i g l) | inr k ↦ omega (arith, S.later i k h) ]
    ]

-- so has every state
pub level_le : {n limit target v at end count : ℕ} {succs : ℕ → List ℕ} {w₀ w : List ℕ} → State n succs limit target w₀ v at end count w → (s : ℕ) → s < n → entry 2 n w s ≤ suc v
level_le {n} {count = count} {w = w} S s l =
    elim (lt_or_ge 0 (entry 2 n w s)) [
      | inl h ↦
          let r : (i : ℕ) × (i < count) × (entry 3 n w i ≡ s) = S.queue.holds s l h in
          rw r.2 at (queued_le S r.0 r.1)
      | inr h ↦ omega arith
    ]

module _ {n limit target v at end count : ℕ} {succs : ℕ → List ℕ} {w₀ w w' : List ℕ} (t e : ℕ) (S : State n succs limit target w₀ v at end count w) (l : t < n) (new : entry 2 n w t ≡ 0) (P : Pushed n t e count w w') where
  -- earlier places of the queue stay
  queue_kept : (i : ℕ) → i < count → entry 3 n w' i ≡ entry 3 n w i
  queue_kept i h = P.others i (omega (arith, S.queue.within)) (λ q. omega arith)

  -- what was reached keeps its entry
  level_kept : (s : ℕ) → s < n → 1 ≤ entry 2 n w s → entry 2 n w' s ≡ entry 2 n w s
  level_kept s h r = P.levels s h (λ q. omega (arith, rw q at r))

  -- what was queued keeps its entry
  queued_kept : (i : ℕ) → i < count → entry 2 n w' (entry 3 n w' i) ≡ entry 2 n w (entry 3 n w i)
  queued_kept i h = rw (queue_kept i h) (level_kept (entry 3 n w i) (S.queue.states i h) (S.queue.reached i h))

  -- what was reached by an entry still is
  reached_kept : {b s : ℕ} → ReachedBy n b s w → ReachedBy n b s w'
  reached_kept {s = s} R =
      record {
        inside = R.inside;
        reached = omega (arith, level_kept s R.inside R.reached);
        by = omega (arith, level_kept s R.inside R.reached);
      }

  -- the new state is last in the queue
  queued_last : entry 2 n w' (entry 3 n w' count) ≡ e
  queued_last = rw P.last P.level

  -- the queue with the new state, whose entry is not smaller than the others
  queue_pushed : count < n → e ≡ suc v → Queue n (count + 1) w'
  queue_pushed room q =
      record {
        within = omega arith;
        states = λ i h.
            elim (lt_or_ge i count) [
              | inl k ↦ rw (queue_kept i k) (S.queue.states i k)
              | inr k ↦ let j : i ≡ count = omega arith in rw (j, P.last) l
            ];
        reached = λ i h.
            elim (lt_or_ge i count) [
              | inl k ↦ rw (queued_kept i k) (S.queue.reached i k)
              | inr k ↦ let j : i ≡ count = omega arith in rw (j, queued_last) (omega arith)
            ];
        holds = λ s h r.
            elim (ℕ_discrete s t) [
              | yes j ↦ (count, omega arith, P.last ∙ sym j)
              | no d ↦
                  let x : (i : ℕ) × (i < count) × (entry 3 n w i ≡ s) = S.queue.holds s h (omega (arith, P.levels s h d)) in
                  (x.0, omega arith, queue_kept x.0 x.1 ∙ x.2)
            ];
        once = λ i j h k r.
            elim (lt_or_ge j count) [
              | inl m ↦ S.queue.once i j h m (sym (queue_kept i (omega arith)) ∙ r ∙ queue_kept j m)
              | inr m ↦
                  let x : j ≡ count = omega arith in
                  let y : entry 3 n w i ≡ t = sym (queue_kept i (omega arith)) ∙ r ∙ ap (λ (z : ℕ). entry 3 n w' z) x ∙ P.last in
                  omega (arith, rw y at (S.queue.reached i (omega arith)))
            ];
        ordered = λ i j h k.
            elim (lt_or_ge j count) [
              | inl m ↦ rw (queued_kept i (omega arith), queued_kept j m) (S.queue.ordered i j h m)
              | inr m ↦
                  let x : j ≡ count = omega arith in
                  rw (x, queued_last, queued_kept i (omega arith)) (omega (arith, queued_le S i (omega arith)))
            ];
      }

  -- a push of a state hit at the level of v keeps the state of the search
  pushed_state : e ≡ suc v → Hit n succs (sources n limit w₀) v t → State n succs limit target w₀ v at end (count + 1) w'
  pushed_state q hit =
      record {
        limited = S.limited;
        fits = omega (arith, S.fits, P.outside.same_length);
        outside = same_outside_trans S.outside (same_outside_widen (2 * n) (6 * n) (omega arith) (omega arith) P.outside);
        lists = listed_same P.outside.same_after S.lists;
        sound = λ k s h r.
            elim (ℕ_discrete s t) [
              | yes j ↦
                  let m : v ≡ k = omega (arith, P.level, rw j at r) in
                  rw j (subst (λ (x : ℕ). Hit n succs (sources n limit w₀) x t) m hit)
              | no d ↦ S.sound k s h (sym (P.levels s h d) ∙ r)
            ];
        started = λ s a h r k. reached_kept (S.started s a h r k);
        passed = λ i s h m.
            let k : i < count = omega (arith, S.at_end, S.end_count) in
            rw (queued_kept i k) (reached_kept (S.passed i s h (rw (queue_kept i k) at m)));
        missed = λ i h m. S.missed i h (rw (queue_kept i (omega (arith, S.at_end, S.end_count))) at m);
        queue = queue_pushed (queue_room t S.fits S.queue l new) q;
        at_end = S.at_end;
        end_count = omega (arith, S.end_count);
        earlier = λ i h. rw (queued_kept i (omega (arith, S.at_end, S.end_count))) (S.earlier i h);
        present = λ i h k. rw (queued_kept i (omega (arith, S.end_count))) (S.present i h k);
        later = λ i h k.
            elim (lt_or_ge i count) [
              | inl m ↦ rw (queued_kept i m) (S.later i h m)
              | inr m ↦ let j : i ≡ count = omega arith in rw (j, queued_last) q
            ];
      }

-- reaching a state changes the levels and the queue only
pub reach_outside : {n t v count r : ℕ} {w w' : List ℕ} → Reached n t v count w w' r → SameOutside (2 * n) (4 * n) w w'
reach_outside {n} {w = w} (before old same k) = rw same (same_outside_refl (2 * n) (4 * n) w)
reach_outside (first new P k) = P.outside

module _ {n limit target v at end count r : ℕ} {succs : ℕ → List ℕ} {w₀ w w' : List ℕ} (t e : ℕ) (S : State n succs limit target w₀ v at end count w) (l : t < n) where
  -- reaching a state hit at the level of v keeps the state of the search
  pub reach_state : e ≡ suc v → Hit n succs (sources n limit w₀) v t → Reached n t e count w w' r → State n succs limit target w₀ v at end r w'
  reach_state q hit (before old same k) = rw (same, k) S
  reach_state q hit (first new P k) = rw k (pushed_state t e S l new P q hit)

  -- what was reached before stays
  pub reach_kept : {b s : ℕ} → Reached n t e count w w' r → ReachedBy n b s w → ReachedBy n b s w'
  reach_kept (before old same k) R = rw same R
  reach_kept (first new P k) R = reached_kept t e S l new P R

  -- the queue so far stays
  pub reach_queue : (i : ℕ) → i < count → Reached n t e count w w' r → entry 3 n w' i ≡ entry 3 n w i
  reach_queue i h (before old same k) = rw same
  reach_queue i h (first new P k) = queue_kept t e S l new P i h

  -- the state itself is reached
  pub reach_here : e ≡ suc v → Reached n t e count w w' r → ReachedBy n (suc v) t w'
  reach_here q (before old same k) = rw same (record { inside = l; reached = old; by = level_le S t l })
  reach_here q (first new P k) =
      record { inside = l; reached = omega (arith, P.level); by = omega (arith, P.level) }
