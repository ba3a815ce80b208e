-- Laws of the search's loops: the state after the plan, while one state's successors are looked at, and after a level.
use Prim.Native.Nat.{ℕ, suc, ◌+◌, ◌*◌, ◌≤◌, ◌<◌}
use mathlib.Core.Path.{◌≡◌, sym, ◌∙◌, ap, ap₂}
use mathlib.Core.Logic.{◌⊎◌, inl, inr}
use mathlib.Core.List.{List, [], ◌∷◌}
use native.Mathlib.Omega.{arith}
use lib.ListN.{length, get_or}
use Rattle.lists.proofs.Tests.{lt_or_ge, memb_at, at_memb}
use Rattle.frontier.specs.Regions.{entry, queued}
use Rattle.frontier.specs.Buckets.{sources, Planned}
use Rattle.frontier.specs.Search.{Hit, step, ReachedBy, State, Reached}
use Rattle.frontier.proofs.PushLaws.{reach_state, reach_kept, reach_queue, reach_here}

-- a place of region 3 holds the queue's state after those before it
pub queued-entry : (n place : ℕ) (w : List ℕ) → 3 * n ≤ place → get_or w place 0 ≡ entry 3 n w (queued n place)
queued-entry n place w l =
    let q : place ≡ 3 * n + queued n place = omega arith in
    ap (λ (i : ℕ). get_or w i 0) q

-- after the plan nothing is reached and the queue is empty
pub planned_state : {n limit target : ℕ} {succs : ℕ → List ℕ} {w₀ w : List ℕ} → limit ≤ n → 6 * n ≤ length w → Planned n limit w₀ w → State n succs limit target w₀ 0 0 0 0 w
planned_state l fits P =
    record {
      limited = l;
      fits = fits;
      outside = P.outside;
      lists = P.lists;
      sound = λ k t h e. absurd (omega (arith, P.clear t h));
      started = λ s a h e k. absurd (omega arith);
      passed = λ i t h e. absurd (omega arith);
      missed = λ i h e. absurd (omega arith);
      queue =
          record {
            within = omega arith;
            states = λ i h. absurd (omega arith);
            reached = λ i h. absurd (omega arith);
            holds = λ s h r. absurd (omega (arith, P.clear s h));
            once = λ i j h k e. absurd (omega arith);
            ordered = λ i j h k. absurd (omega arith);
          };
      at_end = omega arith;
      end_count = omega arith;
      earlier = λ i h. absurd (omega arith);
      present = λ i h k. absurd (omega arith);
      later = λ i h k. absurd (omega arith);
    }

-- The search while the successors of s, the queue's state at `at`, are looked at: the first k are in and none of them
-- is the target.
pub record InRow (n : ℕ) (succs : ℕ → List ℕ) (limit target : ℕ) (w₀ : List ℕ) (v at end count s k : ℕ) (w : List ℕ) : Type 0 where
  pub state : State n succs limit target w₀ v at end count w
  pub turn : at < end
  pub here : entry 3 n w at ≡ s
  pub passed : (j : ℕ) → j < k → ReachedBy n (suc v) (get_or (succs s) j 0) w
  pub missed : (j : ℕ) → j < k → get_or (succs s) j 0 ≡ target → ⊥

-- before the first successor
pub row_start : {n limit target v at end count s : ℕ} {succs : ℕ → List ℕ} {w₀ w : List ℕ} → at < end → s ≡ entry 3 n w at → State n succs limit target w₀ v at end count w → InRow n succs limit target w₀ v at end count s 0 w
row_start l e S =
    record {
      state = S;
      turn = l;
      here = sym e;
      passed = λ j h. absurd (omega arith);
      missed = λ j h q. absurd (omega arith);
    }

module _ {n limit target at end count s k : ℕ} {succs : ℕ → List ℕ} {w₀ w : List ℕ} (level : ℕ) (R : InRow n succs limit target w₀ (level + 1) at end count s k w) where
  -- the queue has a state at its turn
  row_queued : at < count
  row_queued = omega (arith, R.turn, R.state.end_count)

  -- s is a state
  pub row_inside : s < n
  row_inside = rw R.here at (R.state.queue.states at row_queued)

  -- s is of the level
  pub row_level : entry 2 n w s ≡ level + 1
  row_level = rw R.here at (R.state.present at (omega arith) R.turn)

  -- s is hit at the level
  pub row_hit : Hit n succs (sources n limit w₀) level s
  row_hit = R.state.sound level s row_inside (omega (arith, row_level))

  -- one more successor is reached
  pub row_step : {r : ℕ} {w' : List ℕ} (t : ℕ) → t ≡ get_or (succs s) k 0 → k < length (succs s) → t < n → (t ≡ target → ⊥) → Reached n t (level + 1 + 1) count w w' r → InRow n succs limit target w₀ (level + 1) at end r s (k + 1) w'
  row_step t e l i d Q =
      record {
        state = reach_state t (level + 1 + 1) R.state i (omega arith) (step row_hit (rw e (at_memb (succs s) k l)) (omega arith)) Q;
        turn = R.turn;
        here = reach_queue t (level + 1 + 1) R.state i at row_queued Q ∙ R.here;
        passed = λ j h.
            elim (lt_or_ge j k) [
              | inl m ↦ reach_kept t (level + 1 + 1) R.state i Q (R.passed j m)
              | inr m ↦ let q : j ≡ k = omega arith in rw (q, ← e) (reach_here t (level + 1 + 1) R.state i (omega arith) Q)
            ];
        missed = λ j h f.
            elim (lt_or_ge j k) [
              | inl m ↦ R.missed j m f
              | inr m ↦ let q : j ≡ k = omega arith in d (e ∙ (rw q at f))
            ];
      }

  -- a state whose only successor is itself, and not the target, has been looked at: it is reached already
  row_alone : succs s ≡ s ∷ [] → (s ≡ target → ⊥) → InRow n succs limit target w₀ (level + 1) at end count s 1 w
  row_alone e d =
      let only : (j : ℕ) → j < 1 → get_or (succs s) j 0 ≡ s =
      λ j l. let q : j ≡ 0 = omega arith in ap₂ (λ (ts : List ℕ) (i : ℕ). get_or ts i 0) e q in
      record {
        state = R.state;
        turn = R.turn;
        here = R.here;
        passed = λ j l.
            rw (only j l)
            (record { inside = row_inside; reached = omega (arith, row_level); by = omega (arith, row_level) });
        missed = λ j l f. d (sym (only j l) ∙ f);
      }

  -- all successors have been looked at
  pub row_done : {next : ℕ} → next ≡ at + 1 → length (succs s) ≤ k → State n succs limit target w₀ (level + 1) next end count w
  row_done e l =
      let S = R.state in
      record {
        limited = S.limited;
        fits = S.fits;
        outside = S.outside;
        lists = S.lists;
        sound = S.sound;
        started = S.started;
        passed = λ i t h m.
            elim (lt_or_ge i at) [
              | inl p ↦ S.passed i t p m
              | inr p ↦
                  let q : i ≡ at = omega arith in
                  let x : (j : ℕ) × (j < length (succs s)) × (get_or (succs s) j 0 ≡ t) = memb_at t (succs s) (rw (q, R.here) at m) in
                  rw (q, R.here, row_level) (rw x.2 at (R.passed x.0 (omega arith)))
            ];
        missed = λ i h m.
            elim (lt_or_ge i at) [
              | inl p ↦ S.missed i p m
              | inr p ↦
                  let q : i ≡ at = omega arith in
                  let x : (j : ℕ) × (j < length (succs s)) × (get_or (succs s) j 0 ≡ target) = memb_at target (succs s) (rw (q, R.here) at m) in
                  R.missed x.0 (omega arith) x.2
            ];
        queue = S.queue;
        at_end = omega (arith, R.turn);
        end_count = S.end_count;
        earlier = λ i h.
            elim (lt_or_ge i at) [
              | inl p ↦ S.earlier i p
              | inr p ↦ let q : i ≡ at = omega arith in rw (q, R.here) (omega (arith, row_level))
            ];
        present = λ i h k. S.present i (omega arith) k;
        later = S.later;
      }

-- all edges es have been looked at, and if there is one step to the state itself instead, it does not lead into the target
pub row_end :
    {n limit target at end count s k next : ℕ} {succs : ℕ → List ℕ} {w₀ w : List ℕ} (level : ℕ)
    → InRow n succs limit target w₀ (level + 1) at end count s k w
    → (es : List ℕ) → (succs s ≡ es) ⊎ (succs s ≡ s ∷ []) → length es ≤ k
    → (succs s ≡ s ∷ [] → s ≡ target → ⊥) → next ≡ at + 1
    → State n succs limit target w₀ (level + 1) next end count w
row_end level R es (inl e) l apart q = row_done level R q (omega (arith, ap length e))
row_end level R es (inr e) l apart q = row_done level (row_alone level R e (apart e)) q (omega (arith, ap length e))

-- all states of the level have been looked at: those after them are the next level's
pub level_done : {n limit target v at end count : ℕ} {succs : ℕ → List ℕ} {w₀ w : List ℕ} → end ≤ at → State n succs limit target w₀ v at end count w → State n succs limit target w₀ v at at count w
level_done l S =
    record {
      limited = S.limited;
      fits = S.fits;
      outside = S.outside;
      lists = S.lists;
      sound = S.sound;
      started = S.started;
      passed = S.passed;
      missed = S.missed;
      queue = S.queue;
      at_end = omega arith;
      end_count = omega (arith, S.at_end, S.end_count);
      earlier = S.earlier;
      present = λ i h k. absurd (omega arith);
      later = λ i h k. S.later i (omega arith) k;
    }
