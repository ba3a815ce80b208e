-- Laws of admitting the sources of a level: the walk along the level's list, and what it leaves.
use Prim.Native.Nat.{ℕ, suc, ◌+◌, ◌≤◌, ◌<◌}
use mathlib.Core.Path.{◌≡◌}
use mathlib.Core.Logic.{inl, inr}
use mathlib.Core.List.{List}
use mathlib.Core.Option.{some}
use native.Mathlib.Omega.{arith}
use native.Mathlib.Decide.{ℕ_discrete}
use Rattle.lists.proofs.Tests.{lt_or_ge}
use Rattle.frontier.specs.Regions.{entry}
use Rattle.frontier.specs.Buckets.{sources, Greatest}
use Rattle.frontier.specs.Search.{start, ReachedBy, State, Reached}
use Rattle.frontier.proofs.PushLaws.{reach_state, reach_kept, reach_here}

-- The walk along the list of a level's sources: the cursor names a source of the level or is 0, and the level's sources
-- from the cursor on have been reached.
pub record Admitting (n : ℕ) (succs : ℕ → List ℕ) (limit target : ℕ) (w₀ : List ℕ) (level at count cursor : ℕ) (w : List ℕ) : Type 0 where
  pub below : level < limit
  pub state : State n succs limit target w₀ level at at count w
  pub within : cursor ≤ n
  pub names : (s : ℕ) → cursor ≡ suc s → sources n limit w₀ s ≡ some level
  pub done : (s : ℕ) → cursor ≤ s → s < n → sources n limit w₀ s ≡ some level → ReachedBy n (suc level) s w

-- the walk starts at the greatest source of the level
pub admitting_start : {n limit target level at count : ℕ} {succs : ℕ → List ℕ} {w₀ w : List ℕ} → level < limit → State n succs limit target w₀ level at at count w → Admitting n succs limit target w₀ level at count (entry 4 n w level) w
admitting_start {level = level} l S =
    let G = S.lists.firsts level l in
    record {
      below = l;
      state = S;
      within = G.within;
      names = G.names;
      done = λ s h k e. absurd (G.none_above s h k e);
    }

module _ {n limit target level at count r cursor : ℕ} {succs : ℕ → List ℕ} {w₀ w w' : List ℕ} (s : ℕ) (q : cursor ≡ suc s) (A : Admitting n succs limit target w₀ level at count cursor w) (R : Reached n s (level + 1) count w w' r) where
  -- the source is a state
  source_state : s < n
  source_state = omega (arith, A.within)

  -- the search after the source is reached
  admitted_state : State n succs limit target w₀ level at at r w'
  admitted_state = reach_state s (level + 1) A.state source_state (omega arith) (start source_state (A.names s q)) R

  -- region 5 names the next smaller source of the level
  next_source : Greatest (sources n limit w₀) level s (entry 5 n w' s)
  next_source = admitted_state.lists.nexts s level source_state (A.names s q)

  -- the cursor falls
  pub admitting_falls : entry 5 n w' s < cursor
  admitting_falls = omega (arith, next_source.within)

  -- one source is reached, and the cursor goes on to the next smaller one
  pub admitting_step : Admitting n succs limit target w₀ level at r (entry 5 n w' s) w'
  admitting_step =
      record {
        below = A.below;
        state = admitted_state;
        within = omega (arith, next_source.within, source_state);
        names = next_source.names;
        done = λ t h k f.
            elim (lt_or_ge t s) [
              | inl m ↦ absurd (next_source.none_above t h m f)
              | inr m ↦
                  elim (ℕ_discrete t s) [
                    | yes j ↦ rw j (reach_here s (level + 1) A.state source_state (omega arith) R)
                    | no d ↦ reach_kept s (level + 1) A.state source_state R (A.done t (omega arith) k f)
                  ]
            ];
      }

-- at the end of the list the level's sources are in
pub admitting_done : {n limit target level at count cursor : ℕ} {succs : ℕ → List ℕ} {w₀ w : List ℕ} → cursor ≡ 0 → Admitting n succs limit target w₀ level at count cursor w → State n succs limit target w₀ (level + 1) at count count w
admitting_done {level = level} {cursor = cursor} q A =
    let S = A.state in
    record {
      limited = S.limited;
      fits = S.fits;
      outside = S.outside;
      lists = S.lists;
      sound = S.sound;
      started = λ s a l e h.
          elim (lt_or_ge a level) [
            | inl k ↦ S.started s a l e k
            | inr k ↦ let j : a ≡ level = omega arith in rw j (A.done s (omega arith) l (rw j at e))
          ];
      passed = S.passed;
      missed = S.missed;
      queue = S.queue;
      at_end = omega (arith, S.end_count);
      end_count = omega arith;
      earlier = λ i h. omega (arith, S.earlier i h);
      present = λ i h k. omega (arith, S.later i h k);
      later = λ i h k. absurd (omega arith);
    }
