-- The record of a search while it goes up through the states.
use Prim.Native.Nat.{ℕ, suc, ◌+◌, ◌≤◌, ◌<◌}
use mathlib.Core.Path.{◌≡◌, ◌∙◌, ap}
use mathlib.Core.Bool.{true, false}
use native.Mathlib.Omega.{arith}
use Rattle.lasso.specs.Graph.{Graph}
use Rattle.lasso.specs.Rounds.{candidateb, Record, after_round, after_rounds}
use Rattle.candidates.proofs.CandidateLaws.{Counted, counted_yes, counted_no}

-- the rounds for the candidates below s are done, and there are no more of them than allowed
pub record Underway (g : Graph) (ceiling allowance s : ℕ) (rec : Record) : Type 0 where
  pub allowed : rec.done ≤ allowance
  pub counted : Counted g rec.done s
  pub rounds : rec ≡ after_rounds g ceiling rec.done

-- the round for a candidate is done
pub underway_yes : {g : Graph} {ceiling allowance s : ℕ} {rec rec' : Record} → s < g.size → candidateb g s ≡ true
    → rec.done < allowance → rec' ≡ after_round g ceiling rec → Underway g ceiling allowance s rec → Underway g ceiling allowance (s + 1) rec'
underway_yes {g} {ceiling} {allowance} {s} {rec} {rec'} l e less next u =
    let d : rec'.done ≡ rec.done + 1 = ap (λ (r : Record). r.done) next in
    let q : suc rec.done ≡ rec'.done = omega arith in
    record {
      allowed = omega arith;
      counted = rw d (counted_yes l e u.counted);
      rounds = next ∙ ap (after_round g ceiling) u.rounds ∙ ap (after_rounds g ceiling) q;
    }

-- a state that is no candidate has no round
pub underway_no : {g : Graph} {ceiling allowance s : ℕ} {rec : Record} → s < g.size → candidateb g s ≡ false
    → Underway g ceiling allowance s rec → Underway g ceiling allowance (s + 1) rec
underway_no l e u =
    record { allowed = omega arith; counted = counted_no l e u.counted; rounds = u.rounds }
