use Prim.Native.Nat.{ℕ, ◌<◌}
use mathlib.Core.Path.{sym, ◌∙◌, ap}
use native.Mathlib.Omega.{arith}
use lib.ListN.{get_or}
use Rattle.lasso.specs.Rounds.{candidates}
use Rattle.model.specs.Model.{graph_in}
use Rattle.candidates.proofs.CandidateLaws.{counted_yes, counted_no, counted_at}
use Rattle.candidates.proofs.candidate_at.Goals as goal
use Rattle.candidates.proofs.candidate_at.Goals.{then-is_candidate+else-before-place, else-is_candidate}

pub returns-then-before-place : goal.returns-then-before-place
returns-then-before-place c =
    let there = counted_at (omega arith) (sym c.is_candidate.ensures ∙ c.if-is_candidate.true) c.loop-s.invariant.2 in
    sym there ∙ ap (λ (i : ℕ). get_or (candidates (graph_in c.args.file.now c.args.h)) i 0) c.if-before-place.true

pub loop-s-preserved : goal.loop-s-preserved
loop-s-preserved c =
    let test = sym c.is_candidate.ensures in
    let inside : c.loop-s.s < (graph_in c.args.file.now c.args.h).size = omega arith in
    let (within, small, below) = c.loop-s.invariant in
    elim c.if-is_candidate.branch [
      | then-is_candidate+else-before-place w ↦ (omega arith, omega arith, rw w.before-is (counted_yes inside (test ∙ w.if-is_candidate.true) below))
      | else-is_candidate w ↦ (omega arith, omega arith, rw w.before-is (counted_no inside (test ∙ w.if-is_candidate.false) below))
    ]
