-- `step_model` meets its contract: refused with 21 if the ceiling is too high, finished if the count of candidates is at
-- most the place, else the record after the round for the candidate at that place.
use mathlib.Core.Path.{◌≡◌, sym, ◌∙◌, subst}
use Prim.Native.Nat.{◌<◌, ◌≤◌}
use native.Mathlib.Omega.{arith}
use borrow.Author.Tests.{ltb-false}
use lib.ListN.{length}
use Rattle.lasso.specs.Graph.{Graph}
use Rattle.lasso.specs.Rounds.{candidates, after_round}
use Rattle.lasso.specs.Values.{record_of}
use Rattle.model.specs.Model.{graph_in}
use Rattle.model.proofs.Laws.{valid_graph}
use Rattle.gate.proofs.GateLaws.{valid_clear}
use Rattle.step.proofs.StepLaws.{step_finished, step_advanced}
use Rattle.step.proofs.step_model.Goals as goal

pub returns-then-count-from-clause-outcome : goal.returns-then-count-from-clause-outcome
returns-then-count-from-clause-outcome c =
    let a = c.args in
    let low = ltb-false 4096 a.ceiling.0 (sym c.ceiling_too_high.ensures ∙ c.if-ceiling_too_high.false) in
    let none_left : length (candidates (graph_in a.file.now a.h)) ≤ a.so_far.done = omega arith in
    step_finished a.file.now a.h.table a.ceiling.0 (record_of a.so_far) _ (valid_clear c.requires.valid _ c.requires.states_in_bounds) low
    (subst (λ (g : Graph). length (candidates g) ≤ a.so_far.done) (valid_graph c.requires.valid) none_left)

pub returns-clause-outcome : goal.returns-clause-outcome
returns-clause-outcome c =
    let a = c.args in
    let low = ltb-false 4096 a.ceiling.0 (sym c.ceiling_too_high.ensures ∙ c.if-ceiling_too_high.false) in
    let left_over : a.so_far.done < length (candidates (graph_in a.file.now a.h)) = omega arith in
    let g-is = valid_graph c.requires.valid in
    step_advanced a.file.now a.h.table a.ceiling.0 (record_of a.so_far) _ (valid_clear c.requires.valid _ c.requires.states_in_bounds) low
    (subst (λ (g : Graph). a.so_far.done < length (candidates g)) g-is left_over) _
    (subst (λ (g : Graph). record_of c.next_round-after.result ≡ after_round g a.ceiling.0 (record_of a.so_far)) g-is c.next_round-after.ensures.result_value)
