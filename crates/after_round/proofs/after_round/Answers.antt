-- `after_round` meets its contract: a length above the limit does not change the record.
use Prim.Native.Nat.{ℕ}
use mathlib.Core.Path.{◌∙◌, ap}
use mathlib.Core.Option.{Option}
use native.Mathlib.Omega.{arith}
use Rattle.lasso.specs.Rounds.{round_length, round_within, with_round}
use Rattle.lasso.specs.Values.{record_of}
use Rattle.lasso.proofs.RoundLaws.{candidates-length_le, candidate_at_state, round_length_le}
use Rattle.model.specs.Model.{graph_in}
use Rattle.model.proofs.Laws.{valid_sizes, valid_well_formed}
use Rattle.round_limit.proofs.LimitLaws.{with_round_limit}
use Rattle.after_round.proofs.after_round.Goals as goal

pub round-found-requires-clause-r_lt_states : goal.round-found-requires-clause-r_lt_states
round-found-requires-clause-r_lt_states c =
    let a = c.args in
    omega (arith, c.requires.r_value, candidate_at_state (graph_in a.file.now a.h) a.so_far.done c.requires.so_far_in_bounds)

pub with_round-requires : goal.with_round-requires
with_round-requires c =
    let sizes = valid_sizes c.requires.rounds_ready.valid in
    omega (arith, c.requires.so_far_in_bounds, candidates-length_le (graph_in c.args.file.now c.args.h))

pub returns-clause-result_value : goal.returns-clause-result_value
returns-clause-result_value c =
    let a = c.args in
    let g = graph_in a.file.now a.h in
    let valid = c.requires.rounds_ready.valid in
    let low = candidate_at_state g a.so_far.done c.requires.so_far_in_bounds in
    c.with_round.ensures
    ∙ ap (λ (x : Option ℕ). with_round (record_of a.so_far) x) c.round-found.ensures.result_value
    ∙ with_round_limit (record_of a.so_far) (round_length g a.r) a.h.states a.ceiling.0
    c.limit_of-limit.result c.limit_of-limit.ensures
    (λ l e. omega (arith, round_length_le (valid_well_formed valid) a.r l (omega (arith, c.requires.r_value)) e))
    ∙ ap (λ (s : ℕ). with_round (record_of a.so_far) (round_within g a.ceiling.0 s)) c.requires.r_value
