-- `round::round` meets its contract: the start levels of its search are the sums of the distances from the start and
-- from r, so the search finds the round's length.
use mathlib.Core.Path.{◌≡◌, sym}
use native.Mathlib.Omega.{arith}
use Rattle.model.proofs.Laws.{valid_well_formed}
use Rattle.round.proofs.Laws.{round_none}
use Rattle.round.proofs.TableLaws.{round_fits, round_some, round_nothing}
use Rattle.round.proofs.round.Goals as goal

pub returns-then-limit-eq0-clause-result_value : goal.returns-then-limit-eq0-clause-result_value
returns-then-limit-eq0-clause-result_value c =
    let none_found = round_none (valid_well_formed c.requires.rounds_ready.valid) c.args.r in
    let zero : c.args.limit ≡ 0 = omega arith in
    sym (rw zero none_found)

pub add_start_distances-requires-clause-sums_fit : goal.add_start_distances-requires-clause-sums_fit
add_start_distances-requires-clause-sums_fit c = round_fits c.requires.rounds_ready c.distances_from.ensures

pub returns-in-Length-clause-result_value : goal.returns-in-Length-clause-result_value
returns-in-Length-clause-result_value c =
    sym (round_some c.requires.rounds_ready c.distances_from.ensures c.add_start_distances.ensures.sums c.in-Length.ensures)

pub returns-in-Nothing-clause-result_value : goal.returns-in-Nothing-clause-result_value
returns-in-Nothing-clause-result_value c =
    sym (round_nothing c.requires.rounds_ready c.distances_from.ensures c.add_start_distances.ensures.sums c.in-Nothing.ensures)
