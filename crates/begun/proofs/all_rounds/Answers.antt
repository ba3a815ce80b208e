-- `all_rounds` meets its contract: no model has so many candidates that the rounds are stopped, and the ceiling cuts nothing
-- off.
use native.Mathlib.Omega.{arith}
use Rattle.model.proofs.Laws.{valid_sizes}
use Rattle.begun.proofs.BegunLaws.{never_stopped, full_least}
use Rattle.begun.proofs.all_rounds.Goals as goal

pub unreachable-requires : goal.unreachable-requires
unreachable-requires c = never_stopped c.requires.valid c.in-Stopped.ensures.says

pub returns-in-NoneWithin-clause-says : goal.returns-in-NoneWithin-clause-says
returns-in-NoneWithin-clause-says c =
    let all = c.in-NoneWithin.ensures.says in
    record { rounds_are = all.rounds_are; least_is = full_least c.requires.valid (omega (arith, valid_sizes c.requires.valid)) all }
