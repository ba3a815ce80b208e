-- `first` meets its contract: the list completed from the start on is the first of the roll.
use native.Mathlib.Omega.{arith}
use Rattle.model.specs.Model.{graph_in}
use Rattle.follow.proofs.ExtendLaws.{start_extends}
use Rattle.follow.proofs.PlacesTable.{states_to}
use Rattle.follow.proofs.PlacesRoll.{completed_first}
use Rattle.passed.proofs.PassedLaws.{known_none}
use Rattle.completion.proofs.first.Goals as goal

pub retreat-requires : goal.retreat-requires
retreat-requires c =
    let p = c.requires in
    let known = c.unknown-p.ensures in record {
      prepared = p;
      place_le_transitions = omega arith;
      states_to = states_to 0 p (omega arith) tt;
      known_from = known_none known.0 known.1 known.2;
    }

pub complete-requires : goal.complete-requires
complete-requires c =
    let s = c in
    let a = s.args in record {
      prepared = s.requires;
      from_le_transitions = omega arith;
      extends = start_extends (graph_in a.file.now a.h) a.transitions.0 s.requires.least;
      passed_at = c.retreat.ensures;
    }

pub returns : goal.returns
returns c =
    let done = c in
    let p = done.requires in record {
      holds_first = completed_first p done.complete.ensures;
      kept = done.complete.ensures.kept;
    }
