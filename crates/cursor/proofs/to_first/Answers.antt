-- `to_first` meets its contract: the table is prepared, and the first list is put into region 0.
use mathlib.Core.Path.{◌∙◌}
use Rattle.follow.specs.Follow.{Prepared}
use Rattle.follow.proofs.PlacesTable.{prepared_kept}
use Rattle.cursor.proofs.CursorLaws.{prepared_start, at_first}
use Rattle.cursor.proofs.to_first.Goals as goal
use Rattle.cursor.proofs.to_first.Goals.{After-prepare, Start}

-- the function's start, from where the stems were found
abbrev start : After-prepare → Start
start c = (goal.at.After-prepare c).Start

-- the table is prepared
prepared : (c : After-prepare) → let a = (start c).args in Prepared a.file.now a.h c.prepare.new.work a.transitions.0
prepared c =
    let s = start c in
    prepared_start s.requires.rounds_ready s.requires.h_value c.prepare.ensures.stem_entries c.prepare.ensures.same.same_length

pub first-requires : goal.first-requires
first-requires c = prepared (goal.at.first-requires c).After-prepare

pub returns : goal.returns
returns c =
    let listed = c in
    let done = (goal.at.returns listed).After-prepare in record {
      at = at_first (prepared_kept (prepared done) listed.first.ensures.kept) listed.first.ensures.holds_first;
      kept = listed.first.ensures.kept.same_length ∙ done.prepare.ensures.same.same_length;
    }
