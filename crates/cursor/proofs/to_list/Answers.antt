-- `to_list` meets its contract: the table is prepared, and the given list is put into region 0.
use native.Mathlib.Omega.{arith}
use Rattle.lasso.proofs.RollLaws.{roll-length}
use Rattle.model.specs.Model.{graph_in}
use Rattle.cursor.proofs.TableLaws.{loaded_list_in, least_fits, loaded_kept, prepared_loaded}
use Rattle.cursor.proofs.CursorLaws.{placed_at}
use Rattle.cursor.proofs.to_list.Goals as goal
use Rattle.cursor.proofs.to_list.Goals.{After-load-arg-1, After-prepare, After-slice_known-3-1, Start}

-- the function's start, from where the stems were found
abbrev start : After-prepare → Start
start c = (goal.at.After-prepare c).Start

pub load-requires : goal.load-requires
load-requires c =
    let done = c in
    let s = (goal.at.After-load-arg-1 done).Start in
    let a = s.args in record {
      in_bounds = omega (arith, roll-length (graph_in a.file.now a.h) a.transitions.0 s.requires.h_value a.list.now s.requires.fact, least_fits s.requires.rounds_ready a.transitions.0 s.requires.h_value, s.requires.rounds_ready.room, done.prepare.ensures.same.same_length);
      list_in_bounds = omega (arith, roll-length (graph_in a.file.now a.h) a.transitions.0 s.requires.h_value a.list.now s.requires.fact, least_fits s.requires.rounds_ready a.transitions.0 s.requires.h_value, s.requires.rounds_ready.room, done.prepare.ensures.same.same_length);
    }

pub returns : goal.returns
returns c =
    let put = c in
    let done = put in
    let s = (goal.at.After-slice_known-3-1 done).Start in
    let a = s.args in
    let m = s.requires.fact in
    let same = done.prepare.ensures.same.same_length in
    let prepared = prepared_loaded s.requires.rounds_ready a.transitions.0 s.requires.h_value _ _ same done.prepare.ensures.stem_entries a.list.now m put.load.ensures in
    let list = loaded_list_in (graph_in a.file.now a.h) a.transitions.0 s.requires.h_value a.list.now m _ _ put.load.ensures in record {
      at = placed_at a.list.now prepared list m;
      kept = loaded_kept s.requires.rounds_ready a.transitions.0 s.requires.h_value _ _ same a.list.now m put.load.ensures;
    }
