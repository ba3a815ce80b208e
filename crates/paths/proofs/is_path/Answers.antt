-- `is_path` meets its contract: a list from the start is a path exactly if it breaks nowhere.
use mathlib.Core.Path.{◌≡◌, sym, ◌∙◌}
use borrow.Author.Tests.{eq-eqb}
use lib.ListN.{get_or}
use Rattle.model.specs.Model.{graph_in}
use Rattle.model.proofs.Laws.{valid_well_formed}
use Rattle.paths.proofs.BreakLaws.{none_path}
use Rattle.paths.proofs.is_path.Goals as goal

pub returns-then-get-h : goal.returns-then-get-h
returns-then-get-h c =
    let a = c.args in
    let starts : get_or a.list.now 0 0 ≡ a.h.start = sym c.get.ensures.value ∙ c.if-get-h.true in
    let path = none_path (graph_in a.file.now a.h) (valid_well_formed c.requires.valid) a.list.now starts _ _ c.first_break.ensures c.is_none.ensures in
    rw (eq-eqb (get_or a.list.now 0 0) a.h.start starts) path
