use mathlib.Core.Path.{sym, ◌∙◌}
use native.Mathlib.Omega.{arith}
use borrow.Author.Tests.{ltb-false}
use lib.ListN.{length}
use Rattle.model.specs.Model.{graph_of}
use Rattle.model.proofs.Laws.{valid_sizes}
use Rattle.gate.proofs.GateLaws.{valid_common}
use Rattle.distances.proofs.DistancesLaws.{reasons_clear, distances_written}
use Rattle.distances.proofs.EntryLaws.{start_stored, written_more, written_all}
use Rattle.distances.proofs.distances_model.Goals as goal

pub loop-s-preserved : goal.loop-s-preserved
loop-s-preserved c =
    let a = c.args in
    let sizes = valid_sizes c.requires.valid.0 in
    let is = c.entry_for.ensures ∙ start_stored c.requires.valid.0 c.requires.valid.1 c.start_distances.ensures a.ceiling.0 c.loop-s.s (omega arith) in
    written_more (graph_of a.file.now 0) a.ceiling.0 a.output.now _ c.loop-s.s _ (omega arith) (omega arith) is c.loop-s.invariant

pub returns-clause-output : goal.returns-clause-output
returns-clause-output c =
    let a = c.args in
    let sizes = valid_sizes c.requires.valid.0 in
    let all = written_all (graph_of a.file.now 0) a.ceiling.0 a.output.now _ c.loop-s.s (omega arith) c.loop-s.invariant in
    let common = valid_common c.requires.valid.0 (length a.work.now) c.requires.states_in_bounds in
    let low = ltb-false 4096 a.ceiling.0 (sym c.ceiling_too_high.ensures ∙ c.if-ceiling_too_high.false) in
    let clear = reasons_clear a.file.now a.ceiling.0 (length a.output.now) (length a.work.now) common low (omega arith) in
    (distances_written a.file.now a.ceiling.0 a.output.now _ clear a.h.states sizes.states_are _ all).1
