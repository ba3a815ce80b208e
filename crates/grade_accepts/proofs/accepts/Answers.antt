-- `accepts` meets its contract: its tests are those of an accepting path with that k, but for the edges, which a list that
-- breaks nowhere has.
use mathlib.Core.Path.{◌≡◌, sym, ◌∙◌, ap}
use mathlib.Core.Bool.{true, false}
use native.Mathlib.Omega.{arith}
use borrow.Author.Tests.{eqb-true, ltb-true}
use lib.Dec.{eqb}
use lib.ListN.{length, get_or, take}
use Rattle.lists.specs.Lists.{differentb}
use Rattle.lasso.specs.Graph.{edges, loopsb}
use Rattle.model.specs.Model.{graph_in}
use Rattle.paths.proofs.BreakLaws.{unbroken_states, unbroken_path}
use Rattle.grade_verdicts.proofs.AcceptLaws.{accepts_closes}
use Rattle.grade_accepts.proofs.accepts.Goals as goal
use Rattle.grade_accepts.proofs.accepts.Goals.{then-get-h, else-get-h, then-entries-list, else-entries-list}

pub all_different-requires-clause-all_below : goal.all_different-requires-clause-all_below
all_different-requires-clause-all_below c = unbroken_states (graph_in c.args.file.now c.args.h) c.args.list.now c.requires.list_value

-- a test that did not pass passed: this does not happen
refuted : {A : Type 0} → false ≡ true → A
refuted e = cc

pub returns-then-all_different-clause-tells : goal.returns-then-all_different-clause-tells
returns-then-all_different-clause-tells c =
    let a = c.args in
    let g = graph_in a.file.now a.h in
    let path = unbroken_path g a.list.now c.requires.list_value in
    elim c.if-get-h.branch [
      | then-get-h w ↦ elim c.if-entries-list.branch [
        | then-entries-list v ↦
            let first : eqb v.get.result a.h.start ≡ true = sym v.value-is ∙ w.if-get-h.true in
            let starts : get_or a.list.now 0 0 ≡ a.h.start = sym v.get.ensures.value ∙ eqb-true v.get.result a.h.start first in
            let different : differentb (take (edges a.list.now) a.list.now) ≡ true = cc in
            let place : c.from.result ≡ a.k = c.from.ensures in
            let closed : c.loops_at.result ≡ loopsb g a.list.now a.k = c.loops_at.ensures ∙ ap (loopsb g a.list.now) place in
            closed ∙ accepts_closes g a.list.now a.k (omega arith) (omega arith) starts path different
        | else-entries-list v ↦ absurd (omega (arith, ltb-true c.entries.result.0 (length a.list.now) (sym v.value-is ∙ w.if-get-h.true)))
      ]
      | else-get-h w ↦ refuted (sym w.if-get-h.false ∙ sym w.value-is ∙ c.if-all_different.true)
    ]
