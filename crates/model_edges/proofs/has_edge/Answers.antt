use Prim.Native.Nat.{ℕ}
use mathlib.Core.Path.{◌≡◌, sym, ◌∙◌, ap, subst}
use mathlib.Core.List.{List}
use native.Mathlib.Omega.{arith}
use lib.Dec.{T}
use Rattle.lists.specs.Lists.{memb, ascendingb}
use Rattle.lasso.specs.Graph.{edgeb}
use Rattle.model.specs.Model.{graph_in}
use Rattle.model.proofs.Laws.{valid_well_formed}
use Rattle.model_edges.proofs.Halving.{between_all, between_first, between_after, between_before, between_found, between_none}
use Rattle.model_edges.proofs.has_edge.Goals as goal
use Rattle.model_edges.proofs.has_edge.Goals.{After-successors_of-successors, At-loop-low, Joined-t-d, Then-u-t, then-t-d, else-t-d}

-- the successors, which ascend and decide about the edge
abbrev list : After-successors_of-successors → List ℕ
list c = c.successors_of-successors.result

ascend : (c : After-successors_of-successors) → T (ascendingb (list c))
ascend c = subst (λ (ts : List ℕ). T (ascendingb ts)) (sym c.successors_of-successors.ensures) ((valid_well_formed c.requires.valid).ascending c.args.s)

decide : (c : After-successors_of-successors)
    → let a = c.args in memb a.t (list c) ≡ edgeb (graph_in a.file.now a.h) a.s a.t
decide c = ap (memb c.args.t) c.successors_of-successors.ensures

-- the successors, from the loop
abbrev row : At-loop-low → After-successors_of-successors
row at = (goal.at.At-loop-low at).After-successors_of-successors

pub loop-low-init : goal.loop-low-init
loop-low-init c =
    let counted = c in
    let part = (goal.at.Joined-t-d counted).After-successors_of-successors in
    let t = part.args.t in
    elim c.if-t-d.branch [
      | then-t-d w ↦ between_first t (list part) (ascend part) (omega (arith, w.if-t-d.true, counted.len-d.ensures)) _ (omega (arith, w.high-is))
      | else-t-d w ↦ between_all t (list part) (ascend part) _ (omega (arith, w.high-is, counted.len-d.ensures))
    ]

pub overflow_sub-middle : goal.overflow_sub-middle
overflow_sub-middle c = omega (arith, c.loop-low-test.true)

pub overflow_add-middle : goal.overflow_add-middle
overflow_add-middle c = omega (arith, c.loop-low-test.true)

pub target-u-requires : goal.target-u-requires
target-u-requires c = omega (arith, c.loop-low-test.true, c.loop-low.invariant.within)

pub returns-then-u-t : goal.returns-then-u-t
returns-then-u-t c =
    let looked = c in
    let at = (goal.at.Then-u-t looked).At-loop-low in
    sym (between_found at.loop-low.invariant _ (omega (arith, looked.loop-low-test.true)) (sym looked.target-u.ensures ∙ c.if-u-t.true))
    ∙ decide (row at)

pub loop-low-smaller-then-u-t-2 : goal.loop-low-smaller-then-u-t-2
loop-low-smaller-then-u-t-2 c = omega (arith, c.loop-low-test.true)

pub loop-low-preserved-then-u-t-2 : goal.loop-low-preserved-then-u-t-2
loop-low-preserved-then-u-t-2 c =
    let looked = c in
    let at = looked in
    between_after at.loop-low.invariant _ (omega (arith, looked.loop-low-test.true)) (omega (arith, looked.target-u.ensures, c.if-u-t-2.true))

pub loop-low-smaller : goal.loop-low-smaller
loop-low-smaller c = omega (arith, c.loop-low-test.true)

pub loop-low-preserved : goal.loop-low-preserved
loop-low-preserved c =
    let looked = c in
    let at = looked in
    between_before at.loop-low.invariant _ (omega (arith, looked.loop-low-test.true))
    (omega (arith, looked.target-u.ensures, c.if-u-t-2.false, c.if-u-t.false))

pub returns : goal.returns
returns c =
    let at = (goal.at.returns c).At-loop-low in
    sym (between_none at.loop-low.invariant (omega (arith, c.loop-low-test.false))) ∙ decide (row at)
