use Prim.Native.Nat.{ℕ}
use mathlib.Core.Path.{◌≡◌, ap, ◌∙◌}
use native.Mathlib.Omega.{arith}
use lib.ListN.{length, length-append}
use Rattle.writer.specs.File.{edges_below}
use Rattle.writer.proofs.FileLaws.{edges_next}
use Rattle.combine_graph.specs.Combined.{combined}
use Rattle.combine_graph.proofs.CombinedLaws.{pairs_are}
use Rattle.combine_file.proofs.count_edges.Goals as goal

pub loop-c-preserved : goal.loop-c-preserved
loop-c-preserved c =
    let at = c in
    let a = at.args in
    let g = combined a.rule.now a.letters.now a.property.now in
    let i : ℕ = at.loop-c.c in
    let degree = c.pair_degree-edges.ensures in (
      omega arith,
      omega (arith, ap length (edges_next g i), length-append (edges_below g i) (g.succs i), degree.0),
      omega (arith, degree.1),
    )

pub returns : goal.returns
returns c =
    let at = c in
    let start = at in
    let a = start.args in
    let g = combined a.rule.now a.letters.now a.property.now in
    let all : at.loop-c.c ≡ g.size = omega (arith, pairs_are start.requires, c.loop-c-test.false, at.loop-c.invariant.0) in
    at.loop-c.invariant.1 ∙ ap (λ (i : ℕ). length (edges_below g i)) all
