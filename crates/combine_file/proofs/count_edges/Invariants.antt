-- `count_edges` meets its contract: the edges of the combined states below c are counted.
use Prim.Native.Nat.{◌*◌, ◌≤◌}
use mathlib.Core.Path.{◌≡◌}
use lib.ListN.{length}
use Rattle.writer.specs.File.{edges_below}
use Rattle.combine_graph.specs.Combined.{combined}
use Rattle.combine_file.proofs.count_edges.Given as goal

abbrev pub invariant-loop-c : goal.invariant-loop-c
invariant-loop-c l =
    (l.c ≤ l.pairs) × (l.edges ≡ length (edges_below (combined l.rule l.letters l.property) l.c)) × (l.edges ≤ l.c * 67108864)
