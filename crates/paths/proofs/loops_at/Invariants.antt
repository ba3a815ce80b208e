-- `loops_at` meets its contract. The loop's invariant: there is a mark from place k on exactly if there is one from place
-- j on.
use Prim.Native.Nat.{◌-◌}
use Rattle.lists.specs.Lists.{anyb, up_from}
use Rattle.lasso.specs.Graph.{edges}
use Rattle.lists.proofs.Range.{Left}
use Rattle.model.specs.Model.{graph_in}
use Rattle.paths.proofs.LoopTests.{mark_at}
use Rattle.paths.proofs.loops_at.Given as goal

abbrev pub invariant-loop-j : goal.invariant-loop-j
invariant-loop-j l =
    let marks = mark_at (graph_in l.file l.h) l.list in Left marks (anyb marks (up_from l.k (edges l.list - l.k))) (edges l.list) l.j
