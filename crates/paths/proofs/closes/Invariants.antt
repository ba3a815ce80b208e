-- `closes` meets its contract. The loop's invariant: some place starts a closed walk with a mark exactly if one from place k
-- on does. The first place that holds the last entry decides.
use Rattle.lists.specs.Lists.{anyb, below}
use Rattle.lasso.specs.Graph.{edges, loopsb}
use Rattle.lists.proofs.Range.{Left}
use Rattle.model.specs.Model.{graph_in}
use Rattle.paths.proofs.closes.Given as goal

abbrev pub invariant-loop-k : goal.invariant-loop-k
invariant-loop-k l =
    let loops = loopsb (graph_in l.file l.h) l.list in Left loops (anyb loops (below (edges l.list))) (edges l.list) l.k
