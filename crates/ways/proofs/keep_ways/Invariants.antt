-- `ways::keep_ways` meets its contract. The loop's invariant: the queue's states from place i on are settled.
use Rattle.model.specs.Model.{graph_in}
use Rattle.ways.proofs.BackLaws.{Settled}
use Rattle.ways.proofs.keep_ways.Given as goal

abbrev pub invariant-loop-i : goal.invariant-loop-i
invariant-loop-i l = Settled (graph_in l.file l.h) l.n l.count l.initial.work l.work l.i
