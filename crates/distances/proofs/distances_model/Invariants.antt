-- `distances_model` meets its contract: 21 for a ceiling above 4,096, then 15 for an output with fewer entries than
-- there are states, else the entries of all states are written. The loop's invariant: those of the states below s are.
use Rattle.model.specs.Model.{graph_of}
use Rattle.distances.proofs.EntryLaws.{Written}
use Rattle.distances.proofs.distances_model.Given as goal

abbrev pub invariant-loop-s : goal.invariant-loop-s
invariant-loop-s l = Written (graph_of l.file 0) l.ceiling.0 l.initial.output l.output l.s
