-- `rounds::run_rounds` meets its contract. The loop's invariant: the rounds for the candidates below s are done, and the
-- table is as before outside regions 2 to 5.
use Prim.Native.Nat.{◌*◌}
use Rattle.lasso.specs.Values.{record_of}
use Rattle.model.specs.Model.{graph_in}
use Rattle.table.specs.Changes.{SameOutside}
use Rattle.rounds.proofs.RecordLaws.{Underway}
use Rattle.rounds.proofs.run_rounds.Given as goal

abbrev pub invariant-loop-s : goal.invariant-loop-s
invariant-loop-s l =
    SameOutside (2 * l.n) (6 * l.n) l.initial.work l.work × Underway (graph_in l.file l.h) l.ceiling.0 l.allowance l.s (record_of l.record)
