-- `starts::flag_starts` meets its contract. The loop's invariant: each state is flagged that an edge enters from one
-- of the first u states, which is reached and whose entry in region 0 is no less.
use Rattle.model.specs.Model.{graph_in}
use Rattle.starts.specs.Flags.{Flagging}
use Rattle.starts.proofs.StartsFlags.{EnteredBefore}
use Rattle.starts.proofs.flag_starts.Given as goal

abbrev pub invariant-loop-u : goal.invariant-loop-u
invariant-loop-u l = Flagging l.n (EnteredBefore (graph_in l.file l.h) l.initial.work l.u) l.initial.work l.work
