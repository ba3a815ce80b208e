-- `least_follower` meets its contract. The loop's invariant: of the successors of the list's last state the first
-- k were tried.
use Rattle.model.specs.Model.{graph_in}
use Rattle.current.specs.Current.{list_in}
use Rattle.passed.specs.Passed.{PassedAt}
use Rattle.followers.proofs.TriedLaws.{Tried}
use Rattle.followers.proofs.least_follower.Given as goal

abbrev pub invariant-loop-k : goal.invariant-loop-k
invariant-loop-k l =
    Tried (graph_in l.file l.h) l.h.states l.transitions.0 (list_in (graph_in l.file l.h).start l.initial.work l.place) l.bound ((graph_in l.file l.h).succs l.s) l.initial.work l.work l.k
    × PassedAt l.file l.h l.work l.transitions.0 l.place l.passed
