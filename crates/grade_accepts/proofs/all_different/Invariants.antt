-- `all_different` meets its contract. The loop's invariant: up to the place of the turn the entries are all different, and a
-- flag is set for each of them and for no other number.
use mathlib.Core.Path.{◌≡◌}
use lib.ListN.{length, take}
use Rattle.lasso.specs.Graph.{edges}
use Rattle.grade_accepts.proofs.FlagLaws.{Flags}
use Rattle.grade_accepts.proofs.all_different.Given as goal

abbrev pub invariant-loop-state : goal.invariant-loop-state
invariant-loop-state l =
    record { flags : Flags l.n (take (edges l.list) l.list) l.work l.state-index; same_length : length l.work ≡ length l.initial.work }
