-- `last_mark` meets its contract. The loop's invariant: no state after place k is marked.
use Prim.Native.Nat.{ℕ, ◌+◌}
use mathlib.Core.List.{List}
use lib.Dec.{T}
use Rattle.model.specs.declared.Header.{Header}
use Rattle.model.specs.Model.{graph_in}
use Rattle.current.specs.Current.{state_at}
use Rattle.goals.proofs.LastLaws.{NoneFrom}
use Rattle.goal_tables.proofs.last_mark.Given as goal

-- the state at a place of the list is marked
abbrev pub Marked : List ℕ → Header → List ℕ → ℕ → Type 0
Marked f h w k = T ((graph_in f h).marked (state_at h w k))

abbrev pub invariant-loop-k : goal.invariant-loop-k
invariant-loop-k l = NoneFrom (Marked l.file l.h l.work) l.place (l.k + 1)
