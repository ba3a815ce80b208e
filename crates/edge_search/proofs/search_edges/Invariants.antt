-- `search_edges` meets its contract. Each loop keeps the state of the search: the levels' loop with the queue looked at up to
-- `head`, the queue's loop within a level, the successors' loop within a row.
use Prim.Native.Nat.{ℕ, ◌+◌, ◌*◌, ◌≤◌}
use mathlib.Core.List.{List}
use Rattle.model.specs.Model.{graph_in}
use Rattle.frontier.specs.Regions.{queued}
use Rattle.frontier.specs.Search.{State}
use Rattle.table.specs.Changes.{SameOutside}
use Rattle.edge_search.specs.Promises.{Apart}
use Rattle.edge_search.proofs.RowLaws.{InRow}
use Rattle.edge_search.proofs.search_edges.Given as goal

abbrev pub invariant-loop-k : goal.invariant-loop-k
invariant-loop-k l =
    (l.initial.tail ≤ l.tail) ×
    ((w : List ℕ) → InRow l.n (graph_in l.file l.h).succs l.limit l.target w (l.level + 1) (queued l.n l.at) (queued l.n l.end) (queued l.n l.initial.tail) l.s 0 l.initial.work →
    InRow l.n (graph_in l.file l.h).succs l.limit l.target w (l.level + 1) (queued l.n l.at) (queued l.n l.end) (queued l.n l.tail) l.s l.k l.work) ×
    SameOutside (2 * l.n) (4 * l.n) l.initial.work l.work

abbrev pub invariant-loop-at : goal.invariant-loop-at
invariant-loop-at l =
    (l.initial.tail ≤ l.tail) ×
    ((w : List ℕ) → Apart (graph_in l.file l.h) l.limit l.target w → State l.n (graph_in l.file l.h).succs l.limit l.target w (l.level + 1) (queued l.n l.head) (queued l.n l.end) (queued l.n l.initial.tail) l.initial.work →
    State l.n (graph_in l.file l.h).succs l.limit l.target w (l.level + 1) (queued l.n l.at) (queued l.n l.end) (queued l.n l.tail) l.work) ×
    SameOutside (2 * l.n) (4 * l.n) l.initial.work l.work

abbrev pub invariant-loop-level : goal.invariant-loop-level
invariant-loop-level l =
    (l.initial.head ≤ l.head) × (l.head ≤ l.tail) ×
    ((w : List ℕ) → Apart (graph_in l.file l.h) l.limit l.target w → State l.n (graph_in l.file l.h).succs l.limit l.target w 0 (queued l.n l.initial.head) (queued l.n l.initial.head) (queued l.n l.initial.tail) l.initial.work →
    State l.n (graph_in l.file l.h).succs l.limit l.target w l.level (queued l.n l.head) (queued l.n l.head) (queued l.n l.tail) l.work) ×
    SameOutside (2 * l.n) (4 * l.n) l.initial.work l.work
