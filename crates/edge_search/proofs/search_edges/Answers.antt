use Prim.Native.Nat.{ℕ, ◌+◌, ◌*◌, ◌≤◌, ◌<◌}
use mathlib.Core.Path.{◌≡◌, sym, ◌∙◌, ap, subst}
use mathlib.Core.List.{List, [], ◌∷◌}
use mathlib.Core.Logic.{◌⊎◌}
use native.Mathlib.Omega.{arith}
use lib.ListN.{length, get_or}
use lib.Dec.{T}
use Rattle.lasso.specs.Graph.{Graph, edgeb}
use Rattle.lists.proofs.Tests.{at_memb}
use Rattle.format.specs.Bytes.{words}
use Rattle.model.specs.Model.{graph_in}
use Rattle.model.proofs.Steps.{steps_edges, steps_or_itself}
use Rattle.model.proofs.Laws.{Sizes, valid_sizes, valid_well_formed}
use Rattle.frontier.specs.Regions.{entry, queued}
use Rattle.frontier.specs.Buckets.{sources, Planned, HasPlan}
use Rattle.frontier.specs.Search.{Hit, State}
use Rattle.table.proofs.Laws.{same_outside_trans}
use Rattle.frontier.proofs.PushLaws.{queue_room, reach_outside}
use Rattle.edge_search.specs.Promises.{Apart}
use Rattle.edge_search.proofs.RowLaws.{InRow, queued-entry, planned_state, row_start, row_inside, row_hit, row_step, row_end, level_done}
use Rattle.edge_search.proofs.EndLaws.{edge_found, nothing_found, not_hit}
use Rattle.edge_search.proofs.search_edges.Goals as goal
use Rattle.edge_search.proofs.search_edges.Goals.{After-edge_target-t, After-get-s, At-loop-level, At-loop-at, At-loop-k, In-loop-k, Start}

-- the entry, from a level's turn
abbrev start : At-loop-level → Start
start c = (goal.at.At-loop-level c).Start

-- the level's turn, from a queue entry's turn
abbrev level_of : At-loop-at → At-loop-level
level_of c = (goal.at.At-loop-at c).At-loop-level

-- the queue entry's turn, from a successor's turn
abbrev queue_of : At-loop-k → At-loop-at
queue_of c = (goal.at.At-loop-k c).At-loop-at

-- the entry, from a successor's turn
abbrev entry_of_row : At-loop-k → Start
entry_of_row c = start (level_of (queue_of c))

-- the state whose successors are looked at
abbrev row_s : At-loop-k → ℕ
row_s c = c.get-s.result

-- the part of the file that holds its row's targets
abbrev row_part : At-loop-k → List ℕ
row_part c = c.row_part-part.result.now

-- the level's last queue entry, plus one
abbrev end_of : At-loop-at → ℕ
end_of c = c.admit-tail.result

-- the file's graph
abbrev graph : Start → Graph
graph c = graph_in c.args.file.now c.args.h

-- the numbers of the file and its header
sizes : (c : Start) → Sizes c.args.file.now c.args.h
sizes c = valid_sizes c.requires.valid

-- the plan that is there
plan : (c : Start) → HasPlan c.args.h.states c.args.limit c.args.work.now
plan c = c.requires.has_plan

-- a target whose only successor is itself is no source
apart : (c : Start) (w : List ℕ) → Planned c.args.h.states c.args.limit w c.args.work.now → Apart (graph c) c.args.limit c.args.target w
apart c = c.requires.apart_in_plan

-- the search at a level's turn, from whatever table the plan was made
level_from : (c : At-loop-level) (w : List ℕ) →
    let a = (start c).args in
    let l = c.loop-level in
    Planned a.h.states a.limit w a.work.now →
    State a.h.states (graph (start c)).succs a.limit a.target w l.level (queued a.h.states l.head) (queued a.h.states l.head) (queued a.h.states l.tail) l.work
level_from c w P =
    let a = (start c).args in
    let z : 0 ≡ queued a.h.states (3 * a.h.states) = omega arith in
    c.loop-level.invariant.2 w (apart (start c) w P)
    (subst (λ (i : ℕ). State a.h.states (graph (start c)).succs a.limit a.target w 0 i i i a.work.now) z (planned_state (start c).requires.limit_le_states (start c).requires.states_in_bounds P))

-- and for the plan that is there
level_state : (c : At-loop-level) →
    let a = (start c).args in
    let l = c.loop-level in
    State a.h.states (graph (start c)).succs a.limit a.target (plan (start c)).origin l.level (queued a.h.states l.head) (queued a.h.states l.head) (queued a.h.states l.tail) l.work
level_state c = level_from c (plan (start c)).origin (plan (start c)).planned

-- at a level's turn the search stands in the queue, and so does the queue's end
level_places : (c : At-loop-level) → let n = (start c).args.h.states in (3 * n ≤ c.loop-level.head) × (c.loop-level.head ≤ c.loop-level.tail)
level_places c = (c.loop-level.invariant.0, c.loop-level.invariant.1)

-- a level's queue entries are gone through below the limit only
level_below : (c : At-loop-at) → (level_of c).loop-level.level < (start (level_of c)).args.limit
level_below c = omega arith

-- the search at a queue entry's turn
queue_from : (c : At-loop-at) (w : List ℕ) →
    let a = (start (level_of c)).args in
    let l = c.loop-at in
    Planned a.h.states a.limit w a.work.now →
    State a.h.states (graph (start (level_of c))).succs a.limit a.target w ((level_of c).loop-level.level + 1) (queued a.h.states l.at) (queued a.h.states (end_of c)) (queued a.h.states l.tail) l.work
queue_from c w P =
    let a = (start (level_of c)).args in
    c.loop-at.invariant.1 w (apart (start (level_of c)) w P)
    (c.admit-tail.ensures.change (graph (start (level_of c))).succs a.limit a.target w (queued a.h.states (level_of c).loop-level.head) (level_below c) (level_from (level_of c) w P))

queue_state : (c : At-loop-at) →
    let a = (start (level_of c)).args in
    let l = c.loop-at in
    State a.h.states (graph (start (level_of c))).succs a.limit a.target (plan (start (level_of c))).origin ((level_of c).loop-level.level + 1) (queued a.h.states l.at) (queued a.h.states (end_of c)) (queued a.h.states l.tail) l.work
queue_state c = queue_from c (plan (start (level_of c))).origin (plan (start (level_of c))).planned

-- at a queue entry's turn the search stands in the queue, and so does the queue's end
queue_places : (c : At-loop-at) →
    let n = (start (level_of c)).args.h.states in
    (3 * n ≤ c.loop-at.at) × (3 * n ≤ c.loop-at.tail)
queue_places c =
    let l = level_places (level_of c) in
    (omega (arith, l), omega (arith, l, c.admit-tail.ensures.grows, c.loop-at.invariant.0))

-- the state read from the queue is the one whose turn it is
queue_told : (c : After-get-s) →
    let q = (goal.at.After-get-s c).At-loop-at in
    let n = (start (level_of q)).args.h.states in
    c.get-s.result ≡ entry 3 n q.loop-at.work (queued n q.loop-at.at)
queue_told c =
    let q = (goal.at.After-get-s c).At-loop-at in
    c.get-s.ensures.value ∙ queued-entry (start (level_of q)).args.h.states q.loop-at.at q.loop-at.work (queue_places q).0

-- its row, before the first successor
row_first : (c : After-get-s) →
    let q = (goal.at.After-get-s c).At-loop-at in
    let a = (start (level_of q)).args in
    (w : List ℕ) → State a.h.states (graph (start (level_of q))).succs a.limit a.target w ((level_of q).loop-level.level + 1) (queued a.h.states q.loop-at.at) (queued a.h.states (end_of q)) (queued a.h.states q.loop-at.tail) q.loop-at.work →
    InRow a.h.states (graph (start (level_of q))).succs a.limit a.target w ((level_of q).loop-level.level + 1) (queued a.h.states q.loop-at.at) (queued a.h.states (end_of q)) (queued a.h.states q.loop-at.tail) c.get-s.result 0 q.loop-at.work
row_first c w S = row_start (omega (arith, (queue_places (goal.at.After-get-s c).At-loop-at).0)) (queue_told c) S

-- the search at a successor's turn
row_from : (c : At-loop-k) (w : List ℕ) →
    let a = (entry_of_row c).args in
    let l = c.loop-k in
    Planned a.h.states a.limit w a.work.now →
    InRow a.h.states (graph (entry_of_row c)).succs a.limit a.target w ((level_of (queue_of c)).loop-level.level + 1) (queued a.h.states (queue_of c).loop-at.at) (queued a.h.states (end_of (queue_of c))) (queued a.h.states l.tail) (row_s c) l.k l.work
row_from c w P = c.loop-k.invariant.1 w (row_first (goal.at.At-loop-k c).After-get-s w (queue_from (queue_of c) w P))

row_state : (c : At-loop-k) →
    let a = (entry_of_row c).args in
    let l = c.loop-k in
    InRow a.h.states (graph (entry_of_row c)).succs a.limit a.target (plan (entry_of_row c)).origin ((level_of (queue_of c)).loop-level.level + 1) (queued a.h.states (queue_of c).loop-at.at) (queued a.h.states (end_of (queue_of c))) (queued a.h.states l.tail) (row_s c) l.k l.work
row_state c = row_from c (plan (entry_of_row c)).origin (plan (entry_of_row c)).planned

-- the queue's end at a successor's turn
row_tail : (c : At-loop-k) → 3 * (entry_of_row c).args.h.states ≤ c.loop-k.tail
row_tail c = omega (arith, (queue_places (queue_of c)).1, c.loop-k.invariant.0)

-- a place of the row is below its number of edges
place_below : (c : In-loop-k) → c.loop-k.k < length (words (row_part (goal.at.In-loop-k c).At-loop-k))
place_below c = omega (arith, c.edge_count-d.ensures, c.loop-k-test.true)

-- the edges of a row that has some are the successors
edges_told : (c : In-loop-k) → (graph (entry_of_row (goal.at.In-loop-k c).At-loop-k)).succs (row_s (goal.at.In-loop-k c).At-loop-k) ≡ words (row_part (goal.at.In-loop-k c).At-loop-k)
edges_told c =
    let r = (goal.at.In-loop-k c).At-loop-k in
    sym r.row_part-part.ensures
    ∙ steps_edges (entry_of_row r).args.h (row_s r) (row_part r) (omega (arith, place_below c))

-- so a place of the row is one among the successors
place_inside : (c : In-loop-k) → c.loop-k.k < length ((graph (entry_of_row (goal.at.In-loop-k c).At-loop-k)).succs (row_s (goal.at.In-loop-k c).At-loop-k))
place_inside c = omega (arith, place_below c, ap length (edges_told c))

-- the successor that is looked at
successor_told : (c : After-edge_target-t) →
    let r = (goal.at.After-edge_target-t c).At-loop-k in
    c.edge_target-t.result ≡ get_or ((graph (entry_of_row r)).succs (row_s r)) r.loop-k.k 0
successor_told c =
    c.edge_target-t.ensures ∙ sym (ap (λ (ws : List ℕ). get_or ws c.loop-k.k 0) (edges_told (goal.at.After-edge_target-t c).In-loop-k))

-- there is an edge to it
successor_edge : (c : After-edge_target-t) →
    let r = (goal.at.After-edge_target-t c).At-loop-k in
    T (edgeb (graph (entry_of_row r)) (row_s r) c.edge_target-t.result)
successor_edge c =
    let r = (goal.at.After-edge_target-t c).At-loop-k in
    let us = (graph (entry_of_row r)).succs (row_s r) in
    rw (successor_told c) (at_memb us r.loop-k.k (place_inside (goal.at.After-edge_target-t c).In-loop-k))

-- it is a state
successor_inside : (c : After-edge_target-t) →
    c.edge_target-t.result < (start (level_of (queue_of (goal.at.After-edge_target-t c).At-loop-k))).args.h.states
successor_inside c =
    let r = (goal.at.After-edge_target-t c).At-loop-k in
    let s = entry_of_row r in
    omega (arith, ((valid_well_formed s.requires.valid).edge_states (row_s r) c.edge_target-t.result (successor_edge c)).1, (sizes s).states_are)

-- a state whose only successor is itself is not the target, where such a target is no source
itself_apart : (g : Graph) {limit target at end count s k : ℕ} {w₀ w : List ℕ} (level : ℕ) → Apart g limit target w₀
    → InRow g.size g.succs limit target w₀ (level + 1) at end count s k w → g.succs s ≡ s ∷ [] → s ≡ target → ⊥
itself_apart g {limit} {w₀ = w₀} level A R e same =
    not_hit level R.state (A (subst (λ (x : ℕ). g.succs x ≡ x ∷ []) same e))
    (subst (Hit g.size g.succs (sources g.size limit w₀) level) same (row_hit level R))

pub admit-tail-requires-clause-level_ready : goal.admit-tail-requires-clause-level_ready
admit-tail-requires-clause-level_ready c =
    let l = (goal.at.admit-tail-requires-clause-level_ready c).At-loop-level in
    let s = start l in record {
      succs = (graph s).succs;
      limit = s.args.limit;
      target = s.args.target;
      origin = (plan s).origin;
      at = queued s.args.h.states l.loop-level.head;
      below = omega arith;
      state = level_state l;
    }

pub get-s-requires : goal.get-s-requires
get-s-requires c = let S = queue_state (goal.at.get-s-requires c).At-loop-at in omega (arith, (queue_places (goal.at.get-s-requires c).At-loop-at).0, S.fits, S.end_count, S.queue.within)

pub row_part-part-requires-clause-s_lt_states : goal.row_part-part-requires-clause-s_lt_states
row_part-part-requires-clause-s_lt_states c =
    let q = (goal.at.row_part-part-requires-clause-s_lt_states c).At-loop-at in
    row_inside (level_of q).loop-level.level (row_first c (plan (start (level_of q))).origin (queue_state q))

pub returns-then-t-target-clause-left : goal.returns-then-t-target-clause-left
returns-then-t-target-clause-left c = λ w P.
    let t = (goal.at.returns-then-t-target-clause-left c).After-edge_target-t in
    let r = (goal.at.After-edge_target-t t).At-loop-k in
    let l = level_of (queue_of r) in
    let s = start l in
    let R = row_from r w P in
    edge_found {g = graph s} l.loop-level.level (valid_well_formed s.requires.valid) (level_below (queue_of r)) R.state (row_hit l.loop-level.level R)
    (subst (λ (x : ℕ). T (edgeb (graph s) (row_s r) x)) c.if-t-target.true (successor_edge t))

pub returns-then-t-target-clause-same : goal.returns-then-t-target-clause-same
returns-then-t-target-clause-same c =
    same_outside_trans c.loop-level.invariant.3 (same_outside_trans c.admit-tail.ensures.same (same_outside_trans c.loop-at.invariant.2 c.loop-k.invariant.2))

pub reach-tail-requires-clause-t_lt_n : goal.reach-tail-requires-clause-t_lt_n
reach-tail-requires-clause-t_lt_n c = successor_inside (goal.at.reach-tail-requires-clause-t_lt_n c).After-edge_target-t

pub reach-tail-requires-clause-tail_bound : goal.reach-tail-requires-clause-tail_bound
reach-tail-requires-clause-tail_bound c =
    let t = (goal.at.reach-tail-requires-clause-tail_bound c).After-edge_target-t in
    let R = row_state (goal.at.After-edge_target-t t).At-loop-k in
    queue_room t.edge_target-t.result R.state.fits R.state.queue (successor_inside t)

pub loop-k-preserved : goal.loop-k-preserved
loop-k-preserved c =
    let t = (goal.at.loop-k-preserved c).After-edge_target-t in
    let r = (goal.at.After-edge_target-t t).At-loop-k in
    (omega (arith, c.reach-tail.ensures.grows), λ w R. row_step (level_of (queue_of r)).loop-level.level (r.loop-k.invariant.1 w R) t.edge_target-t.result (successor_told t) (place_inside (goal.at.After-edge_target-t t).In-loop-k) (successor_inside t) c.if-t-target.false c.reach-tail.ensures.change, same_outside_trans r.loop-k.invariant.2 (reach_outside c.reach-tail.ensures.change))

pub loop-at-preserved : goal.loop-at-preserved
loop-at-preserved c =
    let r = (goal.at.loop-at-preserved c).At-loop-k in
    let q = queue_of r in
    let level = (level_of q).loop-level.level in
    let h = (entry_of_row r).args.h in (
      omega (arith, q.loop-at.invariant.0, r.loop-k.invariant.0),
      λ w A S.
          let R = r.loop-k.invariant.1 w (row_first (goal.at.At-loop-k r).After-get-s w (q.loop-at.invariant.1 w A S)) in
          row_end level R (words (row_part r))
          (subst (λ (ts : List ℕ). (ts ≡ words (row_part r)) ⊎ (ts ≡ row_s r ∷ [])) r.row_part-part.ensures (steps_or_itself h (row_s r) (row_part r)))
          (omega (arith, r.edge_count-d.ensures, c.loop-k-test.false))
          (itself_apart (graph (entry_of_row r)) level A R)
          (omega (arith, (queue_places q).0)),
      same_outside_trans q.loop-at.invariant.2 r.loop-k.invariant.2,
    )

pub loop-level-preserved : goal.loop-level-preserved
loop-level-preserved c =
    let q = (goal.at.loop-level-preserved c).At-loop-at in
    let l = level_of q in
    let a = (start l).args in
    let n = a.h.states in
    let ended : c.loop-at.at ≡ c.admit-tail.result = omega (arith, l.loop-level.invariant.1, c.admit-tail.ensures.grows) in (
      omega (arith, l.loop-level.invariant.0, l.loop-level.invariant.1, c.admit-tail.ensures.grows),
      c.loop-at.invariant.0,
      λ w A S.
          subst (λ (x : ℕ). State n (graph (start l)).succs a.limit a.target w (l.loop-level.level + 1) (queued n x) (queued n x) (queued n c.loop-at.tail) c.loop-at.work) ended
          (level_done (omega arith)
          (c.loop-at.invariant.1 w A (c.admit-tail.ensures.change (graph (start l)).succs a.limit a.target w (queued n l.loop-level.head) (level_below q) (l.loop-level.invariant.2 w A S)))),
      same_outside_trans l.loop-level.invariant.3 (same_outside_trans c.admit-tail.ensures.same c.loop-at.invariant.2),
    )

pub returns-clause-left : goal.returns-clause-left
returns-clause-left c = λ w P.
    let l = (goal.at.returns-clause-left c).At-loop-level in
    nothing_found {g = graph (start l)} (valid_well_formed (start l).requires.valid) (omega arith) (level_from l w P)
