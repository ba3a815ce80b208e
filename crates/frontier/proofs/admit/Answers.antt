use Prim.Native.Nat.{ℕ, ◌-◌, ◌<◌}
use mathlib.Core.Path.{sym, subst}
use mathlib.Core.List.{List}
use native.Mathlib.Omega.{arith}
use Rattle.frontier.specs.Regions.{queued}
use Rattle.frontier.specs.Search.{State}
use Rattle.table.proofs.Laws.{same_outside_trans}
use Rattle.frontier.proofs.PushLaws.{queue_room, reach_outside}
use Rattle.frontier.proofs.AdmitLaws.{Admitting, admitting_start, admitting_falls, admitting_step, admitting_done}
use Rattle.frontier.proofs.admit.Goals as goal
use Rattle.frontier.proofs.admit.Goals.{After-get-cursor-in-loop-cursor, At-loop-cursor}

-- the walk at the loop's head, for any search that is there at entry
walk : (c : At-loop-cursor) →
    let a = c.args in
    (succs : ℕ → List ℕ) (limit target : ℕ) (origin : List ℕ) (at : ℕ) → a.level < limit →
    State a.n succs limit target origin a.level at at (queued a.n a.tail) a.work.now →
    Admitting a.n succs limit target origin a.level at (queued a.n c.loop-cursor.end) c.loop-cursor.cursor c.loop-cursor.work
walk c succs limit target origin at l S =
    let a = c.args in
    c.loop-cursor.invariant.2 succs limit target origin at
    (subst (λ (x : ℕ). Admitting a.n succs limit target origin a.level at (queued a.n a.tail) x a.work.now) (sym c.get-cursor.ensures.value) (admitting_start l S))

-- the walk at the loop's head, for the search that the contract asks for
held : (c : At-loop-cursor) →
    let a = c.args in
    let R = c.requires.level_ready in
    Admitting a.n R.succs R.limit R.target R.origin a.level R.at (queued a.n c.loop-cursor.end) c.loop-cursor.cursor c.loop-cursor.work
held c =
    let R = c.requires.level_ready in
    walk c R.succs R.limit R.target R.origin R.at R.below R.state

-- the loop's head, from the end of its turn
abbrev head : After-get-cursor-in-loop-cursor → At-loop-cursor
head c = (goal.at.After-get-cursor-in-loop-cursor c).At-loop-cursor

pub reach-end-requires-clause-t_lt_n : goal.reach-end-requires-clause-t_lt_n
reach-end-requires-clause-t_lt_n c = omega (arith, (held (goal.at.reach-end-requires-clause-t_lt_n c).At-loop-cursor).within)

pub reach-end-requires-clause-tail_bound : goal.reach-end-requires-clause-tail_bound
reach-end-requires-clause-tail_bound c =
    let A = held (goal.at.reach-end-requires-clause-tail_bound c).At-loop-cursor in
    queue_room (c.loop-cursor.cursor - 1) A.state.fits A.state.queue (omega (arith, A.within))

pub get-cursor-requires-in-loop-cursor : goal.get-cursor-requires-in-loop-cursor
get-cursor-requires-in-loop-cursor c = let A = held (goal.at.get-cursor-requires-in-loop-cursor c).At-loop-cursor in omega (arith, A.within, A.state.fits)

pub loop-cursor-smaller : goal.loop-cursor-smaller
loop-cursor-smaller c = omega (arith, c.get-cursor-in-loop-cursor.ensures.value, admitting_falls ((head c).loop-cursor.cursor - 1) (omega arith) (held (head c)) c.reach-end.ensures.change)

pub loop-cursor-preserved : goal.loop-cursor-preserved
loop-cursor-preserved c = (
  same_outside_trans (head c).loop-cursor.invariant.0 (reach_outside c.reach-end.ensures.change),
  omega (arith, c.reach-end.ensures.grows),
  λ succs limit target origin at A.
      let a = (head c).args in
      let w = c.reach-end.new.work in
      subst (λ (x : ℕ). Admitting a.n succs limit target origin a.level at (queued a.n c.reach-end.result) x w) (sym c.get-cursor-in-loop-cursor.ensures.value)
      (admitting_step ((head c).loop-cursor.cursor - 1) (omega arith) ((head c).loop-cursor.invariant.2 succs limit target origin at A) c.reach-end.ensures.change),
)

pub returns-clause-change : goal.returns-clause-change
returns-clause-change c = λ succs limit target origin at l S. admitting_done (omega arith) (walk (goal.at.returns-clause-change c).At-loop-cursor succs limit target origin at l S)
