-- `retreat` meets its contract: the last loop start, the last mark, and the tables if the loop start is the same.
use native.Mathlib.Omega.{arith}
use Rattle.model.specs.Model.{graph_in}
use Rattle.current.specs.Current.{state_at}
use Rattle.follow.proofs.PlacesTable.{prepared_sizes}
use Rattle.goals.specs.Goals.{LastStart, LastMark}
use Rattle.passed.proofs.PassedLaws.{passed_moved}
use Rattle.moves.proofs.EntryLaws.{entries_start}
use Rattle.moves.proofs.retreat.Goals as goal
use Rattle.moves.proofs.retreat.Goals.{then-passed-place, else-passed-place, then-passed-place-2, else-passed-place-2}

pub last_start-start-requires-clause-place_le_states : goal.last_start-start-requires-clause-place_le_states
last_start-start-requires-clause-place_le_states c = omega (arith, prepared_sizes c.requires.prepared, c.requires.place_le_transitions)

pub last_mark-mark-requires-clause-place_le_states : goal.last_mark-mark-requires-clause-place_le_states
last_mark-mark-requires-clause-place_le_states c = omega (arith, prepared_sizes c.requires.prepared, c.requires.place_le_transitions)

pub returns : goal.returns
returns c =
    let a = c.args in
    let known = c.requires.known_from in
    let start : LastStart (graph_in a.file.now a.h) a.transitions.0 (state_at a.h a.work.now) a.place c.if-passed-place.start =
    elim c.if-passed-place.branch [
      | then-passed-place w ↦ rw w.start-is (known.start (omega (arith, w.if-passed-place.true)))
      | else-passed-place w ↦ rw w.start-is (entries_start c.requires.prepared a.place w.last_start-start.result c.requires.states_to w.last_start-start.ensures)
    ] in
    let mark : LastMark (graph_in a.file.now a.h) (state_at a.h a.work.now) a.place c.if-passed-place-2.mark =
    elim c.if-passed-place-2.branch [
      | then-passed-place-2 w ↦ rw w.mark-is (known.mark (omega (arith, w.if-passed-place-2.true)))
      | else-passed-place-2 w ↦ rw w.mark-is w.last_mark-mark.ensures
    ] in
    passed_moved c.moved.ensures start mark known.tables
