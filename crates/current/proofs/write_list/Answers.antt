-- `current::write_list` meets its contract: the stem is written to the front, the loop to the part from the loop's start on.
use Rattle.current.proofs.CurrentLaws.{list_written}
use Rattle.current.proofs.write_list.Goals as goal

pub returns-clause-list : goal.returns-clause-list
returns-clause-list c =
    let a = c.args in
    list_written a.h.start a.work.now a.answer.now _ _ c.loop_start-k.result a.transitions.0
    c.loop_start-k.ensures.1 c.requires.transitions_in_bounds c.requires.transitions_in_bounds_2 c.write_part.ensures (rw c.entries-entries.ensures at c.write_part-2.ensures)
