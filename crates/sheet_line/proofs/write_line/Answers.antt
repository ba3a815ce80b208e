-- `write_line` meets its contract: the stem, the bar, the loop and the line feed are written one after the other.
use Rattle.std.proofs.Common.{ℕ, List, ◌+◌, ◌-◌, length, take, drop, arith, ap}
use Rattle.text.specs.Writing.{HasRoom, Adds}
use Rattle.text.proofs.WroteLaws.{adds_length, adds_then, adds_as}
use Rattle.sheet_line.specs.Line.{space_after, space_before}
use Rattle.sheet_line.proofs.LineLaws.{stem_loop-length, stem_loop_parts, between_before}
use Rattle.sheet_line.proofs.write_line.Goals as goal
use Rattle.sheet_line.proofs.write_line.Goals.{After-write_states-2, Start}

-- the states of the stem and of the loop
abbrev stem_of : Start → List ℕ
stem_of s = take s.args.k s.args.list.now

abbrev loop_of : Start → List ℕ
loop_of s = take (s.args.transitions.0 - s.args.k) (drop s.args.k s.args.list.now)

-- what all four writers need
room : (s : Start) → HasRoom s.args.text.now (length (space_after (stem_of s)) + 1 + length (space_before (loop_of s)) + 1)
room s = omega (arith, s.requires.list_in_bounds, stem_loop-length (stem_of s) (loop_of s))

-- the loop is written, each state after a space
loop_written : (c : After-write_states-2) → Adds c.write_byte.new.self (space_before (loop_of (goal.at.After-write_states-2 c).Start)) c.write_states-2.new.text
loop_written c = adds_as (between_before _) (rw c.number.ensures at c.write_states-2.ensures)

pub write_states-requires-2 : goal.write_states-requires-2
write_states-requires-2 c =
    let s = (goal.at.write_states-requires-2 c).Start in
    let w = c.write_states.ensures in
    let v = c.write_byte.ensures in
    rw c.number.ensures (omega (arith, room s, ap length (between_before (loop_of s)), w.wrote.place, adds_length w, v.wrote.place, adds_length v))

pub write_byte-requires-2 : goal.write_byte-requires-2
write_byte-requires-2 c =
    let w = c.write_states.ensures in
    let v = c.write_byte.ensures in
    let u = loop_written (goal.at.write_byte-requires-2 c).After-write_states-2 in
    omega (arith, room (goal.at.write_byte-requires-2 c).Start, w.wrote.place, adds_length w, v.wrote.place, adds_length v, u.wrote.place, adds_length u)

pub returns : goal.returns
returns c =
    let s = (goal.at.returns c).Start in
    adds_as (stem_loop_parts (stem_of s) (loop_of s))
    (adds_then (adds_then (adds_then c.write_states.ensures c.write_byte.ensures) (loop_written (goal.at.returns c).After-write_states-2)) c.write_byte-2.ensures)
