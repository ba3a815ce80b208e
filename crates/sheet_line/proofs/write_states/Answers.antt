-- The loop of `write_states` writes one state after another.
use Rattle.std.proofs.Common.{ℕ, List, ◌++◌, ◌+◌, ◌≤◌, length, get_or, refl, arith, length-append}
use Rattle.text.specs.Decimal.{decimal}
use Rattle.text.proofs.WroteLaws.{adds_length, adds_then}
use Rattle.text.proofs.EntriesLaws.{adds_next, entry_room}
use Rattle.sheet_line.proofs.write_states.Goals as goal
use Rattle.sheet_line.proofs.write_states.Goals.{In-loop-s}

-- what is written for one state
abbrev one : List ℕ → List ℕ → ℕ → List ℕ
one before after s = before ++ decimal s ++ after

-- where all states have room, the next one has
room : (c : In-loop-s) → let a = c.args in let s = get_or a.states.now c.loop-s.s-index 0 in
    c.loop-s.text.at + (length a.before.now + length (decimal s) + length a.after.now) ≤ length c.loop-s.text.bytes.now
room c =
    let a = c.args in
    let s = get_or a.states.now c.loop-s.s-index 0 in
    omega (
      arith,
      entry_room (one a.before.now a.after.now) a.states.now c.loop-s.s-index 0 s (omega arith) refl c.requires c.loop-s.invariant,
      length-append (a.before.now ++ decimal s) a.after.now,
      length-append a.before.now (decimal s),
    )

pub write_bytes-requires : goal.write_bytes-requires
write_bytes-requires c = omega (arith, room (goal.at.write_bytes-requires c).In-loop-s)

pub write_number-requires : goal.write_number-requires
write_number-requires c =
    let w = c.write_bytes.ensures in
    omega (arith, room (goal.at.write_number-requires c).In-loop-s, w.wrote.place, adds_length w)

pub write_bytes-requires-in-loop-s : goal.write_bytes-requires-in-loop-s
write_bytes-requires-in-loop-s c =
    let w = c.write_bytes.ensures in
    let v = c.write_number.ensures in
    omega (arith, room (goal.at.write_bytes-requires-in-loop-s c).In-loop-s, w.wrote.place, adds_length w, v.wrote.place, adds_length v)

pub loop-s-preserved : goal.loop-s-preserved
loop-s-preserved c =
    adds_next (one c.args.before.now c.args.after.now) c.args.states.now c.loop-s.s-index 0 _ (omega arith) refl c.loop-s.invariant
    (adds_then (adds_then c.write_bytes.ensures c.write_number.ensures) c.write_bytes-in-loop-s.ensures)
