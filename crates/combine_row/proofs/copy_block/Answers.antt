use Prim.Native.Nat.{◌+◌, ◌*◌, ◌-◌, ◌≤◌, ◌<◌}
use mathlib.Core.Path.{◌≡◌, ap, ◌∙◌}
use native.Mathlib.Omega.{arith}
use Rattle.format.specs.Bytes.{word}
use Rattle.text.specs.Writing.{HasRoom}
use Rattle.text.proofs.WroteLaws.{wrote_length}
use Rattle.combine_row.proofs.CopyLaws.{word_before, copied_bytes, wrote_copied}
use Rattle.combine_row.proofs.copy_block.Goals as goal
use Rattle.combine_row.proofs.copy_block.Goals.{After-word-entry, In-loop-j}

-- what a turn reads stood there at the start, is at least base, and fits with base replaced
entry : (c : After-word-entry) →
    let at_loop = c in
    let a = at_loop.args in
    let x = word a.out.now.bytes.now (a.from + 2 * at_loop.loop-j.j) in
    (c.word-entry.result ≡ x) × (a.base ≤ x) × (a.other + (x - a.base) < 65536)
entry c =
    let at_loop = c in
    let start = at_loop in
    let i = start.args.from + 2 * at_loop.loop-j.j in
    let fits = start.requires.block_fits at_loop.loop-j.j (omega arith) in
    (c.word-entry.ensures.0 ∙ ap (λ t. word t i) c.bytes.ensures ∙ word_before i (omega arith) at_loop.loop-j.invariant.wrote, fits.0, fits.1)

-- where all numbers have room, the next one has
room : (c : In-loop-j) →
    HasRoom c.loop-j.out 2
room c =
    let a = c.args in
    let w = c.loop-j.invariant.wrote in
    omega (arith, w.place, wrote_length w, copied_bytes a.out.now.bytes.now a.from a.base a.other c.loop-j.j)

pub write_word-requires : goal.write_word-requires
write_word-requires c =
    record {
      at_in_bounds = room (goal.at.write_word-requires c).In-loop-j;
      x_bound = omega (arith, entry (goal.at.write_word-requires c).After-word-entry);
    }

pub loop-j-preserved : goal.loop-j-preserved
loop-j-preserved c =
    let done = c in
    let read = (goal.at.loop-j-preserved done).After-word-entry in
    let at_loop = read in
    let a = at_loop.args in
    let x = a.other + (read.word-entry.result - a.base) in
    let e = ap (λ t. a.other + (t - a.base)) (entry read).0 in
    record {
      wrote = wrote_copied a.out.now.bytes.now a.from a.base a.other at_loop.loop-j.j x e at_loop.loop-j.invariant.wrote done.write_word.ensures.wrote;
      same = done.write_word.ensures.same ∙ at_loop.loop-j.invariant.same;
    }
