-- `write_row` meets its contract: the first block is written from the masks, each further one from the first.
use Prim.Native.Nat.{ℕ, ◌+◌, ◌*◌, ◌-◌, ◌/◌, ◌≤◌, ◌<◌}
use mathlib.Core.Path.{◌≡◌, ap, ◌∙◌}
use mathlib.Core.List.{List}
use native.Mathlib.Omega.{arith}
use lib.ListN.{length, get_or, take}
use Rattle.format.specs.Bytes.{words}
use Rattle.text.specs.Writing.{Adds}
use Rattle.writer.specs.File.{words16}
use Rattle.property.specs.Property.{chosen}
use Rattle.combine_row.specs.Row.{row_of}
use Rattle.combine_row.proofs.BlockLaws.{block_bytes_lem, chosen-below}
use Rattle.combine_row.proofs.RowLaws.{first_before, block_room, wrote_first_block, copy_fits, wrote_copied-block, wrote_row, wrote_empty_row}
use Rattle.combine_row.proofs.write_row.Goals as goal
use Rattle.combine_row.proofs.write_row.Goals.{After-write_block, After-target-in-loop-k, At-loop-k, Start}

-- the targets whose masks hold the letter
abbrev picked : Start → List ℕ
picked s = chosen s.args.letter (words s.args.masks.now) (words s.args.targets.now)

-- once the first block is written, count is its number of entries
counted : (c : After-write_block) →
    (c.args.out.now.at ≤ c.write_block.new.out.at) × ((c.write_block.new.out.at - c.args.out.now.at) / 2 ≡ length (picked (goal.at.After-write_block c).Start))
counted c =
    omega (arith, c.write_block.ensures.wrote.place, block_bytes_lem (c.target.result * c.args.size) (picked (goal.at.After-write_block c).Start))

-- the blocks of the first k successors are written to the output of the start
so_far : (c : At-loop-k) →
    Adds c.args.out.now (words16 (row_of c.args.size (take c.loop-k.k c.args.successors.now) (picked (goal.at.At-loop-k c).Start))) c.loop-k.out
so_far c =
    let a = c.args in
    record {
      wrote = c.loop-k.invariant.2 a.out.now.bytes.now
          (wrote_first_block a.size a.successors.now (picked (goal.at.At-loop-k c).Start) _ (omega (arith, c.len-d.ensures, c.if-d-eq0.false))
          (ap (λ x. x * a.size) c.target.ensures) c.write_block.ensures.wrote);
      same = c.loop-k.invariant.1 ∙ c.write_block.ensures.same;
    }

-- the next block's base is the successor at place k times the size, and fits
further : (c : After-target-in-loop-k) →
    let x = get_or c.args.successors.now c.loop-k.k 0 in
    (c.target-in-loop-k.result * c.args.size ≡ x * c.args.size) × (x * c.args.size + c.args.size ≤ 4096) × (c.loop-k.k < length c.args.successors.now)
further c =
    let less : c.loop-k.k < length c.args.successors.now = omega (arith, c.loop-k-test.true, c.len-d.ensures) in
    (ap (λ x. x * c.args.size) c.target-in-loop-k.ensures, c.requires.row_fits.successors_fit c.loop-k.k less, less)

pub returns-then-count-eq0 : goal.returns-then-count-eq0
returns-then-count-eq0 c =
    let w = (goal.at.returns-then-count-eq0 c).After-write_block in
    let s = (goal.at.returns-then-count-eq0 c).Start in
    record {
      same = c.write_block.ensures.same;
      wrote = wrote_empty_row c.args.size c.args.successors.now (picked s) (c.target.result * c.args.size)
          (omega (arith, (counted w).1, c.if-count-eq0.true)) c.write_block.ensures.wrote;
    }

pub copy_block-requires : goal.copy_block-requires
copy_block-requires c =
    let here = goal.at.copy_block-requires c in
    let a = c.args in
    let k = c.loop-k.k in
    let ss : List ℕ = a.successors.now in
    let qs = picked here.Start in
    let n = (counted here.After-write_block).1 in
    let more = further here.After-target-in-loop-k in
    let small = chosen-below a.letter a.size (words a.masks.now) (words a.targets.now) c.requires.row_fits.targets_fit in
    let w = (so_far here.At-loop-k).wrote in record {
      count_bound = (
        omega (arith, n, first_before a.size ss qs k c.loop-k.invariant.0 (omega arith) w),
        omega (arith, n, block_room a.size ss qs k more.2 c.requires.targets_in_bounds w),
      );
      block_fits = copy_fits a.size ss qs k _ _ _ c.loop-k.invariant.0 more.2 n (ap (λ x. x * a.size) c.target.ensures) more.0 w small more.1;
    }

pub loop-k-preserved : goal.loop-k-preserved
loop-k-preserved c =
    let here = goal.at.loop-k-preserved c in
    let a = c.args in
    let more = further here.After-target-in-loop-k in (
      omega arith,
      c.copy_block.ensures.same ∙ c.loop-k.invariant.1,
      λ w₀ w.
          wrote_copied-block a.size a.successors.now (picked here.Start) c.loop-k.k _ _ _ c.loop-k.invariant.0 more.2
          (counted here.After-write_block).1 (ap (λ x. x * a.size) c.target.ensures) more.0 (c.loop-k.invariant.2 w₀ w) c.copy_block.ensures.wrote,
    )

pub returns : goal.returns
returns c =
    let here = goal.at.returns c in
    let w = so_far here.At-loop-k in record {
      wrote = wrote_row c.args.size c.args.successors.now (picked here.Start) c.loop-k.k (omega (arith, c.loop-k-test.false, c.len-d.ensures)) w.wrote;
      same = w.same;
    }
