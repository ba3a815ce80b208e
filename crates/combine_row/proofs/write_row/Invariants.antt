-- `write_row` meets its contract. The loop's invariant: with the first block, the blocks of the first k successors are written.
use Prim.Native.Nat.{ℕ, ◌≤◌}
use mathlib.Core.Path.{◌≡◌}
use mathlib.Core.List.{List}
use lib.ListN.{take}
use Rattle.format.specs.Bytes.{words}
use Rattle.text.specs.Writing.{Wrote}
use Rattle.writer.specs.File.{words16}
use Rattle.property.specs.Property.{chosen}
use Rattle.combine_row.specs.Row.{row_of}
use Rattle.combine_row.proofs.write_row.Given as goal

abbrev pub invariant-loop-k : goal.invariant-loop-k
invariant-loop-k l =
    let ss : List ℕ = l.successors in
    let qs = chosen l.letter (words l.masks) (words l.targets) in
    (1 ≤ l.k)
    × (l.out.bytes.ghost_name ≡ l.initial.out.bytes.ghost_name)
    × ((w₀ : List ℕ) → Wrote w₀ l.from (words16 (row_of l.size (take 1 ss) qs)) l.initial.out.bytes.now l.initial.out.at
    → Wrote w₀ l.from (words16 (row_of l.size (take l.k ss) qs)) l.out.bytes.now l.out.at)
