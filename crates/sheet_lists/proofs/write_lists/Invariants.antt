-- `write_lists` meets its contract. The loop's invariant: the list at place `count` of the roll stands in region 0,
-- and those before it are printed.
use Prim.Native.Nat.{◌-◌}
use Rattle.numbers.specs.Limits.{most_lists}
use Rattle.sheet_lists.proofs.PrintLaws.{Printing}
use Rattle.sheet_lists.proofs.write_lists.Given as goal

abbrev pub invariant-loop-h : goal.invariant-loop-h
invariant-loop-h l =
    Printing l.file l.h l.transitions.0 l.initial.answer l.initial.work l.initial.text l.answer l.work l.text l.count

abbrev pub decreases-loop-h : goal.decreases-loop-h
decreases-loop-h l = most_lists - l.count
