-- `spare_of_table` meets its contract: the spare bits of the table from s on decide whether one is set.
use Rattle.format.specs.Layout.{mark_bit}
use Rattle.format.specs.Rules.{spare_set}
use Rattle.lists.proofs.Range.{Left}
use Rattle.rules_spare.proofs.spare_of_table.Given as goal

abbrev pub invariant-loop-s : goal.invariant-loop-s
invariant-loop-s l = Left (mark_bit l.file l.t) (spare_set l.file l.t) l.end l.s
