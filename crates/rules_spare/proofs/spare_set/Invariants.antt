-- `spare_set` meets its contract: the tables from t on decide whether a spare bit is set.
use Rattle.format.specs.Rules.{spare_set, bad_spare}
use Rattle.lists.proofs.Range.{Left}
use Rattle.rules_spare.proofs.spare_set.Given as goal

abbrev pub invariant-loop-t : goal.invariant-loop-t
invariant-loop-t l = Left (spare_set l.file) (bad_spare l.tables l.file) l.tables l.t
