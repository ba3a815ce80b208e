-- `ascends` meets its contract: the numbers from the one before place k on decide whether all ascend.
use Prim.Native.Nat.{◌-◌}
use mathlib.Core.Path.{◌≡◌}
use lib.ListN.{drop}
use Rattle.lists.specs.Lists.{ascendingb}
use Rattle.format.specs.Bytes.{words}
use Rattle.rules_rows.proofs.ascends.Given as goal

abbrev pub invariant-loop-k : goal.invariant-loop-k
invariant-loop-k l = ascendingb (words l.part) ≡ ascendingb (drop (l.k - 1) (words l.part))
