-- `count_holding` meets its contract: the masks counted and those from place k on are all that hold the letter.
use Prim.Native.Nat.{ℕ, ◌+◌, ◌≤◌}
use mathlib.Core.Path.{◌≡◌}
use mathlib.Core.List.{List}
use lib.ListN.{length, drop}
use Rattle.lists.specs.Lists.{keep}
use Rattle.format.specs.Bytes.{words, bitb}
use Rattle.property.proofs.count_holding.Given as goal

-- how many masks from place k on hold the letter
abbrev pub holding_from : List ℕ → ℕ → ℕ → ℕ
holding_from masks letter k = length (keep (λ (m : ℕ). bitb m letter) (drop k (words masks)))

abbrev pub invariant-loop-k : goal.invariant-loop-k
invariant-loop-k l =
    (l.k ≤ l.count) × (l.held ≤ l.k) × (l.held + holding_from l.masks l.letter l.k ≡ holding_from l.masks l.letter 0)
