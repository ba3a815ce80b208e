-- The edges of one combined state as numbers, block by block, and what their writers ask so that every number fits 16 bits.
use Rattle.std.specs.Prelude.{ℕ, ◌+◌, ◌*◌, ◌-◌, ◌≤◌, ◌<◌, List, map, length, get_or}
use Rattle.lists.specs.Lists.{collect, below}
use Rattle.numbers.specs.Limits.{most_states}
use Rattle.format.specs.Bytes.{word}

-- the numbers base + q, for each q
abbrev pub block : ℕ → List ℕ → List ℕ
block base qs = map (λ q. base + q) qs

-- the numbers s * size + q, for each s, and for each q in its turn
abbrev pub row_of : (size : ℕ) (ss qs : List ℕ) → List ℕ
row_of size ss qs = collect (λ s. block (s * size) qs) ss

-- so many numbers of an output from a place on, with base replaced by another
abbrev pub copied : (out : List ℕ) (from count base other : ℕ) → List ℕ
copied out from count base other = map (λ j. other + (word out (from + 2 * j) - base)) (below count)

-- base plus each target fits 16 bits
abbrev pub TargetsFit : ℕ → List ℕ → Type 0
TargetsFit base ts = (k : ℕ) → k < length ts → base + get_or ts k 0 < 65536

-- each number to be copied is at least base, and fits 16 bits with base replaced by the other
abbrev pub BlockFits : (out : List ℕ) (from count base other : ℕ) → Type 0
BlockFits out from count base other =
    (j : ℕ) → j < count → (base ≤ word out (from + 2 * j)) × (other + (word out (from + 2 * j) - base) < 65536)

-- the rule's states ss and the property's states ts form pairs below 4,096, where the property has `size` states
pub record RowFits (size : ℕ) (ss ts : List ℕ) : Type 0 where
  pub successors_fit : (k : ℕ) → k < length ss → get_or ss k 0 * size + size ≤ most_states
  pub targets_fit : (k : ℕ) → k < length ts → get_or ts k 0 < size
