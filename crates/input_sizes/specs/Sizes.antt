-- How long a model file can be.
use Rattle.std.specs.Prelude.{ℕ, ◌≤◌, ◌≡◌, List, length}
use Rattle.numbers.specs.Limits.{longest_file}
use Rattle.format.specs.Rules.{Accepted}

-- An accepted file has at most 25,626 bytes, and one that is as long exists.
pub record LongestFile : Type 0 where
  pub at_most : (f : List ℕ) → Accepted f → length f ≤ longest_file
  pub reached : (f : List ℕ) × Accepted f × (length f ≡ longest_file)
