-- The entry of region 1 that a test reads.
use Prim.Native.Nat.{ℕ, ◌+◌, ◌*◌}
use mathlib.Core.Path.{◌≡◌, ap}
use mathlib.Core.List.{List}
use native.Mathlib.Omega.{arith}
use lib.ListN.{get_or}
use Rattle.frontier.specs.Regions.{entry}

-- what the code reads for a state in region 1 is its entry
pub read_one : (n : ℕ) (w : List ℕ) (s x : ℕ) → s ≡ x → get_or w (n + s) 0 ≡ entry 1 n w x
read_one n w s x e = let q : n + s ≡ 1 * n + x = omega arith in ap (λ (j : ℕ). get_or w j 0) q
