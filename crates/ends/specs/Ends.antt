-- The ends of the ways after a loop start, by the entries of the working table.
use Rattle.std.specs.Prelude.{ℕ, zero, suc, ◌*◌, ◌≤◌, ◌<◌, ◌≡◌, List, T}
use Rattle.lasso.specs.Graph.{Graph}
use Rattle.table.specs.Changes.{SameOutside}
use Rattle.frontier.specs.Regions.{entry}
use Rattle.looks.specs.Looks.{Closes}

-- s is marked, reached, and has the same entry in regions 2 and 5
abbrev pub MarkedEnd : Graph → ℕ → List ℕ → ℕ → Type 0
MarkedEnd g n w s = T (g.marked s) × (1 ≤ entry 2 n w s) × (entry 5 n w s ≡ entry 2 n w s)

-- 1 if P holds, 0 if it does not
abbrev pub FlagFor : Type 0 → ℕ → Type 0
FlagFor P zero = P → ⊥
FlagFor P (suc v) = P × (v ≡ 0)

-- the entry r is 1 if Q holds, and else the old one
pub data FlagMore (Q : Type 0) (old r : ℕ) : Type 0 where
  as_before : r ≡ old → (Q → ⊥) → FlagMore Q old r
  flagged : r ≡ 1 → Q → FlagMore Q old r

-- region 4 alone changed: the flags of the first i states that close
pub record ClosingPut (g : Graph) (n start level bound i : ℕ) (w w' : List ℕ) : Type 0 where
  pub outside : SameOutside (4 * n) (5 * n) w w'
  pub put : (s : ℕ) → s < i → FlagFor (Closes g n start w level bound s) (entry 4 n w' s)

-- region 4 alone changed: among the first i states the marked ends are flagged too
pub record MarkedPut (g : Graph) (n i : ℕ) (w w' : List ℕ) : Type 0 where
  pub outside : SameOutside (4 * n) (5 * n) w w'
  pub put : (s : ℕ) → s < i → FlagMore (MarkedEnd g n w s) (entry 4 n w s) (entry 4 n w' s)
  pub rest : (s : ℕ) → i ≤ s → s < n → entry 4 n w' s ≡ entry 4 n w s
