-- The lists of sources by start level, in regions 4 and 5: each list descends, region 4 has its first source.
use Rattle.std.specs.Prelude.{ℕ, suc, ◌+◌, ◌*◌, ◌≤◌, ◌<◌, ◌≡◌, List, set}
use Rattle.std.proofs.Math.Option.{Option, some}
use Rattle.table.specs.Changes.{SameOutside}
use Rattle.lists.specs.Limit.{under}
use Rattle.frontier.specs.Regions.{entry, value_of}

-- the start level of a source, which region 2 holds at entry; a source at or above the limit does not count
abbrev pub sources : ℕ → ℕ → List ℕ → ℕ → Option ℕ
sources n limit w s = under limit (value_of (entry 2 n w s))

-- v names the greatest source of level a below b: s + 1 for s, 0 if there is none
pub record Greatest (source : ℕ → Option ℕ) (a b v : ℕ) : Type 0 where
  pub within : v ≤ b
  pub names : (s : ℕ) → v ≡ suc s → source s ≡ some a
  pub none_above : (s : ℕ) → v ≤ s → s < b → source s ≡ some a → ⊥

-- the sources below b are listed: region 4 names the greatest of each level below the limit, and region 5 names, for
-- each of them, the next smaller one of its level
pub record SourcesListed (source : ℕ → Option ℕ) (n limit b : ℕ) (w : List ℕ) : Type 0 where
  pub firsts : (a : ℕ) → a < limit → Greatest source a b (entry 4 n w a)
  pub nexts : (s a : ℕ) → s < b → source s ≡ some a → Greatest source a s (entry 5 n w s)

-- the table after source s is put in front of the list of level a
abbrev pub with_source : ℕ → ℕ → ℕ → List ℕ → List ℕ
with_source n a s w = set (set w (5 * n + s) (entry 4 n w a)) (4 * n + a) (s + 1)

-- the plan of a search: region 2 is clear, and the sources that it held are listed
pub record Planned (n limit : ℕ) (w w' : List ℕ) : Type 0 where
  pub outside : SameOutside (2 * n) (6 * n) w w'
  pub clear : (s : ℕ) → s < n → entry 2 n w' s ≡ 0
  pub lists : SourcesListed (sources n limit w) n limit n w'

-- the plan of a search is made, from some table
pub record HasPlan (n limit : ℕ) (w : List ℕ) : Type 0 where
  pub origin : List ℕ
  pub planned : Planned n limit origin w
