-- The states that stand on the stem of a shortest lasso, and what region 1 holds for them.
use Rattle.std.specs.Prelude.{ℕ, zero, suc, ◌+◌, ◌*◌, ◌≤◌, ◌<◌, ◌≡◌, List}
use Rattle.std.proofs.Math.Option.{some}
use Rattle.lasso.specs.Graph.{Graph}
use Rattle.lasso.specs.Distance.{dist}
use Rattle.table.specs.Changes.{SameOutside}
use Rattle.frontier.specs.Regions.{entry}
use Rattle.starts.specs.LoopStarts.{start_loop}

-- s can start the loop of a lasso with l transitions
abbrev pub IsStart : Graph → ℕ → ℕ → Type 0
IsStart g l s = (b : ℕ) × (start_loop g l s ≡ some b)

-- the state that a list has at place k can start the loop, and stands at its distance from the initial state
pub record LoopAt (g : Graph) (l : ℕ) (p : ℕ → ℕ) (k : ℕ) : Type 0 where
  pub at : dist g g.start (p k) ≡ some k
  pub is : IsStart g l (p k)

-- s, at distance d from the initial state, stands on a shortest way from there to a state that can start the loop
pub record Stem (g : Graph) (l s d : ℕ) : Type 0 where
  pub knot : ℕ
  pub rest : ℕ
  pub at : dist g g.start s ≡ some d
  pub on : dist g s knot ≡ some rest
  pub whole : dist g g.start knot ≡ some (d + rest)
  pub starts : IsStart g l knot

-- the entry of a state: 0 if it is on no stem, else twice its distance plus 2, and 1 more if it can start the loop
pub data StemEntry (g : Graph) (l s e : ℕ) : Type 0 where
  on_none : ((d : ℕ) → Stem g l s d → ⊥) → e ≡ 0 → StemEntry g l s e
  on_stem : (d : ℕ) → Stem g l s d → (IsStart g l s → ⊥) → e ≡ 2 * (d + 1) → StemEntry g l s e
  on_start : (d : ℕ) → Stem g l s d → IsStart g l s → e ≡ 2 * (d + 1) + 1 → StemEntry g l s e

-- region 1 holds the entry of each state
pub record StemEntries (g : Graph) (l : ℕ) (w : List ℕ) : Type 0 where
  pub entries : (s : ℕ) → s < g.size → StemEntry g l s (entry 1 g.size w s)

-- 1 for an entry that stands for a value
abbrev pub flag_of : ℕ → ℕ
flag_of zero = 0
flag_of (suc v) = 1

-- the levels of region 2 can be doubled
abbrev pub LevelsFit : ℕ → List ℕ → Type 0
LevelsFit n w = (s : ℕ) → s < n → entry 2 n w s ≤ n

-- region 1 holds, for each of the first i states, twice its level, and 1 more if it held something before
pub record StemsPut (n i : ℕ) (w w' : List ℕ) : Type 0 where
  pub outside : SameOutside n (2 * n) w w'
  pub put : (s : ℕ) → s < i → entry 1 n w' s ≡ 2 * entry 2 n w s + flag_of (entry 1 n w s)
  pub rest : (s : ℕ) → i ≤ s → s < n → entry 1 n w' s ≡ entry 1 n w s
