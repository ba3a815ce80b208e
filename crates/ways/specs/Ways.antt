-- Which states of a search have a way on, one level a step, to an end.
use Rattle.std.specs.Prelude.{ℕ, suc, ◌*◌, ◌≤◌, ◌<◌, ◌≡◌, List, T}
use Rattle.lasso.specs.Graph.{Graph, edgeb}
use Rattle.table.specs.Changes.{SameOutside}
use Rattle.frontier.specs.Regions.{entry}

-- some successor of s has the entry `next` in region 2
abbrev pub LeadsOn : Graph → ℕ → List ℕ → ℕ → ℕ → Type 0
LeadsOn g n w s next = (t : ℕ) × T (edgeb g s t) × (entry 2 n w t ≡ next)

-- from s a way leads on, one level a step, to a state that is flagged in region 4
pub data Leads (g : Graph) (n : ℕ) (w : List ℕ) : ℕ → Type 0 where
  end : {s : ℕ} → 1 ≤ entry 2 n w s → 1 ≤ entry 4 n w s → Leads g n w s
  step : {s t : ℕ} → 1 ≤ entry 2 n w s → T (edgeb g s t) → entry 2 n w t ≡ suc (entry 2 n w s) → Leads g n w t → Leads g n w s

-- region 2 keeps the levels of the states with a way on, and no other
pub record KeptBack (g : Graph) (n : ℕ) (w w' : List ℕ) : Type 0 where
  pub outside : SameOutside (2 * n) (3 * n) w w'
  pub kept : (s : ℕ) → s < n → Leads g n w s → entry 2 n w' s ≡ entry 2 n w s
  pub leads : (s : ℕ) → s < n → 1 ≤ entry 2 n w' s → (entry 2 n w' s ≡ entry 2 n w s) × Leads g n w s
