-- Sources with start levels of their own, the level at which a state is first hit, and the length into a target.
use Rattle.std.specs.Prelude.{ℕ}
use Rattle.std.proofs.Math.Option.{Option}
use Rattle.lists.specs.Lists.{below}
use Rattle.lasso.specs.Graph.{Graph}
use Rattle.lasso.specs.Distance.{dist, dist_plus}
use Rattle.lists.specs.Least.{sum, least_of}

-- the least level at which a walk from a source hits t: a source's walk starts at the source's level
abbrev pub hit_level : Graph → (ℕ → Option ℕ) → ℕ → Option ℕ
hit_level g source t = least_of (λ s. sum (source s) (dist g s t)) (below g.size)

-- the least length of a walk from a source into t whose last edge leads to t, counted from the source's level
abbrev pub hit_length : Graph → (ℕ → Option ℕ) → ℕ → Option ℕ
hit_length g source t = least_of (λ s. sum (source s) (dist_plus g s t)) (below g.size)
