-- Distances: the least number of edges from one state to another.
use Rattle.std.specs.Prelude.{ℕ, zero, suc, Bool, eqb}
use Rattle.std.proofs.Math.Option.{Option}
use Rattle.lists.specs.Lists.{anyb, seek}
use Rattle.lasso.specs.Graph.{Graph}

-- some path with exactly m edges leads from s to t
abbrev pub reachb : Graph → ℕ → ℕ → ℕ → Bool
reachb g zero s t = eqb s t
reachb g (suc m) s t = anyb (λ u. reachb g m u t) (g.succs s)

-- d(s, t): the least length of a path from s to t, if there is one; d(s, s) = 0
abbrev pub dist : Graph → ℕ → ℕ → Option ℕ
dist g s t = seek (λ m. reachb g m s t) 0 g.size

-- the least length of a path with at least one edge from s to t, if there is one
abbrev pub dist_plus : Graph → ℕ → ℕ → Option ℕ
dist_plus g s t = seek (λ m. reachb g m s t) 1 g.size
