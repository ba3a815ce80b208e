-- Which lists begin a lasso of a given length.
use Rattle.std.specs.Prelude.{ℕ, ◌≡◌, List, ◌++◌, T}
use Rattle.lasso.specs.Graph.{Graph, edges, lassob}

-- some lasso of l edges begins with p
abbrev pub Extends : Graph → ℕ → List ℕ → Type 0
Extends g l p = (us : List ℕ) × T (lassob g (p ++ us)) × (edges (p ++ us) ≡ l)
