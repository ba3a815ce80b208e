-- The verdicts: what is said of a list with a claimed k in a graph.
use Rattle.std.specs.Prelude.{ℕ, Bool, ◌&&◌, List, length, get_or, take, eqb, leb, ltb}
use Rattle.std.proofs.Math.Option.{Option, some, none}
use Rattle.lists.specs.Lists.{pick, differentb}
use Rattle.lasso.specs.Graph.{Graph, edges, pathb, loopsb}
use Rattle.lasso.specs.Roll.{least_length}

-- the list with that k is an accepting path: s0, .., sL with L ≥ 1 and k below L, s0 the initial state, an edge from each
-- to the next, sL = sk, one of sk to s(L−1) marked, and s0 to s(L−1) all different
abbrev pub accepts_at : Graph → List ℕ → ℕ → Bool
accepts_at g xs k =
    (leb 2 (length xs) && ltb k (edges xs)) &&
    ((eqb (get_or xs 0 0) g.start && pathb g xs) && (loopsb g xs k && differentb (take (edges xs) xs)))

-- l is the least length, if there is one
abbrev pub leastb : Option ℕ → ℕ → Bool
leastb none l = Bool.false
leastb (some least) l = eqb l least

-- What is said of a list with a claimed k: "false", "accepting" or "shortest".
pub data Said : Type 0 where
  false : Said
  accepting : Said
  shortest : Said

-- "false" if the list with that k is no accepting path, "shortest" if it is one of least length, else "accepting"
abbrev pub verdict : Graph → List ℕ → ℕ → Said
verdict g xs k = pick (accepts_at g xs k) (pick (leastb (least_length g) (edges xs)) shortest accepting) Said.false
