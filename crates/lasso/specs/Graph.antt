-- A model as a graph, and what a path, a lasso and an accepting path of it are.
use Rattle.std.specs.Prelude.{ℕ, ◌-◌, ◌<◌, Bool, true, ◌&&◌, List, [], ◌∷◌, length, get_or, take, drop, T, eqb, leb}
use Rattle.lists.specs.Lists.{memb, differentb, ascendingb, anyb, up_from, below, place_of}

-- A model: states 0 to size − 1, the initial state, the edges as each state's list of successors, the marked states.
pub record Graph : Type 0 where
  pub size : ℕ
  pub start : ℕ
  pub succs : ℕ → List ℕ
  pub marked : ℕ → Bool

-- there is an edge from s to t
abbrev pub edgeb : Graph → ℕ → ℕ → Bool
edgeb g s t = memb t (g.succs s)

-- What a file's graph always is: the initial state is a state, edges are pairs of states, at most one from a state to a
-- given state (each list of successors ascends).
pub record WellFormed (g : Graph) : Type 0 where
  pub start_state : g.start < g.size
  pub edge_states : (s t : ℕ) → T (edgeb g s t) → (s < g.size) × (t < g.size)
  pub ascending : (s : ℕ) → T (ascendingb (g.succs s))

-- path: a list of states with an edge from each to the next
abbrev pub pathb : Graph → List ℕ → Bool
pathb g [] = true
pathb g (s ∷ []) = true
pathb g (s ∷ t ∷ r) = edgeb g s t && pathb g (t ∷ r)

-- L, the length of a path: its number of edges
abbrev pub edges : List ℕ → ℕ
edges xs = length xs - 1

-- from place k on the list is a closed walk with a mark: the last state is the one at k, and one of the states from k to
-- before the last is marked
abbrev pub loopsb : Graph → List ℕ → ℕ → Bool
loopsb g xs k =
    eqb (get_or xs (edges xs) 0) (get_or xs k 0) && anyb (λ r. g.marked (get_or xs r 0)) (up_from k (edges xs - k))

-- lasso: a path s0, .., sL with L ≥ 1 and s0 the initial state that is a closed walk with a mark from some place below L
abbrev pub lassob : Graph → List ℕ → Bool
lassob g xs =
    (leb 1 (edges xs) && eqb (get_or xs 0 0) g.start) && (pathb g xs && anyb (loopsb g xs) (below (edges xs)))

-- accepting path: a lasso whose states s0 to s(L−1) are all different
abbrev pub acceptingb : Graph → List ℕ → Bool
acceptingb g xs = lassob g xs && differentb (take (edges xs) xs)

-- k, the place where the loop starts: the first place of the last state
abbrev pub loop_start : List ℕ → ℕ
loop_start xs = place_of (get_or xs (edges xs) 0) xs

-- the stem: s0 to s(k−1)
abbrev pub stem : List ℕ → List ℕ
stem xs = take (loop_start xs) xs

-- the loop: sk to s(L−1)
abbrev pub loop : List ℕ → List ℕ
loop xs = drop (loop_start xs) (take (edges xs) xs)
