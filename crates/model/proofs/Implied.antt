-- The graph with implied steps: what it has more than the graph of the rows, and that it is well formed.
use Prim.Native.Nat.{ℕ, ◌≤◌, ◌<◌}
use mathlib.Core.Path.{◌≡◌, refl, ap}
use mathlib.Core.Bool.{Bool, true, false, ◌&&◌}
use mathlib.Core.List.{List, [], ◌∷◌}
use mathlib.Core.Logic.{◌⊎◌, inl, inr}
use native.Mathlib.Omega.{arith}
use lib.ListN.{length, get_or, drop}
use lib.Dec.{T, eqb, ltb, ltb→lt, eqb→eq, eqb_refl}
use Rattle.lists.specs.Lists.{memb, ascendingb}
use Rattle.lasso.specs.Graph.{Graph, WellFormed}
use Rattle.lists.proofs.Tests.{either, or_l, snd}
use Rattle.model.specs.Model.{with_implied, staying}

-- a state with edges has no implied step
pub implied_some : (b : Bool) (s : ℕ) (ts : List ℕ) → 1 ≤ length ts → with_implied b s ts ≡ ts
implied_some b s [] l = absurd (omega arith)
implied_some b s (t ∷ ts) l = refl

-- the steps are the edges, or one step to the state itself
pub implied_or_itself : (b : Bool) (s : ℕ) (ts : List ℕ) → (with_implied b s ts ≡ ts) ⊎ (with_implied b s ts ≡ s ∷ [])
implied_or_itself true s [] = inr refl
implied_or_itself false s [] = inl refl
implied_or_itself b s (t ∷ ts) = inl refl

-- after the first successor there are only edges
pub implied_behind_first : (b : Bool) (s : ℕ) (ts : List ℕ) → 0 < length (with_implied b s ts)
    → with_implied b s ts ≡ get_or (with_implied b s ts) 0 0 ∷ drop 1 ts
implied_behind_first true s [] l = refl
implied_behind_first false s [] l = absurd (omega arith)
implied_behind_first b s (t ∷ ts) l = refl

-- where nothing stays there is no implied step
pub implied_not : (s : ℕ) (ts : List ℕ) → with_implied false s ts ≡ ts
implied_not s [] = refl
implied_not s (t ∷ ts) = refl

-- where nothing stays the graph is the one of the rows
pub staying_not : (g : Graph) → staying false g ≡ g
staying_not g = λ i. record { size = g.size; start = g.start; succs = λ s. implied_not s (g.succs s) i; marked = g.marked }

-- at most one successor more than edges
pub implied_length : (b : Bool) (s : ℕ) (ts : List ℕ) (n : ℕ) → 1 ≤ n → length ts ≤ n → length (with_implied b s ts) ≤ n
implied_length true s [] n m l = omega arith
implied_length false s [] n m l = omega arith
implied_length b s (t ∷ ts) n m l = l

-- an implied step ascends, like the edges
implied_ascends : (b : Bool) (s : ℕ) (ts : List ℕ) → T (ascendingb ts) → T (ascendingb (with_implied b s ts))
implied_ascends true s [] a = tt
implied_ascends false s [] a = tt
implied_ascends b s (t ∷ ts) a = a

-- a step is an edge, or the implied one of a state without edges
pub implied_memb : (b : Bool) (s t : ℕ) (ts : List ℕ) → T (memb t (with_implied b s ts))
    → T (memb t ts) ⊎ (T b × (t ≡ s) × (ts ≡ []))
implied_memb true s t [] m =
    elim (either (eqb t s) false m) [
      | inl e ↦ inr (tt, eqb→eq t s e, refl)
      | inr none ↦ absurd none
    ]
implied_memb false s t [] m = absurd m
implied_memb b s t (x ∷ ts) m = inl m

-- an edge is a step
pub edge_implied : (b : Bool) (s t : ℕ) (ts : List ℕ) → T (memb t ts) → T (memb t (with_implied b s ts))
edge_implied b s t [] m = absurd m
edge_implied b s t (x ∷ ts) m = m

-- a state without edges that stays has a step to itself
pub stays_implied : (b : Bool) (s : ℕ) (ts : List ℕ) → T b → ts ≡ [] → T (memb s (with_implied b s ts))
stays_implied true s [] on e = or_l (eqb s s) false (eqb_refl s)
stays_implied false s [] on e = absurd on
stays_implied b s (t ∷ ts) on e = absurd (omega (arith, ap length e))

-- the graph with implied steps is well formed if the one without is
pub staying_well_formed : (b : Bool) {g : Graph} → WellFormed g → WellFormed (staying b g)
staying_well_formed b {g} wf =
    record {
      start_state = wf.start_state;
      edge_states = λ s t h.
          elim (implied_memb (b && ltb s g.size) s t (g.succs s) h) [
            | inl e ↦ wf.edge_states s t e
            | inr (stays, same, none) ↦
                let below : s < g.size = ltb→lt s g.size (snd b (ltb s g.size) stays) in
                (below, omega arith)
          ];
      ascending = λ s. implied_ascends (b && ltb s g.size) s (g.succs s) (wf.ascending s);
    }
