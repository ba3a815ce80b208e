-- Walks: the states passed from one state to another along edges. They are put together by `++`, they are the segments of
-- paths, and they are what `reachb` tests.
use Prim.Native.Nat.{ℕ, zero, suc, ◌+◌, ◌-◌, ◌≤◌, ◌<◌}
use mathlib.Core.Path.{◌≡◌, refl, sym, ◌∙◌, ap, subst}
use mathlib.Core.Logic.{inl, inr}
use mathlib.Core.List.Memᴰ
use mathlib.Core.List.{List, [], ◌∷◌, ◌++◌, Memᴰ}
use native.Mathlib.Omega.{arith}
use lib.ListN.{length, get_or, length-append}
use lib.Dec.{T, eqb→eq}
use Rattle.lasso.specs.Graph.{Graph, WellFormed, edgeb, pathb}
use Rattle.lasso.specs.Distance.{reachb}
use Rattle.lists.proofs.Tests.{fst, snd, both, eq→eqb, anyb_some, some_anyb, memb_mem, mem_memb}

-- the edges from s through the states us, of which t is the last (t is s if there are none)
pub data Run (g : Graph) : ℕ → List ℕ → ℕ → Type 0 where
  done : {s t : ℕ} → s ≡ t → Run g s [] t
  next : {s u t : ℕ} {us : List ℕ} → T (edgeb g s u) → Run g u us t → Run g s (u ∷ us) t

-- a walk of m edges from s to t
abbrev pub Walk : Graph → ℕ → ℕ → ℕ → Type 0
Walk g s t m = (us : List ℕ) × Run g s us t × (length us ≡ m)

-- two runs make one if the first ends where the second starts
pub run_append : {g : Graph} {s t u : ℕ} {us vs : List ℕ} → Run g s us t → Run g t vs u → Run g s (us ++ vs) u
run_append {g} {u = u} {vs = vs} (done e) r = subst (λ (x : ℕ). Run g x vs u) (sym e) r
run_append (next e q) r = next e (run_append q r)

-- a walk may start at an equal state
pub walk_from : {g : Graph} {s s' t m : ℕ} → s ≡ s' → Walk g s' t m → Walk g s t m
walk_from {g} {t = t} {m = m} e w = subst (λ (x : ℕ). Walk g x t m) (sym e) w

-- a walk may end at an equal state
pub walk_to : {g : Graph} {s t t' m : ℕ} → Walk g s t m → t ≡ t' → Walk g s t' m
walk_to {g} {s} {m = m} w e = subst (λ (x : ℕ). Walk g s x m) e w

-- a walk's number of edges may be written otherwise
pub walk_length : {g : Graph} {s t m n : ℕ} → m ≡ n → Walk g s t m → Walk g s t n
walk_length e w = (w.0, w.1, w.2 ∙ e)

-- the walk of no edges
pub walk_here : {g : Graph} (s : ℕ) → Walk g s s 0
walk_here s = ([], done refl, refl)

-- the walk of one edge
pub walk_edge : {g : Graph} {s t : ℕ} → T (edgeb g s t) → Walk g s t 1
walk_edge {t = t} e = (t ∷ [], next e (done refl), refl)

-- a walk after an edge
pub walk_cons : {g : Graph} {s t u m : ℕ} → T (edgeb g s t) → Walk g t u m → Walk g s u (suc m)
walk_cons {t = t} e w = (t ∷ w.0, next e w.1, ap suc w.2)

-- the lengths of walks put together add up
pub walk_append : {g : Graph} {s t u m n : ℕ} → Walk g s t m → Walk g t u n → Walk g s u (m + n)
walk_append v w = (v.0 ++ w.0, run_append v.1 w.1, simp length-append (omega arith))

-- a walk of no edges stays where it is
pub walk_zero : {g : Graph} {s t : ℕ} → Walk g s t 0 → s ≡ t
walk_zero ([], done q, e) = q
walk_zero (u ∷ us, r, e) = absurd (omega arith)

-- a walk of more edges starts with one
pub walk_uncons : {g : Graph} {s t m : ℕ} → Walk g s t (suc m) → (u : ℕ) × T (edgeb g s u) × Walk g u t m
walk_uncons ([], r, e) = absurd (omega arith)
walk_uncons (u ∷ us, next h r, e) = (u, h, (us, r, omega arith))

-- the states of a run are a path
pub run_path : {g : Graph} {s t : ℕ} {us : List ℕ} → Run g s us t → T (pathb g (s ∷ us))
run_path (done e) = tt
run_path {g} {s} (next {u = u} {us = us} e r) = both (edgeb g s u) (pathb g (u ∷ us)) e (run_path r)

-- a run's last state is its end
pub run_last : {g : Graph} {s t : ℕ} {us : List ℕ} → Run g s us t → get_or (s ∷ us) (length us) 0 ≡ t
run_last (done e) = e
run_last (next e r) = run_last r

-- a path is a run to its last state
pub path_run : (g : Graph) (s : ℕ) (us : List ℕ) → T (pathb g (s ∷ us)) → Run g s us (get_or (s ∷ us) (length us) 0)
path_run g s [] h = done refl
path_run g s (u ∷ us) h =
    next (fst (edgeb g s u) (pathb g (u ∷ us)) h) (path_run g u us (snd (edgeb g s u) (pathb g (u ∷ us)) h))

-- a path without its first state is a path
pub path_tail : (g : Graph) (s : ℕ) (us : List ℕ) → T (pathb g (s ∷ us)) → T (pathb g us)
path_tail g s [] h = tt
path_tail g s (u ∷ us) h = snd (edgeb g s u) (pathb g (u ∷ us)) h

-- the walk from a path's first state to the one at place j
pub path_front : (g : Graph) (s : ℕ) (us : List ℕ) → T (pathb g (s ∷ us)) → (j : ℕ) → j ≤ length us
    → Walk g s (get_or (s ∷ us) j 0) j
path_front g s us h zero l = walk_here s
path_front g s [] h (suc j) l = absurd (omega arith)
path_front g s (u ∷ us) h (suc j) l =
    walk_cons (fst (edgeb g s u) (pathb g (u ∷ us)) h) (path_front g u us (snd (edgeb g s u) (pathb g (u ∷ us)) h) j (omega arith))

-- the segment of a path from place i to place j
pub path_segment : (g : Graph) (xs : List ℕ) → T (pathb g xs) → (i j : ℕ) → i ≤ j → j < length xs
    → Walk g (get_or xs i 0) (get_or xs j 0) (j - i)
path_segment g [] h i j p q = absurd (omega arith)
path_segment g (s ∷ us) h zero j p q = walk_length (omega arith) (path_front g s us h j (omega arith))
path_segment g (s ∷ us) h (suc i) zero p q = absurd (omega arith)
path_segment g (s ∷ us) h (suc i) (suc j) p q =
    walk_length (omega arith) (path_segment g us (path_tail g s us h) i j (omega arith) (omega arith))

-- the states of a run from a state are states
pub run_states : {g : Graph} {s t : ℕ} {us : List ℕ} → WellFormed g → s < g.size → Run g s us t → (x : ℕ)
    → Memᴰ x (s ∷ us) → x < g.size
run_states wf l (done e) x m = elim (Memᴰ.cases_cons m) [ inl q ↦ rw q l | inr n ↦ absurd (Memᴰ.not-nil n) ]
run_states {s = s} wf l (next {u = u} e r) x m =
    elim (Memᴰ.cases_cons m) [
      | inl q ↦ rw q l
      | inr n ↦ run_states wf (wf.edge_states s u e).1 r x n
    ]

-- the end of a run from a state is a state
pub run_end_state : {g : Graph} {s t : ℕ} {us : List ℕ} → WellFormed g → s < g.size → Run g s us t → t < g.size
run_end_state wf l (done e) = rw e at l
run_end_state {s = s} wf l (next {u = u} e r) = run_end_state wf (wf.edge_states s u e).1 r

-- the end of a walk from a state is a state
pub walk_end_state : {g : Graph} {s t m : ℕ} → WellFormed g → s < g.size → Walk g s t m → t < g.size
walk_end_state wf l w = run_end_state wf l w.1

-- the entries of a path from a state are states
pub path_states : (g : Graph) (xs : List ℕ) → WellFormed g → T (pathb g xs) → get_or xs 0 0 < g.size → (j : ℕ)
    → j < length xs → get_or xs j 0 < g.size
path_states g [] wf h l j q = absurd (omega arith)
path_states g (s ∷ us) wf h l j q = walk_end_state wf l (path_front g s us h j (omega arith))

-- what reachb finds is a walk
pub reach_walk : (g : Graph) (m s t : ℕ) → T (reachb g m s t) → Walk g s t m
reach_walk g zero s t h = ([], done (eqb→eq s t h), refl)
reach_walk g (suc m) s t h =
    let (u, edge, rest) = anyb_some (λ u. reachb g m u t) (g.succs s) h in
    walk_cons (mem_memb edge) (reach_walk g m u t rest)

-- a walk is found by reachb
pub walk_reach : (g : Graph) (m s t : ℕ) → Walk g s t m → T (reachb g m s t)
walk_reach g zero s t w = eq→eqb s t (walk_zero w)
walk_reach g (suc m) s t w =
    let (u, edge, rest) = walk_uncons w in
    some_anyb (λ v. reachb g m v t) (memb_mem u (g.succs s) edge) (walk_reach g m u t rest)
