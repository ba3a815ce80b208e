-- The first place where a list breaks: what it says about the list, and how a loop finds it.
use Prim.Native.Nat.{ℕ, zero, suc, ◌+◌, ◌-◌, ◌≤◌, ◌<◌}
use mathlib.Core.Path.{◌≡◌, sym, ◌∙◌, subst}
use mathlib.Core.Logic.{◌↔◌, inl, inr}
use mathlib.Core.Bool.{Bool, true, false, ◌&&◌, not}
use mathlib.Core.List.{List, [], ◌∷◌}
use mathlib.Core.Option.{some, none}
use native.Mathlib.Omega.{arith}
use lib.ListN.{length, get_or}
use lib.Dec.{T, eqb→eq, leb, ltb, leb→le, le→leb, ltb→lt, nltb→le, T_not, not_T}
use Rattle.std.specs.Prelude as code
use Rattle.std.specs.Prelude.{None, Some, is_some}
use Rattle.lasso.specs.Graph.{Graph, WellFormed, edgeb, pathb, lassob}
use Rattle.lists.proofs.Tests.{fst, snd, both, either, or_l, or_r, parts, decide, T_false, T_true, lt_or_ge}
use Rattle.lists.proofs.Least.{IsLeast, is_least_iff, is_least_unique, seek_least, Passes}
use Rattle.lasso.proofs.Walk.{path_states}
use Rattle.lasso.proofs.RollLaws.{accepting_lasso}
use Rattle.paths.specs.Breaks.{breakb, break_of, first_break, AllBelow, Breaks, BreaksFirst, BreaksShown}

-- a place of the list that breaks
abbrev BreaksAt : Graph → List ℕ → ℕ → Type 0
BreaksAt g xs j = (j < length xs) × Breaks g xs j

module _ (g : Graph) (xs : List ℕ) where
  -- what the test of a place says
  test_breaks : (j : ℕ) → T (breakb g xs j) → Breaks g xs j
  test_breaks j h =
      let low : Bool = ltb (get_or xs j 0) g.size in
      let edge : Bool = edgeb g (get_or xs (j - 1) 0) (get_or xs j 0) in
      elim (either (not low) (leb 1 j && not edge) h) [
        | inl t ↦ inl (nltb→le (get_or xs j 0) g.size t)
        | inr t ↦ inr (leb→le 1 j (fst (leb 1 j) (not edge) t), T_not edge (snd (leb 1 j) (not edge) t))
      ]

  -- a place that breaks passes the test
  breaks_test : (j : ℕ) → Breaks g xs j → T (breakb g xs j)
  breaks_test j (inl h) =
      let low : Bool = ltb (get_or xs j 0) g.size in
      let edge : Bool = edgeb g (get_or xs (j - 1) 0) (get_or xs j 0) in
      or_l (not low) (leb 1 j && not edge) (not_T low (λ t. omega (arith, ltb→lt (get_or xs j 0) g.size t)))
  breaks_test j (inr (past, apart)) =
      let low : Bool = ltb (get_or xs j 0) g.size in
      let edge : Bool = edgeb g (get_or xs (j - 1) 0) (get_or xs j 0) in
      or_r (not low) (leb 1 j && not edge) (both (leb 1 j) (not edge) (le→leb 1 j past) (not_T edge apart))

  -- the first place is the least that breaks
  pub first_break_least : IsLeast (BreaksAt g xs) (first_break g xs)
  first_break_least =
      is_least_iff (Passes (breakb g xs) 0 (length xs)) (BreaksAt g xs) (first_break g xs)
      (λ j h. (omega arith, test_breaks j h.2)) (λ j h. (omega arith, omega arith, breaks_test j h.1))
      (seek_least (breakb g xs) 0 (length xs))

  -- a place that breaks and has none before it that does is the first
  pub first_break_some : (j : ℕ) → BreaksFirst g xs j → some j ≡ first_break g xs
  first_break_some j b =
      is_least_unique (BreaksAt g xs) (some j) (first_break g xs) ((b.inside, b.breaks), λ n h. before n h) first_break_least
    where
      before : (n : ℕ) → BreaksAt g xs n → j ≤ n
      before n h = elim (lt_or_ge n j) [ inl l ↦ absurd (b.none_before n l h.1) | inr l ↦ l ]

  -- a list none of whose places breaks has no first one
  pub first_break_none : ((j : ℕ) → j < length xs → Breaks g xs j → ⊥) → none ≡ first_break g xs
  first_break_none unbroken =
      is_least_unique (BreaksAt g xs) none (first_break g xs) (λ n h. unbroken n h.0 h.1) first_break_least

  -- the first place breaks, and none before it
  some_breaks : (j : ℕ) → first_break g xs ≡ some j → BreaksFirst g xs j
  some_breaks j e =
      let least : IsLeast (BreaksAt g xs) (some j) = subst (IsLeast (BreaksAt g xs)) e first_break_least in
      record {
        inside = least.0.0;
        breaks = least.0.1;
        none_before = λ i l b. omega (arith, least.1 i (omega (arith, least.0.0), b));
      }

  -- without a first place none breaks
  none_breaks : first_break g xs ≡ none → (j : ℕ) → j < length xs → Breaks g xs j → ⊥
  none_breaks e j i b =
      let least : IsLeast (BreaksAt g xs) none = subst (IsLeast (BreaksAt g xs)) e first_break_least in
      least j (i, b)

  -- then every entry is a state
  pub unbroken_states : first_break g xs ≡ none → AllBelow g.size xs
  unbroken_states e j i = elim (lt_or_ge (get_or xs j 0) g.size) [ inl l ↦ l | inr l ↦ absurd (none_breaks e j i (inl l)) ]

-- a list with an edge from each place to the next is a path
path_of_places : (g : Graph) (xs : List ℕ) → ((j : ℕ) → suc j < length xs → T (edgeb g (get_or xs j 0) (get_or xs (suc j) 0)))
    → T (pathb g xs)
path_of_places g [] each = tt
path_of_places g (x ∷ []) each = tt
path_of_places g (x ∷ y ∷ r) each =
    both (edgeb g x y) (pathb g (y ∷ r)) (each 0 (omega arith)) (path_of_places g (y ∷ r) (λ j i. each (suc j) (omega arith)))

-- a path has an edge from each place to the next
path_edge : (g : Graph) (xs : List ℕ) → T (pathb g xs) → (j : ℕ) → suc j < length xs → T (edgeb g (get_or xs j 0) (get_or xs (suc j) 0))
path_edge g [] h j i = absurd (omega arith)
path_edge g (x ∷ []) h j i = absurd (omega arith)
path_edge g (x ∷ y ∷ r) h zero i = fst (edgeb g x y) (pathb g (y ∷ r)) h
path_edge g (x ∷ y ∷ r) h (suc j) i = path_edge g (y ∷ r) (snd (edgeb g x y) (pathb g (y ∷ r)) h) j (omega arith)

-- an edge from a place to the next, said from the next one
edge_behind : (g : Graph) (xs : List ℕ) (i j : ℕ) → i ≡ j + 1 → T (edgeb g (get_or xs (i - 1) 0) (get_or xs i 0)) ↔ T (edgeb g (get_or xs j 0) (get_or xs i 0))
edge_behind g xs i j q =
    let e : i - 1 ≡ j = omega arith in
    (subst (λ (m : ℕ). T (edgeb g (get_or xs m 0) (get_or xs i 0))) e, subst (λ (m : ℕ). T (edgeb g (get_or xs m 0) (get_or xs i 0))) (sym e))

-- a list that breaks nowhere is a path
pub unbroken_path : (g : Graph) (xs : List ℕ) → first_break g xs ≡ none → T (pathb g xs)
unbroken_path g xs e = path_of_places g xs edge
  where
    edge : (j : ℕ) → suc j < length xs → T (edgeb g (get_or xs j 0) (get_or xs (suc j) 0))
    edge j i =
        elim (decide (edgeb g (get_or xs j 0) (get_or xs (suc j) 0))) [
          | inl t ↦ t
          | inr t ↦ absurd (none_breaks g xs e (suc j) i (inr (omega arith, λ h. T_not (edgeb g (get_or xs j 0) (get_or xs (suc j) 0)) t ((edge_behind g xs (suc j) j (omega arith)).0 h))))
        ]

-- a path of states breaks nowhere
pub path_unbroken : (g : Graph) (xs : List ℕ) → T (pathb g xs) → AllBelow g.size xs → first_break g xs ≡ none
path_unbroken g xs h low = sym (first_break_none g xs unbroken)
  where
    unbroken : (j : ℕ) → j < length xs → Breaks g xs j → ⊥
    unbroken j i (inl more) = omega (arith, low j i)
    unbroken zero i (inr (past, apart)) = omega arith
    unbroken (suc j) i (inr (past, apart)) = apart ((edge_behind g xs (suc j) j (omega arith)).1 (path_edge g xs h j i))

-- a path from the start breaks nowhere
pub started_unbroken : (g : Graph) → WellFormed g → (xs : List ℕ) → get_or xs 0 0 ≡ g.start → T (pathb g xs) → first_break g xs ≡ none
started_unbroken g wf xs at h = path_unbroken g xs h (path_states g xs wf h (omega (arith, wf.start_state)))

-- a list from the start that breaks is no path
pub broken_no_path : (g : Graph) → WellFormed g → (xs : List ℕ) → get_or xs 0 0 ≡ g.start → (j : ℕ) → first_break g xs ≡ some j → pathb g xs ≡ false
broken_no_path g wf xs at j e =
    T_false (pathb g xs) (not_T (pathb g xs) (λ h. let z : some j ≡ none = sym e ∙ started_unbroken g wf xs at h in let q : ◌≡◌ {A = ℕ} 0 1 = cc in omega arith))

-- a list from the start is a path exactly if no place is found that breaks
pub none_path : (g : Graph) → WellFormed g → (xs : List ℕ) → get_or xs 0 0 ≡ g.start → (b : code.Option ℕ) (r : Bool)
    → break_of b ≡ first_break g xs → is_some b ≡ not r → r ≡ pathb g xs
none_path g wf xs at None true e q = sym (T_true (pathb g xs) (unbroken_path g xs (sym e)))
none_path g wf xs at (Some j) false e q = sym (broken_no_path g wf xs at j (sym e))
none_path g wf xs at None false e q = cc
none_path g wf xs at (Some j) true e q = cc

pub breaks_shown : BreaksShown
breaks_shown g = record {
  some_exactly = λ xs j. (some_breaks g xs j, λ b. sym (first_break_some g xs j b));
  none_exactly = λ xs. (λ e. (unbroken_path g xs e, unbroken_states g xs e), λ (h, low). path_unbroken g xs h low);
  accepting_none = λ wf xs acc.
      let lasso : T (lassob g xs) = accepting_lasso g xs acc in
      let at : get_or xs 0 0 ≡ g.start = search (parts, eqb→eq) in
      started_unbroken g wf xs at (search parts);
}

-- Up to place j of a list, behind an entry that is a state, no place breaks.
pub record Unbroken (g : Graph) (xs : List ℕ) (j : ℕ) : Type 0 where
  pub past : 1 ≤ j
  pub within : j ≤ length xs
  pub state : get_or xs (j - 1) 0 < g.size
  pub unbroken : (i : ℕ) → i < j → Breaks g xs i → ⊥

module _ (g : Graph) (xs : List ℕ) (some_entry : 1 ≤ length xs) where
  -- an entry at place 0 that is no state breaks there
  pub broken_at_first : g.size ≤ get_or xs 0 0 → some 0 ≡ first_break g xs
  broken_at_first h = first_break_some g xs 0 (record { inside = some_entry; breaks = inl h; none_before = λ i l b. omega arith })

module _ {g : Graph} {xs : List ℕ} {j : ℕ} (U : Unbroken g xs j) where
  -- an edge to the next entry leads on
  pub unbroken_next : WellFormed g → j < length xs → edgeb g (get_or xs (j - 1) 0) (get_or xs j 0) ≡ true → Unbroken g xs (j + 1)
  unbroken_next wf inside e =
      let back : j + 1 - 1 ≡ j = omega arith in
      record { past = omega arith; within = omega arith; state = rw back next; unbroken = up_to }
    where
      edge : T (edgeb g (get_or xs (j - 1) 0) (get_or xs j 0))
      edge = rw e tt

      next : get_or xs j 0 < g.size
      next = (wf.edge_states (get_or xs (j - 1) 0) (get_or xs j 0) edge).1

      here : Breaks g xs j → ⊥
      here (inl more) = omega (arith, next)
      here (inr (past, apart)) = apart edge

      up_to : (i : ℕ) → i < j + 1 → Breaks g xs i → ⊥
      up_to i l b = elim (lt_or_ge i j) [ inl m ↦ U.unbroken i m b | inr m ↦ let q : i ≡ j = omega arith in here (subst (Breaks g xs) q b) ]

  -- without one the next place is the first that breaks
  pub broken_next : j < length xs → edgeb g (get_or xs (j - 1) 0) (get_or xs j 0) ≡ false → some j ≡ first_break g xs
  broken_next inside e =
      first_break_some g xs j
      (record { inside = inside; breaks = inr (U.past, λ t. rw e at t); none_before = U.unbroken })

  -- past the last place none breaks
  pub unbroken_end : length xs ≤ j → none ≡ first_break g xs
  unbroken_end last = first_break_none g xs (λ i l b. U.unbroken i (omega arith) b)
