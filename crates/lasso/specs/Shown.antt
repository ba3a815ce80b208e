-- What the contract asks to be shown about paths, and what dictionary order, the roll and distances are: statements, each
-- proved for all lists or for every well-formed graph. No length in them is bounded.
use Rattle.std.specs.Prelude.{ℕ, suc, ◌≤◌, ◌<◌, ◌≡◌, ◌↔◌, ◌⊎◌, Bool, length, get_or, take, T}
use mathlib.Core.List.{List, [], Memᴰ}
use Rattle.std.proofs.Math.Option.{Option}
use Rattle.lists.specs.Lists.{memb, differentb}
use Rattle.lists.specs.Least.{IsLeast}
use Rattle.lasso.specs.Graph.{Graph, WellFormed, pathb, edges, loopsb, lassob, acceptingb, loop_start, loop}
use Rattle.lasso.specs.Order.{beforeb}
use Rattle.lasso.specs.Roll.{least_length, roll}
use Rattle.lasso.specs.Distance.{dist, dist_plus}

-- some list passes the test
abbrev pub Exists : (List ℕ → Bool) → Type 0
Exists test = (xs : List ℕ) × T (test xs)

-- some list that passes the test has l transitions
abbrev pub HasLength : (List ℕ → Bool) → ℕ → Type 0
HasLength test l = (xs : List ℕ) × T (test xs) × (edges xs ≡ l)

-- the list passes the test, and none that passes it has fewer transitions
abbrev pub OfLeastLength : (List ℕ → Bool) → List ℕ → Type 0
OfLeastLength test xs = T (test xs) × ((ys : List ℕ) → T (test ys) → edges xs ≤ edges ys)

-- the last state sL is the state at place k, and k is below L
abbrev pub ClosesAt : List ℕ → ℕ → Type 0
ClosesAt xs k = (k < edges xs) × (get_or xs k 0 ≡ get_or xs (edges xs) 0)

-- An accepting path is a lasso that obeys the rule "all different"; a lasso is what is left of it when the rule is
-- dropped. This is what the rule does not change, and what it gives.
pub record Shown (g : Graph) : Type 0 where
  -- there is a lasso exactly if there is an accepting path
  pub same_existence : Exists (lassob g) ↔ Exists (acceptingb g)
  -- without the rule the least length is the same
  pub same_least : (l : Option ℕ) → IsLeast (HasLength (lassob g)) l ↔ IsLeast (HasLength (acceptingb g)) l
  -- it is the length that the roll is made with
  pub least_length : IsLeast (HasLength (lassob g)) (least_length g)
  -- each lasso of that length obeys the rule
  pub rule_obeyed : (xs : List ℕ) → OfLeastLength (lassob g) xs → T (differentb (take (edges xs) xs))
  -- so the lassos of least length are exactly the accepting paths of least length
  pub same_paths : (xs : List ℕ) → OfLeastLength (lassob g) xs ↔ OfLeastLength (acceptingb g) xs
  -- L is at most N
  pub length_le : (xs : List ℕ) → T (acceptingb g xs) → edges xs ≤ g.size
  -- k follows from the list: exactly one place below L holds the last state
  pub one_place : (xs : List ℕ) → T (acceptingb g xs) → (k : ℕ) → ClosesAt xs k ↔ (k ≡ loop_start xs)
  -- and from that place on the list is a closed walk with a mark
  pub loop_there : (xs : List ℕ) → T (acceptingb g xs) → T (loopsb g xs (loop_start xs))

-- "To be shown": all of it, for every well-formed graph
abbrev pub ToBeShown : Type 0
ToBeShown = (g : Graph) → WellFormed g → Shown g

-- The first place where two lists differ, with the smaller state in the first list.
pub record Differ (xs ys : List ℕ) : Type 0 where
  pub place : ℕ
  pub in_first : place < length xs
  pub in_second : place < length ys
  pub same : take place xs ≡ take place ys
  pub less : get_or xs place 0 < get_or ys place 0

-- What dictionary order is.
pub record OrderSays (xs ys : List ℕ) : Type 0 where
  -- the first list is before the second exactly if it has the smaller state at the first place where they differ
  pub by_place : T (beforeb xs ys) ↔ Differ xs ys
  -- two lists of one length are the same, or one of them is before the other
  pub total : length xs ≡ length ys → (xs ≡ ys) ⊎ (T (beforeb xs ys) ⊎ T (beforeb ys xs))

-- so it is with all lists
abbrev pub OrderShown : Type 0
OrderShown = (xs ys : List ℕ) → OrderSays xs ys

-- What the roll is: all shortest accepting paths, each once, in dictionary order.
pub record RollSays (g : Graph) : Type 0 where
  -- a list is in the roll exactly if it is of least length among the accepting paths
  pub holds : (xs : List ℕ) → Memᴰ xs (roll g) ↔ OfLeastLength (acceptingb g) xs
  -- of two places the earlier one holds the list that is before the other in dictionary order
  pub ordered : (i j : ℕ) → i < j → j < length (roll g) → T (beforeb (get_or (roll g) i []) (get_or (roll g) j []))
  -- so no list stands at two places
  pub once : (i j : ℕ) → i < length (roll g) → j < length (roll g) → get_or (roll g) i [] ≡ get_or (roll g) j [] → i ≡ j

-- so it is with every well-formed graph
abbrev pub RollShown : Type 0
RollShown = (g : Graph) → WellFormed g → RollSays g

-- The state s ends the run, and lies on no loop.
pub record EndsRun (g : Graph) (s : ℕ) : Type 0 where
  -- no path goes on from s
  pub last : (xs : List ℕ) → T (pathb g xs) → (j : ℕ) → get_or xs j 0 ≡ s → j < edges xs → ⊥
  -- no path with at least one edge that ends where it starts holds s
  pub no_closed_path : (xs : List ℕ) → T (pathb g xs) → ClosesAt xs 0 → T (memb s xs) → ⊥
  -- the loop of no accepting path holds s
  pub no_loop : (xs : List ℕ) → T (acceptingb g xs) → T (memb s (loop xs)) → ⊥

-- a state with no edge out ends the run, and lies on no loop (for which files a state with an empty row is one:
-- `RunEndsExactly` of the crate model)
abbrev pub NoEdgeOut : Type 0
NoEdgeOut = (g : Graph) (s : ℕ) → g.succs s ≡ [] → EndsRun g s

-- some path with n edges leads from s to t
abbrev pub PathLength : Graph → ℕ → ℕ → ℕ → Type 0
PathLength g s t n =
    (xs : List ℕ) × T (pathb g xs) × (length xs ≡ suc n) × (get_or xs 0 0 ≡ s) × (get_or xs n 0 ≡ t)

-- d(s, t) is the least length of a path from s to t; it is none if there is no such path
abbrev pub DistanceShown : Type 0
DistanceShown = (g : Graph) → WellFormed g → (s t : ℕ) → s < g.size → IsLeast (PathLength g s t) (dist g s t)

-- the least length of a path with at least one edge from s to t is found, though lengths above N are not tried
abbrev pub DistancePlusShown : Type 0
DistancePlusShown = (g : Graph) → WellFormed g → (s t : ℕ) → IsLeast (λ n. (1 ≤ n) × PathLength g s t n) (dist_plus g s t)
