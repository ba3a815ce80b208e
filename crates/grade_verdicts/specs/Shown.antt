-- What a verdict says: statements, each proved for every well-formed graph, every list and every k.
use Rattle.std.specs.Prelude.{ℕ, ◌≤◌, ◌<◌, ◌≡◌, ◌↔◌, length, T}
use mathlib.Core.List.{List, Memᴰ}
use Rattle.lasso.specs.Graph.{Graph, WellFormed, edges, acceptingb, loop_start}
use Rattle.lasso.specs.Roll.{roll}
use Rattle.lasso.specs.Shown.{OfLeastLength}
use Rattle.grade_verdicts.specs.Verdict.{accepts_at, Said, accepting, shortest, verdict}

-- the list is an accepting path, and k is where its loop starts
abbrev pub AcceptingAt : Graph → List ℕ → ℕ → Type 0
AcceptingAt g xs k = T (acceptingb g xs) × (k ≡ loop_start xs)

-- What each verdict says.
pub record VerdictShown (g : Graph) : Type 0 where
  -- a list is accepted at k exactly if it is an accepting path and k is its loop start
  pub accepts_exactly : (xs : List ℕ) (k : ℕ) → T (accepts_at g xs k) ↔ AcceptingAt g xs k
  -- "false" exactly if the list with that k is no accepting path
  pub false_exactly : (xs : List ℕ) (k : ℕ) → (verdict g xs k ≡ Said.false) ↔ (AcceptingAt g xs k → ⊥)
  -- "shortest" exactly if it is one, and none has fewer transitions
  pub shortest_exactly : (xs : List ℕ) (k : ℕ)
      → (verdict g xs k ≡ shortest) ↔ (OfLeastLength (acceptingb g) xs × (k ≡ loop_start xs))
  -- that is, exactly if it is in the roll, and k is its loop start
  pub shortest_in_roll : (xs : List ℕ) (k : ℕ)
      → (verdict g xs k ≡ shortest) ↔ (Memᴰ xs (roll g) × (k ≡ loop_start xs))
  -- "accepting" exactly if it is one, and one with fewer transitions exists
  pub accepting_exactly : (xs : List ℕ) (k : ℕ)
      → (verdict g xs k ≡ accepting) ↔ (AcceptingAt g xs k × ((ys : List ℕ) × T (acceptingb g ys) × (edges ys < edges xs)))
  -- a list of fewer than two entries is "false"
  pub short_false : (xs : List ℕ) (k : ℕ) → length xs < 2 → verdict g xs k ≡ Said.false
  -- and so is every list with a k not below L
  pub late_false : (xs : List ℕ) (k : ℕ) → edges xs ≤ k → verdict g xs k ≡ Said.false

-- So it is for every well-formed graph.
abbrev pub VerdictsShown : Type 0
VerdictsShown = (g : Graph) → WellFormed g → VerdictShown g
