-- The levels that `closes_marked` and `closes_start` read, and the marks of the list from a place on.
use Prim.Native.Nat.{ℕ, ◌+◌, ◌*◌, ◌≤◌}
use mathlib.Core.Path.{◌≡◌, ◌∙◌, ap}
use mathlib.Core.Logic.{inl, inr}
use mathlib.Core.Bool.{Bool, true, false}
use mathlib.Core.List.{List, ◌∷◌}
use native.Mathlib.Omega.{arith}
use lib.ListN.{get_or}
use lib.Dec.{T}
use Rattle.lasso.specs.Graph.{Graph}
use Rattle.lists.specs.Decides.{Decides}
use Rattle.lists.proofs.Tests.{lt_or_ge, decides_iff}
use Rattle.frontier.specs.Regions.{entry}

-- what the code reads for a state in region 2 is its entry
pub read_two : (n : ℕ) (w : List ℕ) (s x : ℕ) → s ≡ x → get_or w (2 * n + s) 0 ≡ entry 2 n w x
read_two n w s x e = ap (entry 2 n w) e

-- what holds from the place after k on and at k holds from k on
pub from_more : (P : ℕ → Type 0) (k : ℕ) → ((x : ℕ) → k + 1 ≤ x → P x) → P k → (x : ℕ) → k ≤ x → P x
from_more P k all here x h =
    elim (lt_or_ge k x) [
      | inl q ↦ all x (omega arith)
      | inr q ↦ let e : k ≡ x = omega arith in rw e at here
    ]

-- a state of the list from place k on is marked
abbrev pub MarkFrom : Graph → ℕ → List ℕ → ℕ → ℕ → Type 0
MarkFrom g start w place k = (r : ℕ) × (k ≤ r) × (r ≤ place) × T (g.marked (get_or (start ∷ w) r 0))

-- what is known of the marks from the place after k on, once the state at k is looked at
module _ (g : Graph) (start : ℕ) (w : List ℕ) (place k : ℕ) where
  -- it is marked
  pub mark_from_here : k ≤ place → g.marked (get_or (start ∷ w) k 0) ≡ true → (b : Bool) → b ≡ true → Decides (MarkFrom g start w place k) b
  mark_from_here h marked b e = rw e (k, omega arith, h, rw marked tt)

  -- it is not marked, and the marks stand from the next place on
  pub mark_from_skip : g.marked (get_or (start ∷ w) k 0) ≡ false → (b d : Bool) → b ≡ d → Decides (MarkFrom g start w place (k + 1)) d → Decides (MarkFrom g start w place k) b
  mark_from_skip unmarked b d same known = decides_iff to back b (rw same known)
    where
      to : MarkFrom g start w place (k + 1) → MarkFrom g start w place k
      to (r, h, i, t) = (r, omega arith, i, t)

      back : MarkFrom g start w place k → MarkFrom g start w place (k + 1)
      back (r, h, i, t) =
          elim (lt_or_ge k r) [
            | inl q ↦ (r, omega arith, i, t)
            | inr q ↦
                let e : r ≡ k = omega arith in
                absurd (rw (ap (λ (j : ℕ). g.marked (get_or (start ∷ w) j 0)) e ∙ unmarked) at t)
          ]
