-- Candidates, counted while going up through the states: those from a state on, and how many are below it.
use Prim.Native.Nat.{ℕ, suc, ◌+◌, ◌-◌, ◌<◌}
use mathlib.Core.Path.{◌≡◌, ◌∙◌, ap}
use mathlib.Core.Bool.{Bool, true, false}
use mathlib.Core.List.{List, ◌∷◌}
use native.Mathlib.Omega.{arith}
use lib.ListN.{length, get_or}
use Rattle.lists.specs.Lists.{keep, cons_if, up_from}
use Rattle.lasso.specs.Graph.{Graph}
use Rattle.lasso.specs.Rounds.{candidateb, candidates}

-- the candidates from s on
abbrev pub candidates_from : Graph → ℕ → List ℕ
candidates_from g s = keep (candidateb g) (up_from s (g.size - s))

-- the candidates from s on are s, if it is one, and those from s + 1 on
candidates_from_next : (g : Graph) (s : ℕ) → s < g.size
    → candidates_from g s ≡ cons_if (candidateb g s) s (candidates_from g (s + 1))
candidates_from_next g s l =
    let e : g.size - s ≡ suc (g.size - (s + 1)) = omega arith in
    let q : suc s ≡ s + 1 = omega arith in
    ap (λ (n : ℕ). keep (candidateb g) (up_from s n)) e
    ∙ ap (λ (t : ℕ). cons_if (candidateb g s) s (keep (candidateb g) (up_from t (g.size - (s + 1))))) q

-- a candidate is the first of the candidates from itself on
candidates_from_yes : (g : Graph) (s : ℕ) → s < g.size → candidateb g s ≡ true
    → candidates_from g s ≡ s ∷ candidates_from g (s + 1)
candidates_from_yes g s l e =
    candidates_from_next g s l ∙ ap (λ (b : Bool). cons_if b s (candidates_from g (s + 1))) e

-- a state that is no candidate does not count
candidates_from_no : (g : Graph) (s : ℕ) → s < g.size → candidateb g s ≡ false
    → candidates_from g s ≡ candidates_from g (s + 1)
candidates_from_no g s l e =
    candidates_from_next g s l ∙ ap (λ (b : Bool). cons_if b s (candidates_from g (s + 1))) e

-- d candidates are below s: what is left of the candidates when d are passed are those from s on
pub record Counted (g : Graph) (d s : ℕ) : Type 0 where
  pub lengths : d + length (candidates_from g s) ≡ length (candidates g)
  pub entries : (k : ℕ) → get_or (candidates g) (d + k) 0 ≡ get_or (candidates_from g s) k 0

-- a candidate counts
pub counted_yes : {g : Graph} {d s : ℕ} → s < g.size → candidateb g s ≡ true → Counted g d s → Counted g (d + 1) (s + 1)
counted_yes {g} {d} {s} l e c =
    let first = candidates_from_yes g s l e in
    record {
      lengths = omega (arith, c.lengths, ap length first);
      entries = λ k.
          let q : d + 1 + k ≡ d + suc k = omega arith in
          rw q (c.entries (suc k) ∙ ap (λ (xs : List ℕ). get_or xs (suc k) 0) first);
    }

-- a state that is no candidate does not count
pub counted_no : {g : Graph} {d s : ℕ} → s < g.size → candidateb g s ≡ false → Counted g d s → Counted g d (s + 1)
counted_no {g} {d} {s} l e c =
    let same = candidates_from_no g s l e in
    record {
      lengths = omega (arith, c.lengths, ap length same);
      entries = λ k. c.entries k ∙ ap (λ (xs : List ℕ). get_or xs k 0) same;
    }

-- the place of a candidate is the number of candidates below it
pub counted_at : {g : Graph} {d s : ℕ} → s < g.size → candidateb g s ≡ true → Counted g d s → get_or (candidates g) d 0 ≡ s
counted_at {g} {d} {s} l e c =
    let q : d ≡ d + 0 = omega arith in
    ap (λ (i : ℕ). get_or (candidates g) i 0) q ∙ c.entries 0
    ∙ ap (λ (xs : List ℕ). get_or xs 0 0) (candidates_from_yes g s l e)

-- a candidate's place is below the number of candidates
pub counted_left : {g : Graph} {d s : ℕ} → s < g.size → candidateb g s ≡ true → Counted g d s → d < length (candidates g)
counted_left {g} {d} {s} l e c = omega (arith, c.lengths, ap length (candidates_from_yes g s l e))
