-- The function that finds the first reason that holds, and what that reason is.
use Prim.Native.Nat.{ℕ, ◌≤◌}
use mathlib.Core.Path.{◌≡◌, refl, ◌∙◌, ap}
use mathlib.Core.Bool.{Bool, true, false, ◌&&◌}
use mathlib.Core.List.{List, [], ◌∷◌, ◌++◌}
use mathlib.Core.Option.{some, none}
use native.Mathlib.Omega.{arith}
use lib.Dec.{T, leb, leb→le}
use Rattle.lists.specs.Lists.{some_if}
use Rattle.lists.proofs.Tests.{parts}
use Rattle.format.specs.Rules.{Reason, first_broken}
use Rattle.conditions.specs.Reasons.{numbers_of, NoneHolds, FirstHolds}
use Rattle.format.proofs.Reasons.{clear_append}

-- none is found if none holds
pub none_holds_first_broken : (rs : List Reason) → NoneHolds rs → first_broken rs ≡ none
none_holds_first_broken [] h = refl
none_holds_first_broken (r ∷ rs) h = ap (λ (b : Bool). some_if b r.number (first_broken rs)) h.0 ∙ none_holds_first_broken rs h.1

-- none holds if none is found
pub clear_none : (rs : List Reason) → first_broken rs ≡ none → NoneHolds rs
clear_none [] e = tt
clear_none (r ∷ rs) e = by_test (clear_none rs) r.holds refl e
  where
    by_test : (first_broken rs ≡ none → NoneHolds rs) → (b : Bool) → r.holds ≡ b → some_if b r.number (first_broken rs) ≡ none
        → NoneHolds (r ∷ rs)
    by_test later true q t = let z : ◌≡◌ {A = ℕ} 0 1 = cc in absurd (omega arith)
    by_test later false q t = (q, later t)

-- none of two tables, one after the other, holds if none of each does
pub none_parts : (rs ss : List Reason) → NoneHolds (rs ++ ss) → NoneHolds rs × NoneHolds ss
none_parts [] ss h = (tt, h)
none_parts (r ∷ rs) ss h = let (front, back) = none_parts rs ss h.1 in ((h.0, front), back)

-- the one that is found holds, and none before it
pub broken_first : (rs : List Reason) (n : ℕ) → first_broken rs ≡ some n → FirstHolds rs n
broken_first [] n e = let z : ◌≡◌ {A = ℕ} 0 1 = cc in absurd (omega arith)
broken_first (r ∷ rs) n e = by_test (broken_first rs n) r.holds refl e
  where
    by_test : (first_broken rs ≡ some n → FirstHolds rs n) → (b : Bool) → r.holds ≡ b
        → some_if b r.number (first_broken rs) ≡ some n → FirstHolds (r ∷ rs) n
    by_test behind true q t =
        record { before = []; reason = r; after = rs; split = refl; number_is = cc; it_holds = q; none_before = tt }
    by_test behind false q t =
        let later : FirstHolds rs n = behind t in
        record {
          before = r ∷ later.before;
          reason = later.reason;
          after = later.after;
          split = ap (λ (ss : List Reason). r ∷ ss) later.split;
          number_is = later.number_is;
          it_holds = later.it_holds;
          none_before = (q, later.none_before);
        }

-- a reason that holds, with none before it, is the one that is found
pub first_broken_lem : (rs : List Reason) (n : ℕ) → FirstHolds rs n → first_broken rs ≡ some n
first_broken_lem rs n h =
    ap first_broken h.split
    ∙ clear_append h.before (h.reason ∷ h.after) (none_holds_first_broken h.before h.none_before)
    ∙ ap (λ (b : Bool). some_if b h.reason.number (first_broken h.after)) h.it_holds
    ∙ ap some h.number_is

-- all numbers are between two numbers
abbrev pub betweenb : ℕ → ℕ → List ℕ → Bool
betweenb low high [] = true
betweenb low high (n ∷ ns) = (leb low n && leb n high) && betweenb low high ns

-- if those of a table are, so is the one that is found
pub broken_between : (low high : ℕ) (rs : List Reason) → T (betweenb low high (numbers_of rs)) → (n : ℕ) → first_broken rs ≡ some n
    → (low ≤ n) × (n ≤ high)
broken_between low high [] b n e = let z : ◌≡◌ {A = ℕ} 0 1 = cc in absurd (omega arith)
broken_between low high (r ∷ rs) b n e =
    let rest : T (betweenb low high (numbers_of rs)) = search parts in
    by_test (broken_between low high rs rest n) r.holds e
  where
    by_test : (first_broken rs ≡ some n → (low ≤ n) × (n ≤ high)) → (t : Bool) → some_if t r.number (first_broken rs) ≡ some n
        → (low ≤ n) × (n ≤ high)
    by_test later true q =
        let same : r.number ≡ n = cc in
        let low-le : low ≤ r.number = search (parts, leb→le) in
        let high_le : r.number ≤ high = search (parts, leb→le) in
        omega arith
    by_test later false q = later q
