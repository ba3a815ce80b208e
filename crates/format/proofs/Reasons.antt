-- What it says that no reason of a table holds, and how the first one that holds is found.
use Prim.Native.Nat.{ℕ}
use mathlib.Core.Path.{◌≡◌, refl, sym, ap, subst, ◌∙◌}
use mathlib.Core.Bool.{Bool, true, false, not}
use mathlib.Core.List.{List, [], ◌∷◌, ◌++◌}
use mathlib.Core.Option.{Option, some, none, some-ne-none}
use native.Mathlib.Omega.{arith}
use lib.ListN.{drop}
use lib.Dec.{T}
use Rattle.lists.specs.Lists.{some_if}
use Rattle.lists.proofs.Sorted.{All}
use Rattle.format.specs.Rules.{Reason, first_broken}

-- no reason of a table holds
abbrev pub Clear : List Reason → Type 0
Clear [] = Unit {0}
Clear (r ∷ rs) = T (not r.holds) × Clear rs

-- a skipped reason does not hold, and the table after it decides
skipped : (b : Bool) (n : ℕ) (o : Option ℕ) → some_if b n o ≡ none → T (not b) × (o ≡ none)
skipped true n o e = absurd (some-ne-none n e)
skipped false n o e = (tt, e)

-- a table without a first reason that holds is clear
pub none_clear : (rs : List Reason) → first_broken rs ≡ none → Clear rs
none_clear [] e = tt
none_clear (r ∷ rs) e =
    let p : T (not r.holds) × (first_broken rs ≡ none) = skipped r.holds r.number (first_broken rs) e in
    (p.0, none_clear rs p.1)

-- the first value, or the second if there is none
abbrev or_else : Option ℕ → Option ℕ → Option ℕ
or_else none b = b
or_else (some a) b = some a

-- a test in front of two tables is in front of the first
some_if_or_else : (b : Bool) (n : ℕ) (p q : Option ℕ) → some_if b n (or_else p q) ≡ or_else (some_if b n p) q
some_if_or_else true n p q = refl
some_if_or_else false n p q = refl

-- the first reason of two tables, one after the other
first_broken-append : (rs ss : List Reason) → first_broken (rs ++ ss) ≡ or_else (first_broken rs) (first_broken ss)
first_broken-append [] ss = refl
first_broken-append (r ∷ rs) ss =
    rw (first_broken-append rs ss) (some_if_or_else r.holds r.number (first_broken rs) (first_broken ss))

-- if no reason of a table holds, those after it decide
pub clear_append : (rs ss : List Reason) → first_broken rs ≡ none → first_broken (rs ++ ss) ≡ first_broken ss
clear_append rs ss e = first_broken-append rs ss ∙ ap (λ (o : Option ℕ). or_else o (first_broken ss)) e

-- if a reason of a table holds, those after it do not count
pub broken_append : (rs ss : List Reason) (n : ℕ) → first_broken rs ≡ some n → first_broken (rs ++ ss) ≡ some n
broken_append rs ss n e = first_broken-append rs ss ∙ ap (λ (o : Option ℕ). or_else o (first_broken ss)) e

-- if no reason of two tables holds, none of the first does
pub append_clear : (rs ss : List Reason) → first_broken (rs ++ ss) ≡ none → first_broken rs ≡ none
append_clear rs ss e = go (first_broken rs) (sym (first_broken-append rs ss) ∙ e)
  where
    go : (o : Option ℕ) → or_else o (first_broken ss) ≡ none → o ≡ none
    go none q = refl
    go (some n) q = let z : ◌≡◌ {A = ℕ} 0 1 = cc in absurd (omega arith)

-- the number of the first reason is one of the table's
pub broken_number : (P : ℕ → Type 0) (rs : List Reason) → All (λ r. P r.number) rs → (n : ℕ) → first_broken rs ≡ some n → P n
broken_number P [] h n e = let z : ◌≡◌ {A = ℕ} 0 1 = cc in absurd (omega arith)
broken_number P (r ∷ rs) h n e = go r.holds e (λ q. broken_number P rs h.1 n q)
  where
    go : (b : Bool) → some_if b r.number (first_broken rs) ≡ some n → (first_broken rs ≡ some n → P n) → P n
    go true q later = let same : r.number ≡ n = cc in subst P same h.0
    go false q later = later q

-- the first k reasons of a table do not hold: those after them decide
abbrev pub KeptTo : ℕ → List Reason → Type 0
KeptTo k rs = first_broken rs ≡ first_broken (drop k rs)

-- a reason that does not hold leaves the answer to the reasons after it
pub unheld_skipped : (o : Option ℕ) (b : Bool) (n : ℕ) (rest : Option ℕ) → o ≡ some_if b n rest → b ≡ false → o ≡ rest
unheld_skipped o b n rest e q = e ∙ ap (λ (x : Bool). some_if x n rest) q
