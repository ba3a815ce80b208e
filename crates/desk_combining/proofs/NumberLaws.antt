-- The program's output suffices for every combination: 15 never holds where 18 does not.
use Prim.Native.Nat.{ℕ, ◌≤◌}
use mathlib.Core.Path.{◌≡◌, refl, sym, ◌∙◌, subst}
use mathlib.Core.Bool.{Bool, true, false, not}
use mathlib.Core.Logic.{◌⊎◌, inl, inr}
use mathlib.Core.List.{List}
use mathlib.Core.Option.{Option, some, none}
use native.Mathlib.Omega.{arith}
use borrow.Author.Tests.{le-ltb}
use lib.ListN.{length, drop}
use lib.Dec.{T, ltb, nltb→le}
use Rattle.lasso.specs.Graph.{Graph}
use Rattle.numbers.specs.Limits.{output_bytes}
use Rattle.format.specs.Layout.{states}
use Rattle.format.specs.Rules.{first_broken, rules}
use Rattle.lists.proofs.Fails.{false_not, neither_l, neither_r}
use Rattle.format.proofs.Reasons.{clear_append, broken_append, broken_number}
use Rattle.outcomes.specs.Outcome.{Outcome, refused, answered, outcome}
use Rattle.writer.specs.File.{edge_total, file_of}
use Rattle.writer.proofs.FileLaws.{file_length_is}
use Rattle.property.specs.Property.{bad_property}
use Rattle.combine_graph.specs.Combined.{combined}
use Rattle.combine_outcome.specs.Combination.{combined_file}
use Rattle.combine.specs.Combine.{bad_letters, too_large, combine_reasons, combine_broken, combine_outcome}
use Rattle.combine_outcome.proofs.ReasonLaws.{first_behind}
use Rattle.desk_combining.specs.Combining.{NumberFits}
use Rattle.desk_combining.specs.Sizes.{RefusedNumbers}

-- a model that is not too large has a file that the output holds
file_fits : (g : Graph) → too_large g ≡ false → length (file_of g) ≤ output_bytes
file_fits g e =
    let within : T (not (too_large g)) = false_not (too_large g) e in
    let few = nltb→le 4096 g.size (neither_l (ltb 4096 g.size) (ltb 8192 (edge_total g)) within) in
    let fewer = nltb→le 8192 (edge_total g) (neither_r (ltb 4096 g.size) (ltb 8192 (edge_total g)) within) in
    omega (arith, file_length_is g)

-- so 15 does not hold
output_suffices : (g : Graph) → too_large g ≡ false → ltb output_bytes (length (file_of g)) ≡ false
output_suffices g e = le-ltb output_bytes (length (file_of g)) (file_fits g e)

-- the reasons after the rule's own are 16 to 18
behind_number : (letters property large short : Bool) → (large ≡ false → short ≡ false) → (n : ℕ)
    → first_behind letters property large short ≡ some n → (16 ≤ n) × (n ≤ 18)
behind_number true property large short fits n e = let same : ◌≡◌ {A = ℕ} 16 n = cc in omega arith
behind_number false true large short fits n e = let same : ◌≡◌ {A = ℕ} 17 n = cc in omega arith
behind_number false false true short fits n e = let same : ◌≡◌ {A = ℕ} 18 n = cc in omega arith
behind_number false false false true fits n e = let z : ◌≡◌ {A = Bool} true false = fits refl in absurd (subst T z tt)
behind_number false false false false fits n e = let z : ◌≡◌ {A = ℕ} 0 1 = cc in absurd (omega arith)

-- the first reason to refuse a combination
broken_numbers : (f letters p : List ℕ) (n : ℕ) → combine_broken f letters p output_bytes ≡ some n
    → ((1 ≤ n) × (n ≤ 11)) ⊎ ((16 ≤ n) × (n ≤ 18))
unfolding combined_file
broken_numbers f letters p n e = go (first_broken (rules f)) refl
  where
    go : (o : Option ℕ) → first_broken (rules f) ≡ o → ((1 ≤ n) × (n ≤ 11)) ⊎ ((16 ≤ n) × (n ≤ 18))
    go (some m) q =
        let first : some m ≡ some n = sym (broken_append (rules f) (drop 11 (combine_reasons f letters p output_bytes)) m q) ∙ e in
        let same : m ≡ n = cc in
        inl (broken_number (λ k. (1 ≤ k) × (k ≤ 11)) (rules f) (omega arith) n (q ∙ first))
    go none q =
        let g : Graph = combined f letters p in
        inr (behind_number (bad_letters (states f) letters) (bad_property p) (too_large g) (ltb output_bytes (length (file_of g))) (output_suffices g) n
        (sym (clear_append (rules f) (drop 11 (combine_reasons f letters p output_bytes)) q) ∙ e))

-- only 1 to 11 and 16 to 18 are printed after `refused`
pub refused_numbers : RefusedNumbers
refused_numbers f letters p n e = go (combine_broken f letters p output_bytes) refl e
  where
    go : (o : Option ℕ) → combine_broken f letters p output_bytes ≡ o → outcome o (length (combined_file f letters p)) ≡ refused n
        → ((1 ≤ n) × (n ≤ 11)) ⊎ ((16 ≤ n) × (n ≤ 18))
    go (some m) q t = let same : m ≡ n = cc in subst (λ (k : ℕ). ((1 ≤ k) × (k ≤ 11)) ⊎ ((16 ≤ k) × (k ≤ 18))) same (broken_numbers f letters p m q)
    go none q t = let z : ◌≡◌ {A = ℕ} 0 1 = cc in absurd (omega arith)

-- so the number of a refusal has at most four digits
pub number_fits : (f letters p out : List ℕ) (o : Outcome ℕ) → length out ≡ output_bytes → o ≡ combine_outcome f letters p (length out) → NumberFits o
number_fits f letters p out (answered bytes) long e = tt
number_fits f letters p out (refused n) long e =
    elim (refused_numbers f letters p n (sym (subst (λ (k : ℕ). refused n ≡ combine_outcome f letters p k) long e))) [
      | inl early ↦ omega arith
      | inr late ↦ omega arith
    ]
