-- What a place of a list holds: an entry, or none past the end.
use Prim.Native.Nat.{ℕ, zero, suc, ◌≤◌, ◌<◌}
use mathlib.Core.Path.{◌≡◌, refl, sym, ap}
use mathlib.Core.Logic.{◌↔◌}
use mathlib.Core.List.Memᴰ
use mathlib.Core.List.{List, [], ◌∷◌, ◌++◌, Memᴰ}
use mathlib.Core.Option.{some, none}
use native.Mathlib.Omega.{arith}
use lib.ListN.{length, get_or, take, get_elem?}

-- a place that holds an entry is a place of the list
pub get_elem_lt : {A : Type 0} {x : A} (xs : List A) (i : ℕ) → get_elem? xs i ≡ some x → i < length xs
get_elem_lt [] i e = let z : ◌≡◌ {A = ℕ} 0 1 = cc in absurd (omega arith)
get_elem_lt (y ∷ ys) zero e = omega arith
get_elem_lt (y ∷ ys) (suc i) e = omega (arith, get_elem_lt ys i e)

-- a place holds none exactly if it is past the end
pub get_elem_none : {A : Type 0} (xs : List A) (i : ℕ) → (get_elem? xs i ≡ none) ↔ (length xs ≤ i)
get_elem_none [] i = (λ e. omega arith, λ e. refl)
get_elem_none (x ∷ xs) zero = (λ e. let z : ◌≡◌ {A = ℕ} 0 1 = cc in omega arith, λ e. absurd (omega arith))
get_elem_none (x ∷ xs) (suc i) =
    let (to, from) = get_elem_none xs i in
    (λ e. omega (arith, to e), λ e. from (omega arith))

-- a place of the list holds its entry, whatever stands for none
pub get_elem_some : {A : Type 0} (xs : List A) (i : ℕ) (d : A) → i < length xs → get_elem? xs i ≡ some (get_or xs i d)
get_elem_some [] i d l = absurd (omega arith)
get_elem_some (x ∷ xs) zero d l = refl
get_elem_some (x ∷ xs) (suc i) d l = get_elem_some xs i d (omega arith)

-- what a place holds is the entry there, whatever stands for none
pub get_elem_get_d : {A : Type 0} {x : A} (xs : List A) (i : ℕ) (d : A) → get_elem? xs i ≡ some x → get_or xs i d ≡ x
get_elem_get_d [] i d e = let z : ◌≡◌ {A = ℕ} 0 1 = cc in absurd (omega arith)
get_elem_get_d (y ∷ ys) zero d e = cc
get_elem_get_d (y ∷ ys) (suc i) d e = get_elem_get_d ys i d e

-- what a place holds is an entry
pub get_elem_mem : {A : Type 0} {x : A} (xs : List A) (i : ℕ) → get_elem? xs i ≡ some x → Memᴰ x xs
get_elem_mem [] i e = let z : ◌≡◌ {A = ℕ} 0 1 = cc in absurd (omega arith)
get_elem_mem {A} {x} (y ∷ ys) zero e = let q : x ≡ y = cc in Memᴰ.head q
get_elem_mem (y ∷ ys) (suc i) e = Memᴰ.tail (get_elem_mem ys i e)

-- an entry is what some place holds
pub mem_get_d : {A : Type 0} {x : A} (xs : List A) (d : A) → Memᴰ x xs → (i : ℕ) × (i < length xs) × (get_or xs i d ≡ x)
mem_get_d [] d m = absurd (Memᴰ.not-nil m)
mem_get_d (y ∷ ys) d (Memᴰ.head e) = (0, omega arith, sym e)
mem_get_d (y ∷ ys) d (Memᴰ.tail m) = let (i, low, at) = mem_get_d ys d m in (suc i, omega arith, at)

-- one more entry of a list is the one at the next place
pub take_get_elem : {A : Type 0} {x : A} (xs : List A) (i : ℕ) → get_elem? xs i ≡ some x → take (suc i) xs ≡ take i xs ++ x ∷ []
take_get_elem [] i e = let z : ◌≡◌ {A = ℕ} 0 1 = cc in absurd (omega arith)
take_get_elem (y ∷ ys) zero e = cc
take_get_elem {A} (y ∷ ys) (suc i) e = ap (λ (zs : List A). y ∷ zs) (take_get_elem ys i e)
