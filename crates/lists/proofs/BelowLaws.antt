-- Laws of the numbers of a range: how many there are, one number more, and a table of their images.
use Prim.Native.Nat.{ℕ, zero, suc, ◌+◌, ◌<◌}
use mathlib.Core.Path.{◌≡◌, refl, ap, ◌∙◌}
use mathlib.Core.List.{List, [], ◌∷◌, ◌++◌, map}
use native.Mathlib.Omega.{arith}
use native.Mathlib.Numerals.{add-one}
use lib.ListN.{length, get_or, length-map}
use Rattle.lists.specs.Lists.{up_from, below}

-- a range has as many numbers as asked
pub up_from-length : (a n : ℕ) → length (up_from a n) ≡ n
up_from-length a zero = refl
up_from-length a (suc n) = ap suc (up_from-length (suc a) n)

-- a longer range has one number more at its end
pub up_from_next : (a n b : ℕ) → a + n ≡ b → up_from a (suc n) ≡ up_from a n ++ b ∷ []
up_from_next a zero b e = let q : a ≡ b = omega arith in rw q
up_from_next a (suc n) b e = ap (λ (r : List ℕ). a ∷ r) (up_from_next (suc a) n b (omega arith))

-- the numbers below s + 1 are those below s, and s
pub below_next : (s : ℕ) → below (s + 1) ≡ below s ++ s ∷ []
below_next s = ap (λ (k : ℕ). below k) (add-one s) ∙ up_from_next 0 s s (omega arith)

-- the images along two lists, one after the other
pub map-append : {A B : Type 0} (f : A → B) (xs ys : List A) → map f (xs ++ ys) ≡ map f xs ++ map f ys
map-append f [] ys = refl
map-append {B = B} f (x ∷ xs) ys = ap (λ (r : List B). f x ∷ r) (map-append f xs ys)

-- the image at a place of a table of a range
map-up_from_at : (f : ℕ → ℕ) (a n k i : ℕ) → k < n → a + k ≡ i → get_or (map f (up_from a n)) k 0 ≡ f i
map-up_from_at f a zero k i h e = absurd (omega arith)
map-up_from_at f a (suc n) zero i h e = let q : a ≡ i = omega arith in ap f q
map-up_from_at f a (suc n) (suc k) i h e = map-up_from_at f (suc a) n k i (omega arith) (omega arith)

-- a table of the numbers below n has n entries
pub map-below-length : (f : ℕ → ℕ) (n : ℕ) → length (map f (below n)) ≡ n
map-below-length f n = length-map (below n) f ∙ up_from-length 0 n

-- the image at a place of a table of the numbers below n
pub map-below_at : (f : ℕ → ℕ) (n k : ℕ) → k < n → get_or (map f (below n)) k 0 ≡ f k
map-below_at f n k h = map-up_from_at f 0 n k k h (omega arith)

-- the table of one number more
pub map-below_next : {B : Type 0} (f : ℕ → B) (s : ℕ) → map f (below (s + 1)) ≡ map f (below s) ++ f s ∷ []
map-below_next {B} f s = ap (λ (r : List ℕ). map f r) (below_next s) ∙ map-append f (below s) (s ∷ [])
