-- Plain functions on lists and numbers.
use Rattle.std.specs.Prelude.{ℕ, zero, suc, Bool, true, false, ◌&&◌, ◌||◌, not, List, [], ◌∷◌, ◌++◌, eqb, ltb}
use Rattle.std.proofs.Math.Option.{Option, some, none}

-- x is an entry of the list
abbrev pub memb : ℕ → List ℕ → Bool
memb x [] = false
memb x (y ∷ ys) = eqb x y || memb x ys

-- all entries are different
abbrev pub differentb : List ℕ → Bool
differentb [] = true
differentb (x ∷ xs) = not (memb x xs) && differentb xs

-- each entry is less than the next
abbrev pub ascendingb : List ℕ → Bool
ascendingb [] = true
ascendingb (x ∷ []) = true
ascendingb (x ∷ y ∷ ys) = ltb x y && ascendingb (y ∷ ys)

-- some entry passes the test
abbrev pub anyb : {A : Type 0} → (A → Bool) → List A → Bool
anyb p [] = false
anyb p (x ∷ xs) = p x || anyb p xs

-- the first answer if the test was passed, else the second
abbrev pub pick : {A : Type 0} → Bool → A → A → A
pick true a b = a
pick false a b = b

-- x in front of the list if the test was passed
abbrev pub cons_if : {A : Type 0} → Bool → A → List A → List A
cons_if true x xs = x ∷ xs
cons_if false x xs = xs

-- the entries that pass the test, in their order
abbrev pub keep : {A : Type 0} → (A → Bool) → List A → List A
keep p [] = []
keep p (x ∷ xs) = cons_if (p x) x (keep p xs)

-- the lists that f gives for the entries, one after another
abbrev pub collect : {A B : Type 0} → (A → List B) → List A → List B
collect f [] = []
collect f (x ∷ xs) = f x ++ collect f xs

-- the n numbers a, a + 1, ..
abbrev pub up_from : ℕ → ℕ → List ℕ
up_from a zero = []
up_from a (suc n) = a ∷ up_from (suc a) n

-- the numbers below n, ascending
abbrev pub below : ℕ → List ℕ
below n = up_from 0 n

-- x if the test was passed, else the other answer
abbrev pub some_if : {A : Type 0} → Bool → A → Option A → Option A
some_if true x other = some x
some_if false x other = other

-- the least of the n numbers a, a + 1, .. that passes the test, if one does
abbrev pub seek : (ℕ → Bool) → ℕ → ℕ → Option ℕ
seek p a zero = none
seek p a (suc n) = let later : Option ℕ = seek p (suc a) n in some_if (p a) a later

-- there is a value
abbrev pub is_some : {A : Type 0} → Option A → Bool
is_some none = false
is_some (some x) = true

-- the list has an entry
abbrev pub non_emptyb : {A : Type 0} → List A → Bool
non_emptyb [] = false
non_emptyb (x ∷ xs) = true

-- the first place that holds x, counted from 0; the number of entries if none does
abbrev pub place_of : ℕ → List ℕ → ℕ
place_of x [] = 0
place_of x (y ∷ ys) = pick (eqb x y) 0 (suc (place_of x ys))
