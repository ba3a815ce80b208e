-- Lists whose every entry has a property, and lists in which each entry stands in a relation to all later ones:
-- ascending numbers, and lists in dictionary order.
use Prim.Native.Nat.{ℕ, zero, suc, ◌<◌}
use native.Mathlib.Omega.{arith}
use mathlib.Core.Path.{refl, sym, subst}
use mathlib.Core.Bool.{Bool, true, false}
use mathlib.Core.List.{List, [], ◌∷◌, ◌++◌, map, Memᴰ}
use lib.ListN.{length, get_or, take, drop}
use Rattle.lists.specs.Lists.{cons_if, keep, up_from, collect}

-- every entry has the property
abbrev pub All : {A : Type 0} → (A → Type 0) → List A → Type 0
All P [] = Unit {0}
All P (x ∷ xs) = P x × All P xs

-- each entry stands in the relation to every later one
abbrev pub Sorted : {A : Type 0} → (A → A → Type 0) → List A → Type 0
Sorted R [] = Unit {0}
Sorted R (x ∷ xs) = All (R x) xs × Sorted R xs

module _ {A : Type 0} where
  -- what every entry has, an entry has
  pub all_mem : (P : A → Type 0) (x : A) (xs : List A) → All P xs → Memᴰ x xs → P x
  all_mem P x [] h x3 = elim x3 [ ]
  all_mem P x (y ∷ ys) h (Memᴰ.head e) = subst P (sym e) h.0
  all_mem P x (y ∷ ys) h (Memᴰ.tail m) = all_mem P x ys h.1 m

  -- what each entry has, every entry has
  pub all_of_mem : (P : A → Type 0) (xs : List A) → ((x : A) → Memᴰ x xs → P x) → All P xs
  all_of_mem P [] h = tt
  all_of_mem P (y ∷ ys) h = (h y (Memᴰ.head refl), all_of_mem P ys (λ x m. h x (Memᴰ.tail m)))

  -- what everything has, every entry has
  pub all_every : (P : A → Type 0) (xs : List A) → ((x : A) → P x) → All P xs
  all_every P xs h = all_of_mem P xs (λ x m. h x)

  -- what the entry at each place has, every entry has
  pub all_places : (P : A → Type 0) (d : A) (xs : List A) → ((j : ℕ) → j < length xs → P (get_or xs j d)) → All P xs
  all_places P d [] h = tt
  all_places P d (x ∷ xs) h = (h 0 (omega arith), all_places P d xs (λ j l. h (suc j) (omega arith)))

  -- what every entry has, the entry at a place has
  pub all_at : (P : A → Type 0) (d : A) (xs : List A) → All P xs → (j : ℕ) → j < length xs → P (get_or xs j d)
  all_at P d [] h j l = absurd (omega arith)
  all_at P d (x ∷ xs) h zero l = h.0
  all_at P d (x ∷ xs) h (suc j) l = all_at P d xs h.1 j (omega arith)

  -- both parts have it, the whole has it
  pub all_append : (P : A → Type 0) (xs ys : List A) → All P xs → All P ys → All P (xs ++ ys)
  all_append P [] ys h k = k
  all_append P (x ∷ xs) ys h k = (h.0, all_append P xs ys h.1 k)

  -- what every entry has, every kept entry has
  pub all_keep : (P : A → Type 0) (p : A → Bool) (xs : List A) → All P xs → All P (keep p xs)
  all_keep P p [] h = tt
  all_keep P p (x ∷ xs) h = elim (p x) as (λ b. All P (cons_if b x (keep p xs))) [ true ↦ (h.0, all_keep P p xs h.1) | false ↦ all_keep P p xs h.1 ]

  -- of two places of a sorted list the earlier one stands in the relation to the later one
  pub sorted_at : (R : A → A → Type 0) (d : A) (xs : List A) → Sorted R xs → (i j : ℕ) → i < j → j < length xs
      → R (get_or xs i d) (get_or xs j d)
  sorted_at R d [] h i j less l = absurd (omega arith)
  sorted_at R d (x ∷ xs) h i zero less l = absurd (omega arith)
  sorted_at R d (x ∷ xs) h zero (suc j) less l = all_at (R x) d xs h.0 j (omega arith)
  sorted_at R d (x ∷ xs) h (suc i) (suc j) less l = sorted_at R d xs h.1 i j (omega arith) (omega arith)

  -- what is kept of a sorted list is sorted
  pub sorted_keep : (R : A → A → Type 0) (p : A → Bool) (xs : List A) → Sorted R xs → Sorted R (keep p xs)
  sorted_keep R p [] h = tt
  sorted_keep R p (x ∷ xs) h =
      elim (p x) as (λ b. Sorted R (cons_if b x (keep p xs))) [ true ↦ (all_keep (R x) p xs h.0, sorted_keep R p xs h.1) | false ↦ sorted_keep R p xs h.1 ]

  -- two sorted lists one after the other are sorted if every entry of the first stands in the relation to every entry
  -- of the second
  pub sorted_append : (R : A → A → Type 0) (xs ys : List A) → Sorted R xs → Sorted R ys → All (λ x. All (R x) ys) xs → Sorted R (xs ++ ys)
  sorted_append R [] ys h k r = k
  sorted_append R (x ∷ xs) ys h k r = (all_append (R x) xs ys h.0 r.0, sorted_append R xs ys h.1 k r.1)

module _ {A B : Type 0} where
  -- what the image of every entry has, every entry of the image has
  pub all_map : (P : B → Type 0) (f : A → B) (xs : List A) → All (λ x. P (f x)) xs → All P (map f xs)
  all_map P f [] h = tt
  all_map P f (x ∷ xs) h = (h.0, all_map P f xs h.1)

  -- a map that keeps the relation keeps a list sorted
  pub sorted_map : (R : A → A → Type 0) (S : B → B → Type 0) (f : A → B) (xs : List A) → ((x y : A) → R x y → S (f x) (f y)) → Sorted R xs → Sorted S (map f xs)
  sorted_map R S f [] k h = tt
  sorted_map R S f (x ∷ xs) k h = (all_map (S (f x)) f xs (all_of_mem (λ y. S (f x) (f y)) xs (λ y m. k x y (all_mem (R x) y xs h.0 m))), sorted_map R S f xs k h.1)

  -- what all parts have, the lists collected from them have
  pub all_collect : (P : B → Type 0) (f : A → List B) (xs : List A) → All (λ x. All P (f x)) xs → All P (collect f xs)
  all_collect P f [] h = tt
  all_collect P f (x ∷ xs) h = all_append P (f x) (collect f xs) h.0 (all_collect P f xs h.1)

  -- lists collected along a sorted list are sorted if each part is, and parts of related entries are related
  pub sorted_collect : (R : A → A → Type 0) (S : B → B → Type 0) (f : A → List B) (xs : List A) → ((x : A) → Sorted S (f x)) → ((x y : A) → R x y → All (λ u. All (S u) (f y)) (f x)) → Sorted R xs → Sorted S (collect f xs)
  sorted_collect R S f [] k r h = tt
  sorted_collect R S f (x ∷ xs) k r h =
      sorted_append S (f x) (collect f xs) (k x) (sorted_collect R S f xs k r h.1)
      (all_of_mem (λ u. All (S u) (collect f xs)) (f x)
      (λ u m. all_collect (S u) f xs (all_of_mem (λ y. All (S u) (f y)) xs
      (λ y n. all_mem (λ v. All (S v) (f y)) u (f x) (r x y (all_mem (R x) y xs h.0 n)) m))))

-- the numbers from a on are greater than every number below a
pub all_up_from : (b a n : ℕ) → b < a → All (λ x. b < x) (up_from a n)
all_up_from b a zero h = tt
all_up_from b a (suc n) h = (h, all_up_from b (suc a) n (omega arith))

-- the numbers from a on ascend
pub up_from_ascends : (a n : ℕ) → Sorted (λ (x y : ℕ). x < y) (up_from a n)
up_from_ascends a zero = tt
up_from_ascends a (suc n) = (all_up_from a (suc a) n (omega arith), up_from_ascends (suc a) n)

module _ {A : Type 0} (P : A → Type 0) where
  -- what every entry has, the first ones have
  pub all_take : (n : ℕ) (xs : List A) → All P xs → All P (take n xs)
  all_take zero xs h = tt
  all_take (suc n) [] h = tt
  all_take (suc n) (x ∷ xs) h = (h.0, all_take n xs h.1)

  -- what every entry has, the others have
  pub all_drop : (n : ℕ) (xs : List A) → All P xs → All P (drop n xs)
  all_drop zero xs h = h
  all_drop (suc n) [] h = tt
  all_drop (suc n) (x ∷ xs) h = all_drop n xs h.1

-- what all entries of a list have follows from what they have
pub all_weaker : {A : Type 0} (P Q : A → Type 0) (xs : List A) → ((x : A) → P x → Q x) → All P xs → All Q xs
all_weaker P Q [] h a = tt
all_weaker P Q (x ∷ xs) h a = (h x a.0, all_weaker P Q xs h a.1)
