-- What is collected along a list: where it comes from, one entry more, and how long it is.
use Prim.Native.Nat.{ℕ, suc, ◌+◌, ◌*◌, ◌≤◌, ◌<◌}
use mathlib.Core.Path.{◌≡◌, refl, sym, ◌∙◌, ap, subst}
use mathlib.Core.Logic.{inl, inr}
use mathlib.Core.List.Memᴰ
use mathlib.Core.List.{List, [], ◌∷◌, ◌++◌, append_assoc, append-nil, Memᴰ}
use native.Mathlib.Numerals.{add-one}
use native.Mathlib.Omega.{arith}
use lib.ListN.{length, get_or, take, drop, length-append, take-append-drop}
use lib.Seq.{take-suc}
use Rattle.lists.specs.Lists.{collect}
use Rattle.lists.proofs.Sorted.{All}

module _ {A B : Type 0} where
  -- what is collected comes from the part of some entry
  pub mem_collect : (f : A → List B) (xs : List A) (u : B) → Memᴰ u (collect f xs) → (x : A) × Memᴰ x xs × Memᴰ u (f x)
  mem_collect f [] u m = absurd (Memᴰ.not-nil m)
  mem_collect f (x ∷ xs) u m =
      elim (Memᴰ.append_cases (f x) m) [
        | inl h ↦ (x, Memᴰ.head refl, h)
        | inr h ↦ let r : (y : A) × Memᴰ y xs × Memᴰ u (f y) = mem_collect f xs u h in (r.0, Memᴰ.tail r.1, r.2)
      ]

  -- the part of each entry is collected
  pub collect_mem : (f : A → List B) (xs : List A) (x : A) (u : B) → Memᴰ x xs → Memᴰ u (f x) → Memᴰ u (collect f xs)
  collect_mem f [] x u x4 h = elim x4 [ ]
  collect_mem f (y ∷ ys) x u (Memᴰ.head e) h = Memᴰ.append_left (collect f ys) (subst (λ z. Memᴰ u (f z)) e h)
  collect_mem f (y ∷ ys) x u (Memᴰ.tail m) h = Memᴰ.append_right (f y) (collect_mem f ys x u m h)

-- one entry more of a list is taken
pub take_next : {A : Type 0} (ss : List A) (i : ℕ) (d : A) → i < length ss → take (i + 1) ss ≡ take i ss ++ get_or ss i d ∷ []
take_next ss i d less = ap (λ (k : ℕ). take k ss) (add-one i) ∙ take-suc ss i d less

-- collected along two lists, one after the other
pub collect-append : {A B : Type 0} (f : A → List B) (xs ys : List A) → collect f (xs ++ ys) ≡ collect f xs ++ collect f ys
collect-append f [] ys = refl
collect-append {B = B} f (x ∷ xs) ys =
    ap (λ (r : List B). f x ++ r) (collect-append f xs ys) ∙ sym (append_assoc (f x) (collect f xs) (collect f ys))

module _ {A : Type 0} (f : A → List ℕ) where
  -- one entry more
  pub collect_next : (ss : List A) (i : ℕ) (d : A) → i < length ss
      → collect f (take (i + 1) ss) ≡ collect f (take i ss) ++ f (get_or ss i d)
  collect_next ss i d less =
      ap (λ (r : List A). collect f r) (take_next ss i d less)
      ∙ collect-append f (take i ss) (get_or ss i d ∷ [])
      ∙ ap (λ (r : List ℕ). collect f (take i ss) ++ r) (append-nil (f (get_or ss i d)))

  -- the first entries take no more room than all
  pub collect-take_le : (ss : List A) (i : ℕ) → length (collect f (take i ss)) ≤ length (collect f ss)
  collect-take_le ss i =
      let e : collect f ss ≡ collect f (take i ss) ++ collect f (drop i ss) =
      ap (λ (r : List A). collect f r) (sym (take-append-drop i ss)) ∙ collect-append f (take i ss) (drop i ss) in
      omega (arith, ap length e, length-append (collect f (take i ss)) (collect f (drop i ss)))

  -- the next entry has room where all have
  pub collect_room : (ss : List A) (i : ℕ) (d : A) → i < length ss
      → length (collect f (take i ss)) + length (f (get_or ss i d)) ≤ length (collect f ss)
  collect_room ss i d less =
      omega (arith, collect-take_le ss (i + 1), ap length (collect_next ss i d less), length-append (collect f (take i ss)) (f (get_or ss i d)))

  -- if no entry takes more than m, n of them take no more than n * m
  pub collect-length_le : (m : ℕ) (ss : List A) → All (λ s. length (f s) ≤ m) ss → length (collect f ss) ≤ length ss * m
  collect-length_le m [] h = omega arith
  collect-length_le m (s ∷ ss) h =
      let sum : suc (length ss) * m ≡ length ss * m + m = omega arith in
      omega (arith, length-append (f s) (collect f ss), collect-length_le m ss h.1, h.0)
