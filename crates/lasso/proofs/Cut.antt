-- Cutting: a lasso in which a state before the last stands twice can be made shorter, so the states before the last of a
-- shortest lasso are all different.
use Prim.Native.Nat.{ℕ, zero, suc, ◌+◌, ◌-◌, ◌≤◌, ◌<◌}
use mathlib.Core.Path.{◌≡◌, refl, sym, ◌∙◌}
use mathlib.Core.Logic.{inl, inr}
use mathlib.Core.List.{List}
use mathlib.Core.Bool.{not}
use native.Mathlib.Omega.{arith}
use native.Mathlib.Nat.{le_refl}
use lib.ListN.{length, get_or, take}
use lib.Seq.{get_or-take, length-take-le}
use lib.Dec.{T}
use Rattle.lists.specs.Lists.{differentb}
use Rattle.lasso.specs.Graph.{Graph, edges, acceptingb, lassob}
use Rattle.lists.proofs.Tests.{decide, lt_or_ge, Repeat, not_different_repeats}
use Rattle.lasso.proofs.Walk.{Walk, walk_append, path_segment}
use Rattle.lasso.proofs.Lasso.{Lasso, Knot, AcceptingThrough, walk_ends, knot→lasso, lassob→lasso, accepting_iff}

-- a lasso by walks through q of fewer than n edges
abbrev Shorter : Graph → ℕ → ℕ → Type 0
Shorter g q n = (m : ℕ) × Knot g q m × (m < n)

-- three walks of fewer than n edges in all make such a lasso
shorter : {g : Graph} {q n s a b c : ℕ} → Walk g g.start s a → Walk g s q b → Walk g q s c
    → (1 ≤ b + c) × (a + b + c < n) → Shorter g q n
shorter {s = s} {a = a} {b = b} {c = c} stem there back h =
    (a + b + c, record { knot = s; a = a; b = b; c = c; stem = stem; there = there; back = back; turns = h.0; total = refl }, h.1)

-- In a lasso of n edges with the same state at the places i < j before the last: a shorter lasso by walks.
module _ {g : Graph} {q : ℕ} {xs : List ℕ} (l : Lasso g q xs) (n : ℕ) (long : edges xs ≡ n)
    (i j : ℕ) (order : i < j) (inside : j < n) (same : get_or xs i 0 ≡ get_or xs j 0) where
  -- the part of the lasso from place x to place y, which hold s and t
  part : (x y : ℕ) {s t : ℕ} → get_or xs x 0 ≡ s → get_or xs y 0 ≡ t → (x ≤ y) × (y ≤ n) → Walk g s t (y - x)
  part x y at_x at_y h = walk_ends at_x at_y (path_segment g xs l.path x y h.0 (omega arith))

  -- the last state is the one at k
  closes : get_or xs n 0 ≡ get_or xs l.k 0
  closes = rw (← long) l.closes

  -- both on the stem: leave out what is between them
  cut_stem : j ≤ l.k → Shorter g q n
  cut_stem h =
      shorter
      (walk_append (part 0 i l.starts same (omega arith)) (part j l.k refl refl (omega arith)))
      (part l.k l.r refl l.holds (omega arith))
      (part l.r n l.holds closes (omega arith))
      (omega arith)

  -- one on the stem, the other on the loop: start the loop at the other, from the one on the stem
  cut_across : i < l.k → l.k ≤ j → Shorter g q n
  cut_across h h' = elim (lt_or_ge l.r j) [
    | inl before ↦
        shorter
        (part 0 i l.starts same (omega arith))
        (walk_append (part j n refl closes (omega arith)) (part l.k l.r refl l.holds (omega arith)))
        (part l.r j l.holds refl (omega arith))
        (omega arith)
    | inr after ↦
        shorter
        (part 0 i l.starts same (omega arith))
        (part j l.r refl l.holds (omega arith))
        (walk_append (part l.r n l.holds closes (omega arith)) (part l.k j refl refl (omega arith)))
        (omega arith)
  ]

  -- both on the loop: leave out what is between them, or, if q is between them, take that for the loop
  cut_loop : l.k ≤ i → Shorter g q n
  cut_loop h = elim (lt_or_ge l.r i) [
    | inl before ↦
        shorter
        (part 0 l.k l.starts refl (omega arith))
        (part l.k l.r refl l.holds (omega arith))
        (walk_append (part l.r i l.holds same (omega arith)) (part j n refl closes (omega arith)))
        (omega arith)
    | inr h' ↦ elim (lt_or_ge l.r j) [
      | inl between ↦
          shorter
          (part 0 i l.starts refl (omega arith))
          (part i l.r refl l.holds (omega arith))
          (part l.r j l.holds (sym same) (omega arith))
          (omega arith)
      | inr after ↦
          shorter
          (part 0 l.k l.starts refl (omega arith))
          (walk_append (part l.k i refl same (omega arith)) (part j l.r refl l.holds (omega arith)))
          (part l.r n l.holds closes (omega arith))
          (omega arith)
    ]
  ]

  -- wherever the two places are, there is a shorter lasso
  cut_places : Shorter g q n
  cut_places = elim (lt_or_ge l.k j) [
    | inl h ↦ elim (lt_or_ge i l.k) [ inl h' ↦ cut_across h' (omega arith) | inr h' ↦ cut_loop h' ]
    | inr h ↦ cut_stem h
  ]

-- a state that stands twice among the first n entries does so in the whole list, before place n
repeat_take : (n : ℕ) (xs : List ℕ) → n ≤ length xs → (r : Repeat (take n xs))
    → (r.j < n) × (get_or xs r.i 0 ≡ get_or xs r.j 0)
repeat_take n xs h r =
    let inside : r.j < n = rw (length-take-le n xs h) at r.inside in
    (inside, sym (get_or-take n xs r.i 0 (omega arith)) ∙ r.same ∙ get_or-take n xs r.j 0 inside)

-- a lasso whose states before the last are not all different can be made shorter
pub lasso_cut : {g : Graph} {q : ℕ} {xs : List ℕ} → Lasso g q xs → T (not (differentb (take (edges xs) xs)))
    → (ys : List ℕ) × Lasso g q ys × (edges ys < edges xs)
lasso_cut {g} {q} {xs} l twice =
    let r : Repeat (take (edges xs) xs) = not_different_repeats (take (edges xs) xs) twice in
    let (inside, same) = repeat_take (edges xs) xs (omega arith) r in
    let s : Shorter g q (edges xs) = cut_places l (edges xs) refl r.i r.j r.order inside same in
    let (ys, m, e) = knot→lasso s.1 in
    (ys, m, omega arith)

-- a lasso through q of at most n edges can be made accepting by cutting as often as it takes
cut_all : {g : Graph} {q : ℕ} (n : ℕ) {xs : List ℕ} → Lasso g q xs → edges xs ≤ n
    → (ys : List ℕ) × AcceptingThrough g q ys × (edges ys ≤ edges xs)
cut_all zero l h = absurd (omega arith)
cut_all {g} {q} (suc n) {xs} l h = elim (decide (differentb (take (edges xs) xs))) [
  | inl d ↦ (xs, (l, d), le_refl (edges xs))
  | inr twice ↦
      let (ys, m, less) = lasso_cut l twice in
      let (zs, acc, le) = cut_all n m (omega arith) in
      (zs, acc, omega arith)
]

-- a lasso through q gives an accepting one through q that is no longer
pub lasso_accepting_through : {g : Graph} {q : ℕ} {xs : List ℕ} → Lasso g q xs
    → (ys : List ℕ) × AcceptingThrough g q ys × (edges ys ≤ edges xs)
lasso_accepting_through {xs = xs} l = cut_all (edges xs) l (le_refl (edges xs))

-- a lasso through q that no accepting one through q undercuts is accepting
pub least_lasso_accepting_through : {g : Graph} {q : ℕ} {xs : List ℕ} → Lasso g q xs
    → ((ys : List ℕ) → AcceptingThrough g q ys → edges xs ≤ edges ys) → AcceptingThrough g q xs
least_lasso_accepting_through {xs = xs} l least = elim (decide (differentb (take (edges xs) xs))) [
  | inl d ↦ (l, d)
  | inr twice ↦
      let (ys, m, less) = lasso_cut l twice in
      let (zs, acc, le) = lasso_accepting_through m in
      absurd (omega (arith, least zs acc))
]

-- a lasso gives an accepting path that is no longer
pub lasso_accepting : (g : Graph) (xs : List ℕ) → T (lassob g xs) → (ys : List ℕ) × T (acceptingb g ys) × (edges ys ≤ edges xs)
lasso_accepting g xs h =
    let (q, m, l) = lassob→lasso g xs h in
    let (ys, acc, le) = lasso_accepting_through l in
    (ys, (accepting_iff g ys).1 (q, m, acc), le)

-- a lasso that no accepting path undercuts is an accepting path
pub least_lasso_accepting : (g : Graph) (xs : List ℕ) → T (lassob g xs)
    → ((ys : List ℕ) → T (acceptingb g ys) → edges xs ≤ edges ys) → T (acceptingb g xs)
least_lasso_accepting g xs h least =
    let (q, m, l) = lassob→lasso g xs h in
    (accepting_iff g xs).1 (q, m, least_lasso_accepting_through l (λ ys acc. least ys ((accepting_iff g ys).1 (q, m, acc))))
