-- Dictionary order place by place: the first list of the roll takes the least possible state at each place; the list that
-- follows another agrees with it up to some place, has there the least possible greater state, and takes the least
-- possible state at each later place.
use Prim.Native.Nat.{ℕ, zero, suc, ◌≤◌, ◌<◌}
use native.Mathlib.Omega.{arith}
use mathlib.Core.Path.{◌≡◌, refl, sym, ◌∙◌, subst}
use mathlib.Core.Logic.{◌⊎◌, inl, inr}
use mathlib.Core.Option.{some, none}
use mathlib.Core.List.{List, [], ◌∷◌, ◌++◌, head?, Memᴰ}
use lib.ListN.{length, get_or, take, drop}
use lib.Seq.{split_at, append_snoc}
use lib.Dec.{T}
use Rattle.lists.proofs.Places.{take_same}
use Rattle.lasso.specs.Graph.{Graph, WellFormed, edges, lassob}
use Rattle.lasso.specs.Roll.{least_length, roll}
use Rattle.lasso.specs.Following.{following}
use Rattle.lasso.specs.Extends.{Extends}
use Rattle.lasso.specs.Shown.{Differ, OrderShown}
use Rattle.lists.proofs.Tests.{eq_or_apart, lt_or_ge}
use Rattle.lasso.proofs.OrderLaws.{Before, before_head, before_tail, before_cases, before_total, head_least, following_least, following_none}
use Rattle.lasso.proofs.RollLaws.{roll_strict, roll-length, roll_lasso, lasso_in_roll, lasso_length}

-- of two lists in dictionary order the first has the smaller entry where they first differ
pub before_differ : (xs ys : List ℕ) → Before xs ys → Differ xs ys
before_differ [] ys h = absurd h
before_differ (x ∷ xs) [] h = absurd h
before_differ (x ∷ xs) (y ∷ ys) h =
    elim (before_cases x y xs ys h) [
      | inl l ↦ record { place = 0; in_first = omega arith; in_second = omega arith; same = refl; less = l }
      | inr r ↦
          let d : Differ xs ys = before_differ xs ys r.1 in
          let e : x ≡ y = r.0 in
          let s : take d.place xs ≡ take d.place ys = d.same in
          record { place = suc d.place; in_first = omega arith; in_second = omega arith; same = cc; less = d.less }
    ]

-- a smaller entry where two lists first differ puts the first list before the second
pub differ_before : (xs ys : List ℕ) (j : ℕ) → j < length xs → j < length ys → take j xs ≡ take j ys → get_or xs j 0 < get_or ys j 0 → Before xs ys
differ_before [] ys j p q e l = absurd (omega arith)
differ_before (x ∷ xs) [] j p q e l = absurd (omega arith)
differ_before (x ∷ xs) (y ∷ ys) zero p q e l = before_head x y xs ys l
differ_before (x ∷ xs) (y ∷ ys) (suc j) p q e l = before_tail x y xs ys (cc) (differ_before xs ys j (omega arith) (omega arith) (cc) l)

-- what dictionary order is
pub order_shown : OrderShown
order_shown xs ys = record {
  by_place = (before_differ xs ys, λ d. differ_before xs ys d.place d.in_first d.in_second d.same d.less);
  total = before_total xs ys;
}

-- a list between two lists that agree up to place j differs from one of them after j, or from both at j
pub between_places : (xs ys zs : List ℕ) (j : ℕ) → take j ys ≡ take j xs → (a : Differ xs zs) (d : Differ zs ys)
    → (j < a.place) ⊎ ((j < d.place) ⊎ ((a.place ≡ j) × (d.place ≡ j)))
between_places xs ys zs j same a d =
    elim (lt_or_ge j a.place) [
      | inl p ↦ inl p
      | inr p ↦
          elim (lt_or_ge j d.place) [
            | inl q ↦ inr (inl q)
            | inr q ↦
                elim (eq_or_apart a.place d.place) [
                  | inl e ↦
                      elim (lt_or_ge a.place j) [
                        | inl s ↦
                            absurd (omega (arith, take_same ys xs j a.place same s, subst (λ (k : ℕ). get_or zs k 0 < get_or ys k 0) (sym e) d.less))
                        | inr s ↦ inr (inr (omega arith))
                      ]
                  | inr (inl s) ↦ absurd (omega (arith, take_same ys xs j a.place same (omega arith), take_same zs ys d.place a.place d.same s))
                  | inr (inr s) ↦ absurd (omega (arith, take_same ys xs j d.place same (omega arith), take_same xs zs a.place d.place a.same s))
                ]
          ]
    ]

-- a lasso of l edges extends each of its beginnings
pub lasso_extends : (g : Graph) (l : ℕ) (zs : List ℕ) → T (lassob g zs) → edges zs ≡ l → (j : ℕ) → j < length zs → Extends g l (take j zs ++ get_or zs j 0 ∷ [])
lasso_extends g l zs h e j p =
    let q : zs ≡ (take j zs ++ get_or zs j 0 ∷ []) ++ drop (suc j) zs = split_at zs j 0 p ∙ sym (append_snoc (take j zs) (get_or zs j 0) (drop (suc j) zs)) in
    (drop (suc j) zs, subst (λ (ys : List ℕ). T (lassob g ys)) q h, subst (λ (ys : List ℕ). edges ys ≡ l) q e)

-- The roll of a graph with least length l.
module _ (g : Graph) (w : WellFormed g) (l : ℕ) (least : least_length g ≡ some l) where
  -- a list of the roll extends the entries that it shares with another list by its own next entry
  roll_extends : (xs zs : List ℕ) (j : ℕ) → Memᴰ zs (roll g) → j < length zs → take j zs ≡ take j xs → Extends g l (take j xs ++ get_or zs j 0 ∷ [])
  roll_extends xs zs j m p e =
      let r : T (lassob g zs) × (edges zs ≡ l) = roll_lasso g l least zs m in
      subst (λ (ys : List ℕ). Extends g l (ys ++ get_or zs j 0 ∷ [])) e (lasso_extends g l zs r.0 r.1 j p)

  -- a lasso of least length is the first of the roll if at no place a smaller state could stand
  pub first_of-roll : (xs : List ℕ) → T (lassob g xs) → edges xs ≡ l
      → ((j y : ℕ) → j ≤ l → y < get_or xs j 0 → Extends g l (take j xs ++ y ∷ []) → ⊥)
      → head? (roll g) ≡ some xs
  first_of-roll xs h e no_less = head_least (roll g) xs (roll_strict g) (lasso_in_roll g w l least xs h e) none_before
    where
      none_before : (zs : List ℕ) → Memᴰ zs (roll g) → Before zs xs → ⊥
      none_before zs m b =
          let d : Differ zs xs = before_differ zs xs b in
          no_less d.place (get_or zs d.place 0) (omega (arith, lasso_length g l xs h e)) d.less (roll_extends xs zs d.place m d.in_first d.same)

  -- nothing follows a list of the roll if at no place a greater state could stand
  pub last_of-roll : (xs : List ℕ) → Memᴰ xs (roll g)
      → ((i y : ℕ) → i ≤ l → get_or xs i 0 < y → Extends g l (take i xs ++ y ∷ []) → ⊥)
      → following xs (roll g) ≡ none
  last_of-roll xs m no-greater = following_none (roll g) xs (roll_strict g) m none_after
    where
      none_after : (zs : List ℕ) → Memᴰ zs (roll g) → Before xs zs → ⊥
      none_after zs n b =
          let d : Differ xs zs = before_differ xs zs b in
          no-greater d.place (get_or zs d.place 0) (omega (arith, roll-length g l least xs m)) d.less (roll_extends xs zs d.place n d.in_second (sym d.same))

  -- A lasso of least length follows a list of the roll if they agree up to a place j, where it has a greater state with no
  -- possible state between, if at no later place it could have a smaller state, and if at no later place the list of the
  -- roll could have a greater one.
  pub next_of_roll : (xs ys : List ℕ) (j : ℕ) → Memᴰ xs (roll g) → T (lassob g ys) → edges ys ≡ l
      → j ≤ l → take j ys ≡ take j xs → get_or xs j 0 < get_or ys j 0
      → ((y : ℕ) → get_or xs j 0 < y → y < get_or ys j 0 → Extends g l (take j xs ++ y ∷ []) → ⊥)
      → ((i y : ℕ) → j < i → i ≤ l → y < get_or ys i 0 → Extends g l (take i ys ++ y ∷ []) → ⊥)
      → ((i y : ℕ) → j < i → i ≤ l → get_or xs i 0 < y → Extends g l (take i xs ++ y ∷ []) → ⊥)
      → following xs (roll g) ≡ some ys
  next_of_roll xs ys j m h e inside same less no-between no_less no-greater =
      following_least (roll g) xs ys (roll_strict g) m (lasso_in_roll g w l least ys h e)
      (differ_before xs ys j (omega (arith, long_xs)) (omega (arith, long_ys)) (sym same) less) none_between
    where
      long_xs : length xs ≡ suc l
      long_xs = roll-length g l least xs m

      long_ys : length ys ≡ suc l
      long_ys = lasso_length g l ys h e

      none_between : (zs : List ℕ) → Memᴰ zs (roll g) → Before xs zs → Before zs ys → ⊥
      none_between zs n b c =
          let a : Differ xs zs = before_differ xs zs b in
          let d : Differ zs ys = before_differ zs ys c in
          elim (between_places xs ys zs j same a d) [
            | inl p ↦ no-greater a.place (get_or zs a.place 0) p (omega (arith, long_xs)) a.less (roll_extends xs zs a.place n a.in_second (sym a.same))
            | inr (inl p) ↦ no_less d.place (get_or zs d.place 0) p (omega (arith, long_ys)) d.less (roll_extends ys zs d.place n d.in_first d.same)
            | inr (inr (p, q)) ↦
                no-between (get_or zs j 0) (subst (λ (k : ℕ). get_or xs k 0 < get_or zs k 0) p a.less) (subst (λ (k : ℕ). get_or zs k 0 < get_or ys k 0) q d.less)
                (subst (λ (k : ℕ). Extends g l (take k xs ++ get_or zs k 0 ∷ [])) p (roll_extends xs zs a.place n a.in_second (sym a.same)))
          ]
