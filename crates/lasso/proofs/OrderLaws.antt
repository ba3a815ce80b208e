-- Dictionary order is a strict order, total on lists of one length; all lists of a length stand in that order, each
-- once; and what the first list and the following list of an ordered roll are.
use Prim.Native.Nat.{ℕ, zero, suc, ◌<◌}
use native.Mathlib.Omega.{arith}
use native.Mathlib.Nat.{suc_inj}
use mathlib.Core.Path.{◌≡◌, refl, sym, ap, subst}
use mathlib.Core.Logic.{◌⊎◌, inl, inr, ◌↔◌}
use mathlib.Core.Bool.{Bool, true, false, ◌&&◌}
use mathlib.Core.Option.{some, none}
use mathlib.Core.List.Memᴰ
use mathlib.Core.List.{List, [], ◌∷◌, map, head?, Memᴰ}
use lib.ListN.{length, get_or, get_elem?}
use lib.Dec.{T, eqb, ltb, eqb→eq, eqb_refl, ltb→lt, lt→ltb, not_T}
use Rattle.lists.specs.Lists.{pick, below}
use Rattle.lasso.specs.Order.{beforeb, all_lists}
use Rattle.lasso.specs.Following.{sameb, following}
use Rattle.lists.proofs.Tests.{fst, snd, both, either, or_l, or_r, T_true, T_false, eq→eqb, eq_or_apart, head_mem, get_d_mem, head_at, below_lt, lt_below}
use Rattle.lists.proofs.CollectLaws.{mem_collect, collect_mem}
use Rattle.lists.proofs.Sorted.{All, Sorted, all_mem, all_every, all_map, sorted_map, sorted_collect, up_from_ascends}

-- the first list stands before the second in dictionary order
abbrev pub Before : List ℕ → List ℕ → Type 0
Before xs ys = T (beforeb xs ys)

-- a smaller first entry decides
pub before_head : (x y : ℕ) (xs ys : List ℕ) → x < y → Before (x ∷ xs) (y ∷ ys)
before_head x y xs ys h = or_l (ltb x y) (eqb x y && beforeb xs ys) (lt→ltb x y h)

-- equal first entries leave it to the rest
pub before_tail : (x y : ℕ) (xs ys : List ℕ) → x ≡ y → Before xs ys → Before (x ∷ xs) (y ∷ ys)
before_tail x y xs ys e h = or_r (ltb x y) (eqb x y && beforeb xs ys) (both (eqb x y) (beforeb xs ys) (eq→eqb x y e) h)

-- what stands before has the smaller first entry, or the same one and a rest that stands before
pub before_cases : (x y : ℕ) (xs ys : List ℕ) → Before (x ∷ xs) (y ∷ ys) → (x < y) ⊎ ((x ≡ y) × Before xs ys)
before_cases x y xs ys h =
    elim (either (ltb x y) (eqb x y && beforeb xs ys) h) [
      | inl l ↦ inl (ltb→lt x y l)
      | inr r ↦ inr (eqb→eq x y (fst (eqb x y) (beforeb xs ys) r), snd (eqb x y) (beforeb xs ys) r)
    ]

-- no list stands before itself
pub before_irrefl : (xs : List ℕ) → Before xs xs → ⊥
before_irrefl [] h = h
before_irrefl (x ∷ xs) h = elim (before_cases x x xs xs h) [ inl l ↦ omega arith | inr r ↦ before_irrefl xs r.1 ]

-- before a list that stands before a third is before the third
pub before_trans : (xs ys zs : List ℕ) → Before xs ys → Before ys zs → Before xs zs
before_trans [] ys zs h k = absurd h
before_trans (x ∷ xs) [] zs h k = absurd h
before_trans (x ∷ xs) (y ∷ ys) [] h k = absurd k
before_trans (x ∷ xs) (y ∷ ys) (z ∷ zs) h k =
    elim (before_cases x y xs ys h) [
      | inl l ↦ elim (before_cases y z ys zs k) [ inl m ↦ before_head x z xs zs (omega arith) | inr s ↦ before_head x z xs zs (omega arith) ]
      | inr r ↦
          elim (before_cases y z ys zs k) [
            | inl m ↦ before_head x z xs zs (omega arith)
            | inr s ↦ before_tail x z xs zs (omega arith) (before_trans xs ys zs r.1 s.1)
          ]
    ]

-- of two lists one cannot stand before the other both ways
pub before_asym : (xs ys : List ℕ) → Before xs ys → Before ys xs → ⊥
before_asym xs ys h k = before_irrefl xs (before_trans xs ys xs h k)

-- two lists of one length are the same, or one stands before the other
pub before_total : (xs ys : List ℕ) → length xs ≡ length ys → (xs ≡ ys) ⊎ (Before xs ys ⊎ Before ys xs)
before_total [] [] e = inl refl
before_total [] (y ∷ ys) e = absurd (omega arith)
before_total (x ∷ xs) [] e = absurd (omega arith)
before_total (x ∷ xs) (y ∷ ys) e =
    elim (eq_or_apart x y) [
      | inl q ↦
          elim (before_total xs ys (suc_inj e)) [
            | inl r ↦ inl (cc)
            | inr (inl b) ↦ inr (inl (before_tail x y xs ys q b))
            | inr (inr b) ↦ inr (inr (before_tail y x ys xs (sym q) b))
          ]
      | inr (inl l) ↦ inr (inl (before_head x y xs ys l))
      | inr (inr l) ↦ inr (inr (before_head y x ys xs l))
    ]

-- all lists of a length ascend in dictionary order
pub lists_sorted : (n len : ℕ) → Sorted Before (all_lists n len)
lists_sorted n zero = (tt, tt)
lists_sorted n (suc len) =
    sorted_collect (λ (x y : ℕ). x < y) Before (λ x. map (λ xs. x ∷ xs) (all_lists n len)) (below n)
    (λ x. sorted_map Before Before (λ xs. x ∷ xs) (all_lists n len) (λ xs ys h. before_tail x x xs ys refl h) (lists_sorted n len))
    (λ x y h. all_map (λ u. All (Before u) (map (λ ys. y ∷ ys) (all_lists n len))) (λ xs. x ∷ xs) (all_lists n len)
    (all_every (λ xs. All (Before (x ∷ xs)) (map (λ ys. y ∷ ys) (all_lists n len))) (all_lists n len)
    (λ xs. all_map (Before (x ∷ xs)) (λ ys. y ∷ ys) (all_lists n len)
    (all_every (λ ys. Before (x ∷ xs) (y ∷ ys)) (all_lists n len) (λ ys. before_head x y xs ys h)))))
    (up_from_ascends 0 n)

-- every list of a length is of that length, with entries below n
pub lists_entries : (n len : ℕ) (xs : List ℕ) → Memᴰ xs (all_lists n len) → (length xs ≡ len) × All (λ x. x < n) xs
lists_entries n zero [] m = (refl, tt)
lists_entries n zero (x ∷ xs) (Memᴰ.head e) = absurd (omega (arith, ap length e))
lists_entries n zero (x ∷ xs) (Memᴰ.tail m) = absurd (Memᴰ.not-nil m)
lists_entries n (suc len) xs m =
    let r : (x : ℕ) × Memᴰ x (below n) × Memᴰ xs (map (λ ys. x ∷ ys) (all_lists n len)) = mem_collect (λ x. map (λ ys. x ∷ ys) (all_lists n len)) (below n) xs m in
    let x : ℕ = r.0 in
    let s : (ys : List ℕ) × Memᴰ ys (all_lists n len) × (x ∷ ys ≡ xs) = Memᴰ.of_map (λ ys. x ∷ ys) (all_lists n len) r.2 in
    let k : (length s.0 ≡ len) × All (λ x. x < n) s.0 = lists_entries n len s.0 s.1 in
    subst (λ (zs : List ℕ). (length zs ≡ suc len) × All (λ x. x < n) zs) s.2 (ap suc k.0, (below_lt n r.1, k.1))

-- each list with entries below n is among the lists of its length
pub in_lists_of_entries : (n : ℕ) (xs : List ℕ) → All (λ x. x < n) xs → Memᴰ xs (all_lists n (length xs))
in_lists_of_entries n [] h = Memᴰ.head refl
in_lists_of_entries n (x ∷ xs) h =
    collect_mem (λ x. map (λ ys. x ∷ ys) (all_lists n (length xs))) (below n) x (x ∷ xs) (lt_below n x h.0)
    (Memᴰ.map (λ ys. x ∷ ys) (in_lists_of_entries n xs h.1))

-- a list is among the lists of a length exactly if it has that length and its entries are below n
pub in_lists : (n len : ℕ) (xs : List ℕ) → Memᴰ xs (all_lists n len) ↔ ((length xs ≡ len) × All (λ x. x < n) xs)
in_lists n len xs = (lists_entries n len xs, λ h. subst (λ (l : ℕ). Memᴰ xs (all_lists n l)) h.0 (in_lists_of_entries n xs h.1))

-- lists that pass the test of sameness are the same
pub sameb→eq : (xs ys : List ℕ) → T (sameb xs ys) → xs ≡ ys
sameb→eq [] [] h = refl
sameb→eq [] (y ∷ ys) h = absurd h
sameb→eq (x ∷ xs) [] h = absurd h
sameb→eq (x ∷ xs) (y ∷ ys) h =
    let e : x ≡ y = eqb→eq x y (fst (eqb x y) (sameb xs ys) h) in
    let r : xs ≡ ys = sameb→eq xs ys (snd (eqb x y) (sameb xs ys) h) in
    cc

-- a list passes the test of sameness with itself
pub sameb_refl : (xs : List ℕ) → T (sameb xs xs)
sameb_refl [] = tt
sameb_refl (x ∷ xs) = both (eqb x x) (sameb xs xs) (eqb_refl x) (sameb_refl xs)

-- the list after p, where p stands first
pub following_here : (p q : List ℕ) (qs : List (List ℕ)) → p ≡ q → following p (q ∷ qs) ≡ head? qs
following_here p q qs e =
    let same : sameb p q ≡ true = T_true (sameb p q) (subst (λ (z : List ℕ). T (sameb p z)) e (sameb_refl p)) in
    ap (λ (b : Bool). pick b (head? qs) (following p qs)) same

-- the list after p, where another list stands first
pub following_later : (p q : List ℕ) (qs : List (List ℕ)) → (p ≡ q → ⊥) → following p (q ∷ qs) ≡ following p qs
following_later p q qs d = let t : sameb p q ≡ false = T_false (sameb p q) (not_T (sameb p q) (λ s. d (sameb→eq p q s))) in rw t

-- the list that follows one of some lists is one of them
pub following_mem : (p : List ℕ) (rs : List (List ℕ)) (xs : List ℕ) → following p rs ≡ some xs → Memᴰ xs rs
following_mem p [] xs e = let z : ◌≡◌ {A = ℕ} 0 1 = cc in absurd (omega arith)
following_mem p (r ∷ rs) xs e = Memᴰ.tail (go (sameb p r) (λ q. following_mem p rs xs q) e)
  where
    go : (b : Bool) → (following p rs ≡ some xs → Memᴰ xs rs) → pick b (head? rs) (following p rs) ≡ some xs → Memᴰ xs rs
    go true later q = head_mem rs xs q
    go false later q = later q

-- the first list has nothing before it
pub head_least : (rs : List (List ℕ)) (xs : List ℕ) → Sorted Before rs → Memᴰ xs rs → ((zs : List ℕ) → Memᴰ zs rs → Before zs xs → ⊥) → head? rs ≡ some xs
head_least [] xs s x3 h = elim x3 [ ]
head_least (r ∷ rs) xs s (Memᴰ.head e) h = ap some (sym e)
head_least (r ∷ rs) xs s (Memᴰ.tail m) h = absurd (h r (Memᴰ.head refl) (all_mem (Before r) xs rs s.0 m))

-- a list of the rest of an ordered roll is not its first
pub later_apart : (r xs : List ℕ) (rs : List (List ℕ)) → All (Before r) rs → Memᴰ xs rs → xs ≡ r → ⊥
later_apart r xs rs a m e = before_irrefl r (subst (λ (z : List ℕ). Before r z) e (all_mem (Before r) xs rs a m))

-- the following list is the one with nothing between
pub following_least : (rs : List (List ℕ)) (xs ys : List ℕ) → Sorted Before rs → Memᴰ xs rs → Memᴰ ys rs → Before xs ys → ((zs : List ℕ) → Memᴰ zs rs → Before xs zs → Before zs ys → ⊥) → following xs rs ≡ some ys
following_least [] xs ys s x5 _ b h = elim x5 [ ]
following_least (r ∷ rs) xs ys s (Memᴰ.head e) (Memᴰ.head k) b h = absurd (before_irrefl r (subst (λ (z : List ℕ). Before z r) e (subst (Before xs) k b)))
following_least (r ∷ rs) xs ys s (Memᴰ.head e) (Memᴰ.tail n) b h =
    rw (following_here xs r rs e)
    (head_least rs ys s.1 n (λ zs m c. h zs (Memᴰ.tail m) (subst (λ (z : List ℕ). Before z zs) (sym e) (all_mem (Before r) zs rs s.0 m)) c))
following_least (r ∷ rs) xs ys s (Memᴰ.tail m) (Memᴰ.head k) b h =
    absurd (before_asym r xs (all_mem (Before r) xs rs s.0 m) (subst (Before xs) k b))
following_least (r ∷ rs) xs ys s (Memᴰ.tail m) (Memᴰ.tail n) b h =
    rw (following_later xs r rs (later_apart r xs rs s.0 m))
    (following_least rs xs ys s.1 m n b (λ zs k. h zs (Memᴰ.tail k)))

-- nothing follows the list with nothing after it
pub following_none : (rs : List (List ℕ)) (xs : List ℕ) → Sorted Before rs → Memᴰ xs rs → ((zs : List ℕ) → Memᴰ zs rs → Before xs zs → ⊥) → following xs rs ≡ none
following_none [] xs s x3 h = elim x3 [ ]
following_none (r ∷ []) xs s (Memᴰ.head e) h = following_here xs r [] e
following_none (r ∷ q ∷ rs) xs s (Memᴰ.head e) h = absurd (h q (Memᴰ.tail (Memᴰ.head refl)) (subst (λ (z : List ℕ). Before z q) (sym e) s.0.0))
following_none (r ∷ rs) xs s (Memᴰ.tail m) h =
    rw (following_later xs r rs (later_apart r xs rs s.0 m)) (following_none rs xs s.1 m (λ zs k. h zs (Memᴰ.tail k)))

-- after the list at a place follows the one at the next place
pub following_at : (rs : List (List ℕ)) (i : ℕ) → Sorted Before rs → i < length rs → following (get_or rs i []) rs ≡ get_elem? rs (suc i)
following_at [] i s h = absurd (omega arith)
following_at (r ∷ rs) zero s h = rw (following_here r r rs refl) (head_at rs)
following_at (r ∷ rs) (suc i) s h =
    rw (following_later (get_or rs i []) r rs (later_apart r (get_or rs i []) rs s.0 (get_d_mem rs i [] (omega arith))))
    (following_at rs i s.1 (omega arith))
