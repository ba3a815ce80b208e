-- When a beginning of a path can be completed to a lasso of l edges: exactly if from its last state there is a walk to a
-- loop ahead, or through a mark back to a state passed, or back to a state passed at or before a mark.
use Prim.Native.Nat.{ℕ, ◌+◌, ◌-◌, ◌≤◌, ◌<◌}
use native.Mathlib.Omega.{arith}
use native.Mathlib.Nat.{le_refl}
use mathlib.Core.Path.{◌≡◌, refl, sym, ◌∙◌, ap, subst}
use mathlib.Core.Logic.{◌⊎◌, inl, inr, ◌↔◌}
use mathlib.Core.Option.{some}
use mathlib.Core.List.{List, [], ◌∷◌, ◌++◌, append_assoc}
use lib.ListN.{length, get_or, length-append}
use lib.Seq.{append_snoc, get_or-append_seam, get_or-append-add}
use lib.Dec.{T}
use Rattle.lists.proofs.Places.{joined_start, joined_passed}
use Rattle.lasso.specs.Graph.{Graph, WellFormed, edgeb, pathb, edges, lassob}
use Rattle.lasso.specs.Roll.{least_length}
use Rattle.lists.proofs.Tests.{lt_or_ge, parts, join}
use Rattle.lasso.proofs.Walk.{Run, Walk, run_append, run_path, run_last, path_segment}
use Rattle.lasso.proofs.Lasso.{Lasso, lassob→lasso, lasso→lassob, walk_ends, run_end}
use Rattle.lasso.proofs.RollLaws.{least_length_le}
use Rattle.lasso.specs.Extends.{Extends}

-- The loop start is ahead: from t a walk to a state s, from there one to a marked state and back, with at least one edge.
pub record Ahead (g : Graph) (l : ℕ) (q : List ℕ) (t : ℕ) : Type 0 where
  pub knot : ℕ
  pub mark : ℕ
  pub a : ℕ
  pub b : ℕ
  pub c : ℕ
  pub marked : T (g.marked mark)
  pub to_knot : Walk g t knot a
  pub to_mark : Walk g knot mark b
  pub back : Walk g mark knot c
  pub turns : 1 ≤ b + c
  pub total : length q + a + b + c ≡ l

-- The loop start is passed, at place k, and the mark is ahead: from t a walk to a marked state, and from there to the loop
-- start.
pub record MarkAhead (g : Graph) (l : ℕ) (q : List ℕ) (t : ℕ) : Type 0 where
  pub k : ℕ
  pub mark : ℕ
  pub a : ℕ
  pub b : ℕ
  pub k_lt : k < length q
  pub marked : T (g.marked mark)
  pub to_mark : Walk g t mark a
  pub back : Walk g mark (get_or q k 0) b
  pub total : length q + a + b ≡ l

-- Both the loop start and the mark are passed, at the places k and r: from t a walk to the loop start.
pub record BothPassed (g : Graph) (l : ℕ) (q : List ℕ) (t : ℕ) : Type 0 where
  pub k : ℕ
  pub r : ℕ
  pub a : ℕ
  pub k_le : k ≤ r
  pub r_lt : r < length q
  pub marked : T (g.marked (get_or q r 0))
  pub back : Walk g t (get_or q k 0) a
  pub total : length q + a ≡ l

-- one of the three ways to complete q, t to a lasso of l edges
abbrev pub Completes : Graph → ℕ → List ℕ → ℕ → Type 0
Completes g l q t = Ahead g l q t ⊎ (MarkAhead g l q t ⊎ BothPassed g l q t)

-- one of the three ways to complete q, t to a lasso of at most l edges
abbrev pub CompletesWithin : Graph → ℕ → List ℕ → ℕ → Type 0
CompletesWithin g l q t = (n : ℕ) × (n ≤ l) × Completes g n q t

-- a beginning q, t with the states that follow t, as one list
pub extends_joined : (g : Graph) (l : ℕ) (q : List ℕ) (t : ℕ)
    → Extends g l (q ++ t ∷ []) ↔ ((us : List ℕ) × T (lassob g (q ++ t ∷ us)) × (edges (q ++ t ∷ us) ≡ l))
extends_joined g l q t = (
  λ (us, h, e). (us, rw (append_snoc q t us) at h, rw (append_snoc q t us) at e),
  λ (us, h, e). (us, rw (append_snoc q t us) h, rw (append_snoc q t us) e),
)

-- the edges of a beginning and what follows add up
pub joined_edges : (q : List ℕ) (t : ℕ) (us : List ℕ) → edges (q ++ t ∷ us) ≡ length q + length us
joined_edges q t us = simp length-append (omega arith)

-- a path goes on along a run from its last state
pub joined_path : {g : Graph} {t v : ℕ} {us : List ℕ} (q : List ℕ) → T (pathb g (q ++ t ∷ [])) → Run g t us v → T (pathb g (q ++ t ∷ us))
joined_path [] h r = run_path r
joined_path {g} {t} {us = us} (x ∷ []) h r =
    let e : T (edgeb g x t) = search parts in
    let p : T (pathb g (t ∷ us)) = run_path r in
    search join
joined_path {g} {t} {us = us} (x ∷ y ∷ q) h r =
    let e : T (edgeb g x y) = search parts in
    let p : T (pathb g (y ∷ (q ++ t ∷ us))) = joined_path (y ∷ q) (search parts) r in
    search join

-- A path from the initial state that closes a loop at k is a lasso if a state from k to the end is marked: if it is the
-- last one, then so is the one at k.
pub lasso_of_places : (g : Graph) (xs : List ℕ) (k m : ℕ) → get_or xs 0 0 ≡ g.start → T (pathb g xs) → k ≤ m → m ≤ edges xs → k < edges xs
    → get_or xs (edges xs) 0 ≡ get_or xs k 0 → T (g.marked (get_or xs m 0)) → T (lassob g xs)
lasso_of_places g xs k m starts path low high inside closes marked =
    elim (lt_or_ge m (edges xs)) [
      | inl h ↦ lasso→lassob marked (at m low h)
      | inr h ↦
          let e : m ≡ edges xs = omega arith in
          lasso→lassob (rw (ap (λ (i : ℕ). get_or xs i 0) e ∙ closes) at marked) (at k (omega arith) inside)
    ]
  where
    at : (r : ℕ) → k ≤ r → r < edges xs → Lasso g (get_or xs r 0) xs
    at r p h = record { k = k; r = r; starts = starts; path = path; k_le_r = p; r_lt = h; closes = closes; holds = refl }

-- A lasso of l edges that begins with q, t: how it completes q, t.
module _ (g : Graph) (q : List ℕ) (t : ℕ) (us : List ℕ) (x : ℕ) (o : Lasso g x (q ++ t ∷ us)) (marked : T (g.marked x)) where
  -- the part of the lasso from t to a later place
  from_t : {y : ℕ} (j : ℕ) → length q ≤ j → j ≤ edges (q ++ t ∷ us) → get_or (q ++ t ∷ us) j 0 ≡ y → Walk g t y (j - length q)
  from_t j low high at = walk_ends (get_or-append_seam q t us 0) at (path_segment g (q ++ t ∷ us) o.path (length q) j low (omega (arith, joined_edges q t us)))

  -- the part of the lasso from its mark to its end
  from_mark : {y : ℕ} → get_or (q ++ t ∷ us) o.k 0 ≡ y → Walk g x y (edges (q ++ t ∷ us) - o.r)
  from_mark at = walk_ends o.holds (o.closes ∙ at) (path_segment g (q ++ t ∷ us) o.path o.r (edges (q ++ t ∷ us)) (omega arith) (omega arith))

  -- its loop start is at t or later
  lasso_ahead : length q ≤ o.k → Ahead g (edges (q ++ t ∷ us)) q t
  lasso_ahead low = record {
    knot = get_or (q ++ t ∷ us) o.k 0;
    mark = x;
    a = o.k - length q;
    b = o.r - o.k;
    c = edges (q ++ t ∷ us) - o.r;
    marked = marked;
    to_knot = from_t o.k low (omega arith) refl;
    to_mark = walk_ends refl o.holds (path_segment g (q ++ t ∷ us) o.path o.k o.r (omega arith) (omega arith));
    back = from_mark refl;
    turns = omega arith;
    total = omega arith;
  }

  -- its loop start is before t, and its mark is not
  lasso_mark_ahead : o.k < length q → length q ≤ o.r → MarkAhead g (edges (q ++ t ∷ us)) q t
  lasso_mark_ahead high low = record {
    k = o.k;
    mark = x;
    a = o.r - length q;
    b = edges (q ++ t ∷ us) - o.r;
    k_lt = high;
    marked = marked;
    to_mark = from_t o.r low (omega arith) o.holds;
    back = from_mark (joined_passed q t us o.k high);
    total = omega arith;
  }

  -- its mark is before t
  lasso_passed : o.r < length q → BothPassed g (edges (q ++ t ∷ us)) q t
  lasso_passed high = record {
    k = o.k;
    r = o.r;
    a = edges (q ++ t ∷ us) - length q;
    k_le = o.k_le_r;
    r_lt = high;
    marked = subst (λ (y : ℕ). T (g.marked y)) (sym o.holds ∙ joined_passed q t us o.r high) marked;
    back = from_t (edges (q ++ t ∷ us)) (omega (arith, joined_edges q t us)) (omega arith) (o.closes ∙ joined_passed q t us o.k (omega arith));
    total = omega (arith, joined_edges q t us);
  }

  -- one of the three holds
  lasso_completes : Completes g (edges (q ++ t ∷ us)) q t
  lasso_completes =
      elim (lt_or_ge o.k (length q)) [
        | inl h ↦ elim (lt_or_ge o.r (length q)) [ inl m ↦ inr (inr (lasso_passed m)) | inr m ↦ inr (inl (lasso_mark_ahead h m)) ]
        | inr h ↦ inl (lasso_ahead h)
      ]

-- what extends to a lasso of l edges completes to one in one of the three ways
pub extends_completes : (g : Graph) (l : ℕ) (q : List ℕ) (t : ℕ) → Extends g l (q ++ t ∷ []) → Completes g l q t
extends_completes g l q t x =
    let (us, h, e) = (extends_joined g l q t).0 x in
    let (m, marked, o) = lassob→lasso g (q ++ t ∷ us) h in
    subst (λ (n : ℕ). Completes g n q t) e (lasso_completes g q t us m o marked)

-- A path q, t from the initial state with a run from t: where the run's parts end.
module _ (g : Graph) (q : List ℕ) (t : ℕ) (path : T (pathb g (q ++ t ∷ []))) (starts : get_or (q ++ t ∷ []) 0 0 ≡ g.start) where
  -- the state at which a run of m edges from t ends, whatever follows
  at_end : {v : ℕ} {us : List ℕ} → Run g t us v → (m : ℕ) → length us ≡ m → (vs : List ℕ) → get_or (q ++ t ∷ (us ++ vs)) (length q + m) 0 ≡ v
  at_end {us = us} r m e vs = get_or-append-add q (t ∷ (us ++ vs)) m 0 ∙ run_end r m e vs

  -- q, t and a run from t back to the state at place k are a lasso if a state from k on is marked
  joined_lasso : {v : ℕ} (us : List ℕ) (l k m : ℕ) → Run g t us v → length q + length us ≡ l → k ≤ m → m ≤ l → k < l
      → get_or (q ++ t ∷ us) k 0 ≡ v → T (g.marked (get_or (q ++ t ∷ us) m 0)) → Extends g l (q ++ t ∷ [])
  joined_lasso us l k m r total low high inside closes marked =
      let long : edges (q ++ t ∷ us) ≡ l = joined_edges q t us ∙ total in
      let last : get_or (q ++ t ∷ us) l 0 ≡ get_or (q ++ t ∷ us) k 0 = rw (← total) (get_or-append-add q (t ∷ us) (length us) 0 ∙ run_last r ∙ sym closes) in
      (extends_joined g l q t).1
      (us, lasso_of_places g (q ++ t ∷ us) k m (joined_start q t us ∙ starts) (joined_path q path r) low (omega arith) (omega arith) (rw long last) marked, long)

  -- a loop ahead makes a lasso
  ahead_extends : (l : ℕ) → Ahead g l q t → Extends g l (q ++ t ∷ [])
  ahead_extends l o =
      let us : List ℕ = o.to_knot.0 in
      let vs : List ℕ = o.to_mark.0 in
      let ws : List ℕ = o.back.0 in
      let to_mark : Run g t (us ++ vs) o.mark = run_append o.to_knot.1 o.to_mark.1 in
      let at-knot : get_or (q ++ t ∷ ((us ++ vs) ++ ws)) (length q + o.a) 0 ≡ o.knot = rw append_assoc (at_end o.to_knot.1 o.a o.to_knot.2 (vs ++ ws)) in
      let at_mark : get_or (q ++ t ∷ ((us ++ vs) ++ ws)) (length q + (o.a + o.b)) 0 ≡ o.mark = at_end to_mark (o.a + o.b) (simp length-append (omega arith)) ws in
      joined_lasso ((us ++ vs) ++ ws) l (length q + o.a) (length q + (o.a + o.b)) (run_append to_mark o.back.1) (simp length-append (omega arith))
      (omega arith) (omega arith) (omega arith) at-knot (rw at_mark o.marked)

  -- a mark ahead and the way back to a state passed make a lasso
  mark_ahead_extends : (l : ℕ) → MarkAhead g l q t → Extends g l (q ++ t ∷ [])
  mark_ahead_extends l o =
      let us : List ℕ = o.to_mark.0 in
      let vs : List ℕ = o.back.0 in
      let at_mark : get_or (q ++ t ∷ (us ++ vs)) (length q + o.a) 0 ≡ o.mark = at_end o.to_mark.1 o.a o.to_mark.2 vs in
      joined_lasso (us ++ vs) l o.k (length q + o.a) (run_append o.to_mark.1 o.back.1) (simp length-append (omega arith))
      (omega arith) (omega arith) (omega arith) (joined_passed q t (us ++ vs) o.k o.k_lt) (rw at_mark o.marked)

  -- the way back to a state passed at or before a mark makes a lasso
  passed_extends : (l : ℕ) → BothPassed g l q t → Extends g l (q ++ t ∷ [])
  passed_extends l o =
      let us : List ℕ = o.back.0 in
      joined_lasso us l o.k o.r o.back.1 (omega arith) o.k_le (omega arith) (omega arith)
      (joined_passed q t us o.k (omega arith)) (rw (joined_passed q t us o.r o.r_lt) o.marked)

  -- what completes to a lasso of l edges in one of the three ways extends to one
  pub completes_extends : (l : ℕ) → Completes g l q t → Extends g l (q ++ t ∷ [])
  completes_extends l (inl o) = ahead_extends l o
  completes_extends l (inr (inl o)) = mark_ahead_extends l o
  completes_extends l (inr (inr o)) = passed_extends l o

  -- With the least length for l it is enough that the lasso has at most l edges: none has fewer.
  pub extends_least_iff : WellFormed g → (l : ℕ) → least_length g ≡ some l → Extends g l (q ++ t ∷ []) ↔ CompletesWithin g l q t
  extends_least_iff w l least = (λ x. (l, le_refl l, extends_completes g l q t x), back)
    where
      back : CompletesWithin g l q t → Extends g l (q ++ t ∷ [])
      back (n, h, o) =
          let (us, lasso, long) = completes_extends n o in
          (us, lasso, omega (arith, least_length_le g w l least ((q ++ t ∷ []) ++ us) lasso))
