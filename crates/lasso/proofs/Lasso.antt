-- Lassos by places and by walks: a path from the initial state that closes a loop through a given state q. With it what
-- the tests of a lasso and of an accepting path say, how long an accepting path is and where its loop starts.
use Prim.Native.Nat.{ℕ, ◌+◌, ◌-◌, ◌≤◌, ◌<◌}
use mathlib.Core.Path.{◌≡◌, refl, sym, ◌∙◌}
use mathlib.Core.Logic.{◌↔◌, inl, inr}
use mathlib.Core.List.{List, [], ◌∷◌, ◌++◌, Memᴰ, append_assoc, append-nil}
use native.Mathlib.Omega.{arith}
use native.Mathlib.Decide.{dec_lt}
use lib.ListN.{length, get_or, take, length-append}
use lib.Seq.{get_or-take, length-take-le}
use lib.Dec.{T, eqb, leb, eqb→eq, le→leb}
use Rattle.lists.proofs.Places.{place_of_first}
use Rattle.lists.specs.Lists.{anyb, differentb, up_from, below}
use Rattle.lasso.specs.Graph.{Graph, WellFormed, pathb, edges, loopsb, lassob, acceptingb, loop_start}
use Rattle.lists.proofs.Tests.{parts, join, eq→eqb, eq_or_apart, anyb_some, some_anyb, up_from_range, range_up_from, below_lt, lt_below, different_places}
use Rattle.lists.proofs.Different.{length_different_places}
use Rattle.lasso.proofs.Walk.{Run, done, next, Walk, run_append, walk_from, walk_to, run_path, path_segment, path_states}

-- A lasso whose loop holds the state q: a path from the initial state whose last state is the one at the earlier place k,
-- with q at a place r from k to before the last.
pub record Lasso (g : Graph) (q : ℕ) (xs : List ℕ) : Type 0 where
  pub k : ℕ
  pub r : ℕ
  pub starts : get_or xs 0 0 ≡ g.start
  pub path : T (pathb g xs)
  pub k_le_r : k ≤ r
  pub r_lt : r < edges xs
  pub closes : get_or xs (edges xs) 0 ≡ get_or xs k 0
  pub holds : get_or xs r 0 ≡ q

-- A lasso of l edges as three walks: from the initial state to the knot, from there to q, and back to the knot.
pub record Knot (g : Graph) (q l : ℕ) : Type 0 where
  pub knot : ℕ
  pub a : ℕ
  pub b : ℕ
  pub c : ℕ
  pub stem : Walk g g.start knot a
  pub there : Walk g knot q b
  pub back : Walk g q knot c
  pub turns : 1 ≤ b + c
  pub total : a + b + c ≡ l

-- the ends of a walk may be replaced by equal states
pub walk_ends : {g : Graph} {s t u v m : ℕ} → s ≡ u → t ≡ v → Walk g s t m → Walk g u v m
walk_ends p q w = walk_from (sym p) (walk_to w q)

-- a lasso by places is one by walks
pub lasso→knot : {g : Graph} {q : ℕ} {xs : List ℕ} → Lasso g q xs → Knot g q (edges xs)
lasso→knot {g} {q} {xs} l = record {
  knot = get_or xs l.k 0;
  a = l.k - 0;
  b = l.r - l.k;
  c = edges xs - l.r;
  stem = walk_ends l.starts refl (path_segment g xs l.path 0 l.k (omega arith) (omega arith));
  there = walk_ends refl l.holds (path_segment g xs l.path l.k l.r (omega arith) (omega arith));
  back = walk_ends l.holds l.closes (path_segment g xs l.path l.r (edges xs) (omega arith) (omega arith));
  turns = omega arith;
  total = omega arith;
}

-- where a run of m edges ends: the state at place m, whatever follows
pub run_end : {g : Graph} {s t : ℕ} {us : List ℕ} → Run g s us t → (m : ℕ) → length us ≡ m → (vs : List ℕ)
    → get_or (s ∷ (us ++ vs)) m 0 ≡ t
run_end (done e) m z vs = rw (← z) e
run_end (next e r) m z vs = rw (← z) (run_end r _ refl vs)

-- In a list that runs from a state to the knot at place a, on to q at place a + b, and back to the knot at a + b + c: q
-- stands at a place of the loop before the last.
loop_place : {knot q : ℕ} (xs : List ℕ) (a b c : ℕ) → 1 ≤ b + c → get_or xs a 0 ≡ knot → get_or xs (a + b) 0 ≡ q
    → get_or xs (a + b + c) 0 ≡ knot → (r : ℕ) × (a ≤ r) × (r < a + b + c) × (get_or xs r 0 ≡ q)
loop_place xs a b c turns at-knot at-q at_end = elim (dec_lt 0 c) [
  | yes h ↦ (a + b, omega arith, omega arith, at-q)
  | no h ↦
      let e : a + b + c ≡ a + b = omega arith in
      (a, omega arith, omega arith, cc)
]

-- a lasso by walks is one by places
pub knot→lasso : {g : Graph} {q l : ℕ} → Knot g q l → (xs : List ℕ) × Lasso g q xs × (edges xs ≡ l)
knot→lasso {g} {q} {l} w =
    let us : List ℕ = w.stem.0 in
    let vs : List ℕ = w.there.0 in
    let ws : List ℕ = w.back.0 in
    let xs : List ℕ = g.start ∷ ((us ++ vs) ++ ws) in
    let to-q : Run g g.start (us ++ vs) q = run_append w.stem.1 w.there.1 in
    let whole : Run g g.start ((us ++ vs) ++ ws) w.knot = run_append to-q w.back.1 in
    let at-knot : get_or xs w.a 0 ≡ w.knot = rw append_assoc (run_end w.stem.1 w.a w.stem.2 (vs ++ ws)) in
    let at-q : get_or xs (w.a + w.b) 0 ≡ q = run_end to-q (w.a + w.b) (simp length-append (omega arith)) ws in
    let all : length ((us ++ vs) ++ ws) ≡ w.a + w.b + w.c = simp length-append (omega arith) in
    let at_end : get_or xs (w.a + w.b + w.c) 0 ≡ w.knot = rw append-nil at (run_end whole (w.a + w.b + w.c) all []) in
    let long : edges xs ≡ w.a + w.b + w.c = omega arith in
    let (r, low, high, holds) = loop_place xs w.a w.b w.c w.turns at-knot at-q at_end in (
      xs,
      record {
        k = w.a;
        r = r;
        starts = refl;
        path = run_path whole;
        k_le_r = low;
        r_lt = omega arith;
        closes = rw long (at_end ∙ sym at-knot);
        holds = holds;
      },
      long ∙ w.total,
    )

-- a loop that passes the test holds a marked state
loop_mark : (g : Graph) (xs : List ℕ) (k : ℕ) → T (loopsb g xs k)
    → (r : ℕ) × (k ≤ r) × (r < k + (edges xs - k)) × T (g.marked (get_or xs r 0))
loop_mark g xs k h =
    let marks : T (anyb (λ r. g.marked (get_or xs r 0)) (up_from k (edges xs - k))) = search parts in
    let (r, in-r, at-r) = anyb_some (λ r. g.marked (get_or xs r 0)) (up_from k (edges xs - k)) marks in
    let range : (k ≤ r) × (r < k + (edges xs - k)) = up_from_range k (edges xs - k) {x = r} in-r in
    (r, range.0, range.1, at-r)

-- what the test of a lasso says: there is a marked state q, and the list is a lasso whose loop holds q
pub lassob→lasso : (g : Graph) (xs : List ℕ) → T (lassob g xs) → (q : ℕ) × T (g.marked q) × Lasso g q xs
lassob→lasso g xs h =
    let starts : T (eqb (get_or xs 0 0) g.start) = search parts in
    let path : T (pathb g xs) = search parts in
    let loops : T (anyb (loopsb g xs) (below (edges xs))) = search parts in
    let (k, in-k, at-k) = anyb_some (loopsb g xs) (below (edges xs)) loops in
    let closes : T (eqb (get_or xs (edges xs) 0) (get_or xs k 0)) = search parts in
    let low : k < edges xs = below_lt (edges xs) {x = k} in-k in
    let (r, k_le_r, r_lt, at-r) = loop_mark g xs k at-k in (
      get_or xs r 0,
      at-r,
      record {
        k = k;
        r = r;
        starts = eqb→eq (get_or xs 0 0) g.start starts;
        path = path;
        k_le_r = k_le_r;
        r_lt = omega arith;
        closes = eqb→eq (get_or xs (edges xs) 0) (get_or xs k 0) closes;
        holds = refl {a = get_or xs r 0};
      },
    )

-- a lasso whose loop holds a marked state passes the test
pub lasso→lassob : {g : Graph} {q : ℕ} {xs : List ℕ} → T (g.marked q) → Lasso g q xs → T (lassob g xs)
lasso→lassob {g} {q} {xs} m l =
    let marked : T (g.marked (get_or xs l.r 0)) = rw l.holds m in
    let in-r : Memᴰ l.r (up_from l.k (edges xs - l.k)) = range_up_from l.k (edges xs - l.k) l.r (omega arith) (omega arith) in
    let in-k : Memᴰ l.k (below (edges xs)) = lt_below (edges xs) l.k (omega arith) in
    let marks : T (anyb (λ r. g.marked (get_or xs r 0)) (up_from l.k (edges xs - l.k))) = some_anyb (λ r. g.marked (get_or xs r 0)) in-r marked in
    let closes : T (eqb (get_or xs (edges xs) 0) (get_or xs l.k 0)) = eq→eqb _ _ l.closes in
    let loops : T (anyb (loopsb g xs) (below (edges xs))) = some_anyb (loopsb g xs) in-k (search join) in
    let some-edge : T (leb 1 (edges xs)) = le→leb 1 (edges xs) (omega arith) in
    let starts : T (eqb (get_or xs 0 0) g.start) = eq→eqb _ _ l.starts in
    let path : T (pathb g xs) = l.path in
    search join

-- an accepting lasso through q: one whose states before the last are all different
abbrev pub AcceptingThrough : Graph → ℕ → List ℕ → Type 0
AcceptingThrough g q xs = Lasso g q xs × T (differentb (take (edges xs) xs))

-- some accepting path has l edges
abbrev pub AcceptingLength : Graph → ℕ → Type 0
AcceptingLength g l = (xs : List ℕ) × T (acceptingb g xs) × (edges xs ≡ l)

-- a list is an accepting path exactly if it is an accepting lasso through some marked state
pub accepting_iff : (g : Graph) (xs : List ℕ) → T (acceptingb g xs) ↔ ((q : ℕ) × T (g.marked q) × AcceptingThrough g q xs)
accepting_iff g xs = (
  λ h.
      let lasso : T (lassob g xs) = search parts in
      let different : T (differentb (take (edges xs) xs)) = search parts in
      let (q, m, l) = lassob→lasso g xs lasso in
      (q, m, (l, different)),
  λ (q, m, acc).
      let lasso : T (lassob g xs) = lasso→lassob m acc.0 in
      let different : T (differentb (take (edges xs) xs)) = acc.1 in
      search join,
)

-- there are at most as many states before the last of an accepting lasso as the graph has
pub through_length : {g : Graph} {q : ℕ} {xs : List ℕ} → WellFormed g → AcceptingThrough g q xs → edges xs ≤ g.size
through_length {g} {q} {xs} wf (l, different) =
    let n : ℕ = edges xs in
    let long : length (take n xs) ≡ n = length-take-le n xs (omega arith) in
    let states : (j : ℕ) → j < length xs → get_or xs j 0 < g.size = path_states g xs wf l.path (rw l.starts wf.start_state) in
    rw long at (length_different_places g.size (take n xs) different (λ j h. rw (get_or-take n xs j 0 (omega arith)) (states j (omega arith))))

-- an accepting path has at most as many edges as the graph has states
pub accepting_length : (g : Graph) (xs : List ℕ) → WellFormed g → T (acceptingb g xs) → edges xs ≤ g.size
accepting_length g xs wf h = through_length wf ((accepting_iff g xs).0 h).2

-- among entries that are all different, equal ones are at the same place
same_place : (n : ℕ) (xs : List ℕ) → n ≤ length xs → T (differentb (take n xs))
    → (i j : ℕ) → i < n → j < n → get_or xs i 0 ≡ get_or xs j 0 → i ≡ j
same_place n xs long d i j hi hj e = elim (eq_or_apart i j) [
  | inl q ↦ q
  | inr (inl less) ↦ absurd (apart i j less hj e)
  | inr (inr more) ↦ absurd (apart j i more hi (sym e))
]
  where
    apart : (x y : ℕ) → x < y → y < n → get_or xs x 0 ≡ get_or xs y 0 → ⊥
    apart x y less h q =
        different_places (take n xs) d x y less (rw (length-take-le n xs long) h)
        (get_or-take n xs x 0 (omega arith) ∙ q ∙ sym (get_or-take n xs y 0 h))

-- exactly one place before the last holds the last state of an accepting path: where its loop starts
pub loop_start_lem : (g : Graph) (xs : List ℕ) → T (acceptingb g xs)
    → (loop_start xs < edges xs) × (get_or xs (loop_start xs) 0 ≡ get_or xs (edges xs) 0)
    × ((k : ℕ) → k < edges xs → get_or xs k 0 ≡ get_or xs (edges xs) 0 → k ≡ loop_start xs)
loop_start_lem g xs h =
    let (q, m, (l, different)) = (accepting_iff g xs).0 h in
    let (low, holds) = place_of_first (get_or xs (edges xs) 0) xs l.k (omega arith) (sym l.closes) in
    let before : loop_start xs < edges xs = omega arith in
    (before, holds, λ k less e. same_place (edges xs) xs (omega arith) different k (loop_start xs) less before (e ∙ sym holds))
