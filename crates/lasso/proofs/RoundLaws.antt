-- Rounds: a round's length is the least length of an accepting path whose loop holds the candidate, the least of the
-- rounds is the least length of an accepting path, and the round record holds the least of the rounds done.
use Prim.Native.Nat.{ℕ, zero, suc, ◌+◌, ◌-◌, ◌≤◌, ◌<◌}
use mathlib.Core.Path.{◌≡◌, refl, sym, ◌∙◌, ap, subst}
use mathlib.Core.Logic.{inl, inr}
use mathlib.Core.Bool.{Bool, true, false, ◌&&◌}
use mathlib.Core.List.{List, Memᴰ}
use mathlib.Core.Option.{some}
use native.Mathlib.Omega.{arith}
use lib.ListN.{length, get_or, take, length-take, length-drop}
use lib.Seq.{get_or-take, get_or-drop, take-suc, take-length}
use lib.Dec.{T}
use Rattle.lists.specs.Lists.{memb, keep, cons_if, up_from, below, is_some}
use Rattle.lasso.specs.Graph.{Graph, WellFormed, edges, acceptingb, loop_start, loop}
use Rattle.lists.specs.Limit.{under}
use Rattle.lasso.specs.Distance.{dist, dist_plus}
use Rattle.lasso.specs.Roll.{least_length}
use Rattle.lists.specs.Least.{sum, lesser, least_of}
use Rattle.lasso.specs.Rounds.{candidateb, candidates, round_length, round_within, Record, best_length, after_round, after_rounds}
use Rattle.lists.proofs.Tests.{join, fst, memb_at, at_memb, memb_mem, mem_memb, keep_mem, mem_keep, below_lt, lt_below, lt_or_ge}
use Rattle.lists.proofs.Least.{IsLeast, is_least_le, is_least_has, is_least_unique, Sums, OfEntry, is_least_bounds, is_least_iff, sum_least, least_of_least, least_of-append, lesser_none}
use Rattle.lasso.proofs.Walk.{Walk, walk_here, walk_append, walk_end_state, walk_zero, walk_length, walk_to}
use Rattle.lasso.proofs.Distance.{dist_least, dist_plus_least, dist_le}
use Rattle.lasso.proofs.Lasso.{Lasso, Knot, AcceptingLength, walk_ends, lasso→knot, knot→lasso, through_length, accepting_iff, loop_start_lem}
use Rattle.lasso.proofs.Cut.{lasso_accepting_through}
use Rattle.lasso.proofs.RollLaws.{least_length_least}
use Rattle.lists.proofs.UnderLaws.{least_of-under}

-- the lengths of walks from the initial state to s and from r to s, put together
abbrev Ways : Graph → ℕ → ℕ → ℕ → Type 0
Ways g r s = Sums (λ a. Walk g g.start s a) (λ c. Walk g r s c)

-- the lengths of walks with an edge from s to r
abbrev Turns : Graph → ℕ → ℕ → ℕ → Type 0
Turns g r s b = (1 ≤ b) × Walk g s r b

-- the lengths of the lassos with knot s through r that a round compares
abbrev RoundAt : Graph → ℕ → ℕ → ℕ → Type 0
RoundAt g r s = Sums (Ways g r s) (Turns g r s)

-- the two distances to s add up to the least length of the ways to s
ways_least : {g : Graph} → WellFormed g → (r s : ℕ) → r < g.size
    → IsLeast (Ways g r s) (sum (dist g g.start s) (dist g r s))
ways_least {g} wf r s l =
    sum_least (λ a. Walk g g.start s a) (λ c. Walk g r s c) (dist g g.start s) (dist g r s)
    (dist_least wf g.start s wf.start_state) (dist_least wf r s l)

-- a round's length is the least of these lengths over all states s
round_sums_least : {g : Graph} → WellFormed g → (r : ℕ) → r < g.size
    → IsLeast (OfEntry (RoundAt g r) (below g.size)) (round_length g r)
round_sums_least {g} wf r l =
    least_of_least (RoundAt g r) (λ s. sum (sum (dist g g.start s) (dist g r s)) (dist_plus g s r)) (below g.size)
    (λ s m. sum_least (Ways g r s) (Turns g r s) (sum (dist g g.start s) (dist g r s)) (dist_plus g s r)
    (ways_least wf r s l) (dist_plus_least wf s r))

-- a round's length is the least length of a lasso by walks through r
pub round_knot_least : {g : Graph} → WellFormed g → (r : ℕ) → r < g.size → IsLeast (λ l. Knot g r l) (round_length g r)
round_knot_least {g} wf r l =
    is_least_iff (OfEntry (RoundAt g r) (below g.size)) (λ n. Knot g r n) (round_length g r) to back (round_sums_least wf r l)
  where
    to : (n : ℕ) → OfEntry (RoundAt g r) (below g.size) n → Knot g r n
    to n (s, m, (ac, b, (a, c, stem, back, e), (turns, there), total)) =
        record {
          knot = s;
          a = a;
          b = b;
          c = c;
          stem = stem;
          there = there;
          back = back;
          turns = omega arith;
          total = omega arith;
        }

    sums : {n s a b c : ℕ} → Walk g g.start s a → Walk g s r b → Walk g r s c → 1 ≤ b → a + b + c ≡ n
        → OfEntry (RoundAt g r) (below g.size) n
    sums {s = s} {a} {b} {c} stem there back turns total =
        let low : s < g.size = walk_end_state wf wf.start_state stem in
        (s, lt_below g.size s low, (a + c, b, (a, c, stem, back, refl), (turns, there), omega arith))

    back : (n : ℕ) → Knot g r n → OfEntry (RoundAt g r) (below g.size) n
    back n k =
        elim (lt_or_ge 0 k.b) [
          | inl turns ↦ sums k.stem k.there k.back turns k.total
          | inr still ↦
              let e : k.knot ≡ r = walk_zero (walk_length (omega arith) k.there) in
              sums k.stem (walk_ends (sym e) e k.back) (walk_to (walk_here r) (sym e)) (omega arith) (omega arith)
        ]

-- the places of the loop of an accepting path are those from its start to before the last
loop-length : (xs : List ℕ) → length (loop xs) ≡ edges xs - loop_start xs
loop-length xs = simp (length-drop, length-take) (omega arith)

-- the state at a place of the loop
loop_at : (xs : List ℕ) (j : ℕ) → loop_start xs + j < edges xs → get_or (loop xs) j 0 ≡ get_or xs (loop_start xs + j) 0
loop_at xs j h = rw (get_or-drop, get_or-take)

-- a state that the loop of an accepting path holds is in its loop part
pub lasso_loop : {g : Graph} {r : ℕ} {xs : List ℕ} → T (acceptingb g xs) → Lasso g r xs → T (memb r (loop xs))
lasso_loop {g} {r} {xs} acc l =
    let (low, closes, unique) = loop_start_lem g xs acc in
    let e : l.k ≡ loop_start xs = unique l.k (omega arith) (sym l.closes) in
    let j : ℕ = l.r - loop_start xs in
    let q : loop_start xs + j ≡ l.r = omega arith in
    let inside : j < length (loop xs) = rw loop-length (omega arith) in
    let at : get_or (loop xs) j 0 ≡ r = loop_at xs j (omega arith) ∙ ap (λ (i : ℕ). get_or xs i 0) q ∙ l.holds in
    subst (λ (x : ℕ). T (memb x (loop xs))) at (at_memb (loop xs) j inside)

-- a state in the loop part of an accepting path is held by its loop
pub loop_lasso : {g : Graph} (r : ℕ) (xs : List ℕ) → T (acceptingb g xs) → T (memb r (loop xs)) → Lasso g r xs
loop_lasso {g} r xs acc m =
    let (low, closes, unique) = loop_start_lem g xs acc in
    let (q, mark, (l, different)) = (accepting_iff g xs).0 acc in
    let (j, inside, at) = memb_at r (loop xs) m in
    let before : loop_start xs + j < edges xs = omega (arith, loop-length xs) in
    record {
      k = loop_start xs;
      r = loop_start xs + j;
      starts = l.starts;
      path = l.path;
      k_le_r = omega arith;
      r_lt = before;
      closes = sym closes;
      holds = sym (loop_at xs j before) ∙ at;
    }

-- the lengths of the accepting paths whose loop holds r
abbrev pub ThroughLength : Graph → ℕ → ℕ → Type 0
ThroughLength g r l = (xs : List ℕ) × T (acceptingb g xs) × T (memb r (loop xs)) × (edges xs ≡ l)

-- no more of n numbers in a row are kept than there are
keep-up_from_le : (p : ℕ → Bool) (a n : ℕ) → length (keep p (up_from a n)) ≤ n
keep-up_from_le p a zero = omega arith
keep-up_from_le p a (suc n) =
    elim (p a) as (λ b. length (cons_if b a (keep p (up_from (suc a) n))) ≤ suc n) [
      | true ↦ omega (arith, keep-up_from_le p (suc a) n)
      | false ↦ omega (arith, keep-up_from_le p (suc a) n)
    ]

-- there are no more candidates than states
pub candidates-length_le : (g : Graph) → length (candidates g) ≤ g.size
candidates-length_le g = keep-up_from_le (candidateb g) 0 g.size

-- a candidate is a marked state
pub candidate_marked : (g : Graph) (r : ℕ) → Memᴰ r (candidates g) → (r < g.size) × T (g.marked r)
candidate_marked g r m =
    let (in-below, test) = keep_mem (λ s. g.marked s && is_some (dist g g.start s)) (below g.size) m in
    (below_lt g.size in-below, fst (g.marked r) (is_some (dist g g.start r)) test)

-- the candidate at a place is a state
pub candidate_at_state : (g : Graph) (place : ℕ) → place < length (candidates g) → get_or (candidates g) place 0 < g.size
candidate_at_state g place l =
    (candidate_marked g (get_or (candidates g) place 0) (memb_mem _ _ (at_memb (candidates g) place l))).0

-- a marked state to which a walk leads from the initial state is a candidate
pub walk_candidate : {g : Graph} {r m : ℕ} → WellFormed g → T (g.marked r) → Walk g g.start r m
    → Memᴰ r (candidates g)
walk_candidate {g} {r} wf mark w =
    let (d, e, le) = dist_le wf wf.start_state w in
    let reached : T (is_some (dist g g.start r)) = rw e tt in
    let low : r < g.size = walk_end_state wf wf.start_state w in
    mem_keep (λ s. g.marked s && is_some (dist g g.start s)) (lt_below g.size r low) (search join)

-- a candidate's round length is the least length of an accepting path whose loop holds it
pub round_least : {g : Graph} → WellFormed g → (r : ℕ) → T (memb r (candidates g))
    → IsLeast (ThroughLength g r) (round_length g r)
round_least {g} wf r m =
    let (low, mark) = candidate_marked g r (memb_mem r (candidates g) m) in
    is_least_bounds (λ l. Knot g r l) (ThroughLength g r) (round_length g r) (to mark) back (round_knot_least wf r low)
  where
    to : T (g.marked r) → (n : ℕ) → Knot g r n → (l : ℕ) × ThroughLength g r l × (l ≤ n)
    to mark n k =
        let (xs, lasso, e) = knot→lasso k in
        let (ys, through, le) = lasso_accepting_through lasso in
        let acc : T (acceptingb g ys) = (accepting_iff g ys).1 (r, mark, through) in
        (edges ys, (ys, acc, lasso_loop acc through.0, refl), omega arith)

    back : (n : ℕ) → ThroughLength g r n → (l : ℕ) × Knot g r l × (l ≤ n)
    back n (xs, acc, inside, e) = (edges xs, lasso→knot (loop_lasso r xs acc inside), omega arith)

-- the least of the candidates' round lengths is the least length of an accepting path
pub rounds_least : {g : Graph} → WellFormed g → IsLeast (AcceptingLength g) (least_of (round_length g) (candidates g))
rounds_least {g} wf =
    is_least_iff (OfEntry (ThroughLength g) (candidates g)) (AcceptingLength g) (least_of (round_length g) (candidates g)) to back
    (least_of_least (ThroughLength g) (round_length g) (candidates g) (λ r m. round_least wf r (mem_memb m)))
  where
    to : (n : ℕ) → OfEntry (ThroughLength g) (candidates g) n → AcceptingLength g n
    to n (r, m, (xs, acc, inside, e)) = (xs, acc, e)

    back : (n : ℕ) → AcceptingLength g n → OfEntry (ThroughLength g) (candidates g) n
    back n (xs, acc, e) =
        let (q, mark, (l, different)) = (accepting_iff g xs).0 acc in
        let k : Knot g q (edges xs) = lasso→knot l in
        (q, walk_candidate wf mark (walk_append k.stem k.there), (xs, acc, lasso_loop acc l, e))

-- the least over the candidates of the round's length is the least length of an accepting path
pub rounds_least_length : {g : Graph} → WellFormed g → least_of (round_length g) (candidates g) ≡ least_length g
rounds_least_length {g} wf = is_least_unique (AcceptingLength g) _ _ (rounds_least wf) (least_length_least g wf)

-- a round's length is at most the number of states
pub round_length_le : {g : Graph} → WellFormed g → (r l : ℕ) → r < g.size → round_length g r ≡ some l → l ≤ g.size
round_length_le {g} wf r l low e =
    let least : IsLeast (λ n. Knot g r n) (round_length g r) = round_knot_least wf r low in
    let (xs, lasso, same) = knot→lasso (is_least_has (λ n. Knot g r n) (round_length g r) least l e) in
    let (ys, through, shorter) = lasso_accepting_through lasso in
    let (m, found, le) = is_least_le (λ n. Knot g r n) (round_length g r) least (edges ys) (lasso→knot through.0) in
    let q : m ≡ l = cc in
    omega (arith, through_length wf through)

-- the best after one more round: the one in the record is kept, whatever the ceiling
pub best_kept : (g : Graph) (ceiling : ℕ) (rec : Record)
    → best_length (after_round g ceiling rec) ≡ lesser (best_length rec) (round_within g ceiling (get_or (candidates g) rec.done 0))
best_kept g ceiling rec = refl

-- the record after n rounds counts n
pub after_rounds_done : (g : Graph) (ceiling n : ℕ) → (after_rounds g ceiling n).done ≡ n
after_rounds_done g ceiling zero = refl
after_rounds_done g ceiling (suc n) = omega (arith, after_rounds_done g ceiling n)

-- the record after n rounds holds the least of the first n candidates' round lengths under the ceiling
pub after_rounds-best_length : (g : Graph) (ceiling n : ℕ) → n ≤ length (candidates g)
    → best_length (after_rounds g ceiling n) ≡ least_of (round_within g ceiling) (take n (candidates g))
after_rounds-best_length g ceiling zero h = refl
after_rounds-best_length g ceiling (suc n) h =
    rw (take-suc (candidates g) n 0 (omega arith), least_of-append, lesser_none, after_rounds_done g ceiling n, after_rounds-best_length g ceiling n (omega arith))

-- the record after all rounds holds the least length of an accepting path, if it is not above the ceiling
pub after_rounds-least_length : {g : Graph} → WellFormed g → (ceiling : ℕ)
    → best_length (after_rounds g ceiling (length (candidates g))) ≡ under (suc ceiling) (least_length g)
after_rounds-least_length {g} wf ceiling =
    rw (after_rounds-best_length g ceiling (length (candidates g)) (omega arith), take-length)
    (least_of-under (suc ceiling) (round_length g) (candidates g) ∙ ap (under (suc ceiling)) (rounds_least_length wf))
