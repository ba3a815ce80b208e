-- Which states may stand at the next place: what the tests find in the working table is one of the three ways to complete
-- the list with the state to a lasso of least length, and each of these ways is found.
use Prim.Native.Nat.{ℕ, suc, ◌+◌, ◌-◌, ◌≤◌, ◌<◌}
use mathlib.Core.Path.{◌≡◌, refl, sym, ◌∙◌, ap}
use mathlib.Core.Logic.{◌⊎◌, inl, inr}
use mathlib.Core.Bool.{Bool}
use mathlib.Core.List.{List, [], ◌∷◌, ◌++◌}
use mathlib.Core.Option.{Option, some}
use native.Mathlib.Omega.{arith}
use lib.ListN.{length, get_or, length-append}
use lib.Seq.{get_or-append_seam}
use lib.Dec.{T}
use Rattle.lasso.specs.Graph.{Graph, WellFormed, pathb}
use Rattle.lasso.specs.Roll.{least_length}
use Rattle.lasso.specs.Distance.{dist}
use Rattle.lists.proofs.Least.{is_least_le, is_least_has}
use Rattle.lasso.proofs.Walk.{Walk, walk_append, walk_length, walk_end_state, path_segment}
use Rattle.lasso.proofs.Distance.{dist_le, dist_walk}
use Rattle.lasso.proofs.Lasso.{walk_ends}
use Rattle.lists.specs.Decides.{Decides}
use Rattle.lasso.specs.Extends.{Extends}
use Rattle.lists.proofs.Tests.{decides_iff}
use Rattle.lists.proofs.Places.{joined_passed}
use Rattle.lasso.proofs.Extend.{Ahead, MarkAhead, BothPassed, CompletesWithin, extends_completes, extends_least_iff}
use Rattle.frontier.specs.Regions.{entry}
use Rattle.walks.specs.Through.{via_mark, loop_length}
use Rattle.walks.proofs.ThroughLaws.{ViaMark, via_mark_least, loop_length_least}
use Rattle.starts.specs.LoopStarts.{start_loop}
use Rattle.stems.specs.Stems.{IsStart, LoopAt, Stem, StemEntry, on_none, on_stem, on_start, StemEntries}
use Rattle.follow.specs.Follow.{OnStem, Starts, ClosesMarked, ClosesStart}
use Rattle.starts.proofs.StartLaws.{ClosedVia, start_loop_iff, start_loop_least, loop_length_closed, least_length_closed_le}
use Rattle.stems.proofs.StemLaws.{start_stem}
use Rattle.follow.proofs.FollowLevels.{LevelsBelow, levels_entry, levels_value}

-- a stem to s and a loop at s through a mark that have at most l edges together make s a loop's start
start_loop_le : {g : Graph} {s x : ℕ} → WellFormed g → (l k : ℕ) → Walk g g.start s x → ClosedVia g s k → x + k ≤ l
    → (b : ℕ) × (start_loop g l s ≡ some b) × (b ≤ k)
start_loop_le {g} {s} wf l k stem loop h =
    let (d, at, low) = dist_le wf wf.start_state stem in
    let (b, long, short) = is_least_le (ClosedVia g s) (loop_length g s) (loop_length_least wf s (walk_end_state wf wf.start_state stem)) k loop in
    (b, (start_loop_iff wf l s b).1 (d, at, long, omega arith), short)

-- A list q up to a place and a state t after it: a path from the initial state, shorter than the least length l of an
-- accepting path or as long.
pub record Beginning (g : Graph) (l place : ℕ) (q : List ℕ) (t : ℕ) : Type 0 where
  pub well_formed : WellFormed g
  pub least : least_length g ≡ some l
  pub within : place < l
  pub places : length q ≡ suc place
  pub starts : get_or (q ++ t ∷ []) 0 0 ≡ g.start
  pub path : T (pathb g (q ++ t ∷ []))

-- What the tests read: the stems, the list up to a place, and the values of f up to what is left of l.
pub record Holds (g : Graph) (l place : ℕ) (q : List ℕ) (f : ℕ → Option ℕ) (w : List ℕ) : Type 0 where
  pub stems : StemEntries g l w
  pub states : (k : ℕ) → k ≤ place → get_or (g.start ∷ w) k 0 ≡ get_or q k 0
  pub levels : LevelsBelow g.size (l - (place + 1) + 1) w f

-- the walks of a beginning, and what the tests find for it
module _ {g : Graph} {l place : ℕ} {q : List ℕ} {t : ℕ} (o : Beginning g l place q t) where
  -- the walk from the initial state to the state at a place
  pub to_place : (k : ℕ) → k ≤ place → Walk g g.start (get_or q k 0) k
  to_place k h =
      walk_length (omega arith) (walk_ends o.starts (joined_passed q t [] k (omega arith)) (path_segment g (q ++ t ∷ []) o.path 0 k (omega arith) (simp length-append (omega arith))))

  -- the walk from the state at a place to t
  pub from_place : (k : ℕ) → k ≤ place → Walk g (get_or q k 0) t (suc place - k)
  from_place k h =
      walk_length (omega arith) (walk_ends (joined_passed q t [] k (omega arith)) (get_or-append_seam q t [] 0) (path_segment g (q ++ t ∷ []) o.path k (length q) (omega arith) (simp length-append (omega arith))))

  -- the walk from the state at a place to the one at a later place
  pub between : (i j : ℕ) → i ≤ j → j ≤ place → Walk g (get_or q i 0) (get_or q j 0) (j - i)
  between i j h k =
      walk_ends (joined_passed q t [] i (omega (arith, o.places))) (joined_passed q t [] j (omega (arith, o.places))) (path_segment g (q ++ t ∷ []) o.path i j h (simp length-append (omega (arith, o.places))))

  -- the walk from the initial state to t
  to_next : Walk g g.start t (suc place)
  to_next = walk_length (omega arith) (walk_append (to_place 0 (omega arith)) (from_place 0 (omega arith)))

  -- t is a state
  pub next_state : t < g.size
  next_state = walk_end_state o.well_formed o.well_formed.start_state to_next

  -- the state at a place is a state
  pub place_state : (k : ℕ) → k ≤ place → get_or q k 0 < g.size
  place_state k h = walk_end_state o.well_formed o.well_formed.start_state (to_place k h)

  -- t on a stem at its place completes the list
  stem_completes : {w : List ℕ} → StemEntries g l w → OnStem g.size w place t → CompletesWithin g l q t
  stem_completes {w} stems at = by (stems.entries t next_state)
    where
      of_stem : (d : ℕ) → Stem g l t d → d ≡ place + 1 → CompletesWithin g l q t
      of_stem d p same =
          let (b, loop) = p.starts in
          let (e, at-knot, around, total) = start_loop_least o.well_formed l p.knot b o.least loop in
          let far : e ≡ d + p.rest = cc in
          let inside : p.knot < g.size = walk_end_state o.well_formed next_state (dist_walk g t p.knot p.rest p.on) in
          let (turns, (m, i, j, marked, there, back, long)) = loop_length_closed o.well_formed inside around in (
            l,
            omega arith,
            inl (record { knot = p.knot; mark = m; a = p.rest; b = i; c = j; marked = marked; to_knot = dist_walk g t p.knot p.rest p.on; to_mark = there; back = back; turns = omega arith; total = omega arith }),
          )

      by : StemEntry g l t (entry 1 g.size w t) → CompletesWithin g l q t
      by (on_none never e) = absurd (omega arith)
      by (on_stem d p not e) = of_stem d p (omega arith)
      by (on_start d p is e) = of_stem d p (omega arith)

  -- if the loop start is ahead, t is on a stem at its place
  pub ahead_stem : {w : List ℕ} → StemEntries g l w → Ahead g l q t → OnStem g.size w place t
  ahead_stem {w} stems p =
      let wf = o.well_formed in
      let (d, at, low) = dist_le wf wf.start_state to_next in
      let (a, on, short) = dist_le wf next_state p.to_knot in
      let (e, at-knot, near) = dist_le wf wf.start_state (walk_append (dist_walk g g.start t d at) (dist_walk g t p.knot a on)) in
      let closed : ClosedVia g p.knot (p.b + p.c) = (p.turns, (p.mark, p.b, p.c, p.marked, p.to_mark, p.back, refl)) in
      let whole : l ≤ e + (p.b + p.c) = least_length_closed_le wf o.least at-knot closed in
      let (b, loop, _) = start_loop_le wf l (p.b + p.c) (walk_append to_next p.to_knot) closed (omega arith) in
      let here : d ≡ place + 1 = omega arith in
      let far : e ≡ d + a = omega arith in
      by d here (record { knot = p.knot; rest = a; at = at; on = on; whole = at-knot ∙ ap (λ (x : ℕ). some x) far; starts = (b, loop) }) (stems.entries t next_state)
    where
      by : (d : ℕ) → d ≡ place + 1 → Stem g l t d → StemEntry g l t (entry 1 g.size w t) → OnStem g.size w place t
      by d here p (on_none never e) = absurd (never d p)
      by d here p (on_stem d' p' not e) = let q = p.at in let q' = p'.at in let same : d ≡ d' = cc in omega arith
      by d here p (on_start d' p' is e) = let q = p.at in let q' = p'.at in let same : d ≡ d' = cc in omega arith

  -- region 1 says so of a loop start
  starts_said : {w : List ℕ} (s : ℕ) → StemEntries g l w → s < g.size → IsStart g l s → Starts g.size w s
  starts_said {w} s stems inside is = by (stems.entries s inside)
    where
      by : StemEntry g l s (entry 1 g.size w s) → Starts g.size w s
      by (on_none never e) = let (d, p) = start_stem o.well_formed o.least s is in absurd (never d p)
      by (on_stem d p not e) = absurd (not is)
      by (on_start d p is' e) = omega arith

  -- a state of the list reached soon enough, with a mark passed from it on, completes the list
  marked_completes : {w : List ℕ} → Holds g l place q (dist g t) w → ClosesMarked g g.size g.start w place (l - (place + 1)) → CompletesWithin g l q t
  marked_completes {w} h (k, r, a, low, high, marked, at_level, short) =
      let same : get_or (g.start ∷ w) k 0 ≡ get_or q k 0 = h.states k (omega arith) in
      let level : entry 2 g.size w (get_or q k 0) ≡ suc a = ap (entry 2 g.size w) (sym same) ∙ at_level in
      let way : Walk g t (get_or q k 0) a = dist_walk g t (get_or q k 0) a (levels_value h.levels (get_or q k 0) a (place_state k (omega arith)) (omega arith) level) in (
        length q + a,
        omega arith,
        inr (inr (record { k = k; r = r; a = a; k_le = low; r_lt = omega arith; marked = rw (h.states r high) at marked; back = way; total = omega arith })),
      )

  -- the state at a place
  abbrev at : ℕ → ℕ
  at k = get_or q k 0

  -- a closed walk through a mark from a place, with what is left of the least length, makes it the place of a loop start
  loop_at : (k e : ℕ) → k ≤ place → ClosedVia g (at k) e → k + e ≡ l → LoopAt g l at k
  loop_at k e h closed total =
      let wf = o.well_formed in
      let (d, near, low) = dist_le wf wf.start_state (to_place k h) in
      let same : d ≡ k = omega (arith, least_length_closed_le wf o.least near closed) in
      let (b, loop, short) = start_loop_le wf l e (to_place k h) closed (omega arith) in
      record { at = near ∙ ap (λ (x : ℕ). some x) same; is = (b, loop) }

  -- if a mark is ahead, the state to go back to is a loop start at its place
  pub ahead_loop : (p : MarkAhead g l q t) → (p.k ≤ place) × LoopAt g l at p.k
  ahead_loop p =
      let high : p.k ≤ place = omega (arith, p.k_lt, o.places) in
      let there : Walk g (at p.k) p.mark (suc place - p.k + p.a) = walk_append (from_place p.k high) p.to_mark in
      (high, loop_at p.k (suc place - p.k + p.a + p.b) high (omega arith, (p.mark, suc place - p.k + p.a, p.b, p.marked, there, p.back, refl)) (omega (arith, p.total, o.places)))

  -- if both are passed, it is one too
  pub both_loop : (p : BothPassed g l q t) → (p.k ≤ place) × LoopAt g l at p.k
  both_loop p =
      let high : p.r ≤ place = omega (arith, p.r_lt, o.places) in
      let low : p.k ≤ p.r = p.k_le in
      let back : Walk g (at p.r) (at p.k) (suc place - p.r + p.a) = walk_append (from_place p.r high) p.back in
      (omega arith, loop_at p.k (p.r - p.k + (suc place - p.r + p.a)) (omega arith) (omega arith, (at p.r, p.r - p.k, suc place - p.r + p.a, p.marked, between p.k p.r low high, back, refl)) (omega (arith, p.total, o.places)))

  -- a loop start and a mark that are both passed are found
  passed_marked : {w : List ℕ} → Holds g l place q (dist g t) w → BothPassed g l q t → ClosesMarked g g.size g.start w place (l - (place + 1))
  passed_marked {w} h p =
      let high : p.r ≤ place = omega (arith, p.r_lt, o.places) in
      let (a, near, low) = dist_le o.well_formed next_state p.back in
      let level : entry 2 g.size w (at p.k) ≡ suc a = levels_entry h.levels (at p.k) a (place_state p.k (omega arith)) (omega (arith, p.total)) near in
      (p.k, p.r, a, p.k_le, high, rw (h.states p.r high) p.marked, ap (entry 2 g.size w) (h.states p.k (omega arith)) ∙ level, omega (arith, p.total, o.places))

  -- a loop start at its place, with a value up to what is left, is found
  closes_found : {f : ℕ → Option ℕ} {w : List ℕ} → Holds g l place q f w → (k a : ℕ) → k ≤ place → LoopAt g l at k → f (at k) ≡ some a → a ≤ l - (place + 1) → ClosesStart g.size g.start w place (l - (place + 1))
  closes_found {w = w} h k a high loop value short =
      let inside : at k < g.size = place_state k high in
      let same : get_or (g.start ∷ w) k 0 ≡ at k = h.states k high in
      let one : Starts g.size w (get_or (g.start ∷ w) k 0) = rw same (starts_said (at k) h.stems inside loop.is) in
      (k, a, high, one, ap (entry 2 g.size w) same ∙ levels_entry h.levels (at k) a inside (omega arith) value, short)

  -- a mark ahead is found by the distances from t
  mark_ahead_near : {w : List ℕ} → Holds g l place q (dist g t) w → MarkAhead g l q t → ClosesStart g.size g.start w place (l - (place + 1))
  mark_ahead_near holds p =
      let (high, loop) = ahead_loop p in
      let (a, near, low) = dist_le o.well_formed next_state (walk_append p.to_mark p.back) in
      closes_found holds p.k a high loop near (omega (arith, p.total, o.places))

  -- a mark ahead is found by the lengths from t through a mark
  mark_ahead_via : {w : List ℕ} → Holds g l place q (via_mark g t) w → MarkAhead g l q t → ClosesStart g.size g.start w place (l - (place + 1))
  mark_ahead_via holds p =
      let x : ℕ = at p.k in
      let (high, loop) = ahead_loop p in
      let (a, via, low) = is_least_le (ViaMark g t (λ y m. Walk g y x m)) (via_mark g t x) (via_mark_least o.well_formed t next_state x) (p.a + p.b) (p.mark, p.a, p.b, p.marked, p.to_mark, p.back, refl) in
      closes_found holds p.k a high loop via (omega (arith, p.total, o.places))

  -- a state of the list reached soon enough through a mark completes the list
  via_completes : {w : List ℕ} → Holds g l place q (via_mark g t) w → ClosesStart g.size g.start w place (l - (place + 1)) → CompletesWithin g l q t
  via_completes {w} h (k, a, high, starts, at_level, short) =
      let x : ℕ = get_or q k 0 in
      let level : entry 2 g.size w x ≡ suc a = ap (entry 2 g.size w) (sym (h.states k high)) ∙ at_level in
      let via : via_mark g t x ≡ some a = levels_value h.levels x a (place_state k high) (omega arith) level in
      let (m, i, j, marked, there, back, total) = is_least_has (ViaMark g t (λ y m. Walk g y x m)) (via_mark g t x) (via_mark_least o.well_formed t next_state x) a via in (
        length q + i + j,
        omega arith,
        inr (inl (record { k = k; mark = m; a = i; b = j; k_lt = omega arith; marked = marked; to_mark = there; back = back; total = omega arith })),
      )

  -- what can be completed with at most l edges extends the list
  extends_of : CompletesWithin g l q t → Extends g l (q ++ t ∷ [])
  extends_of = (extends_least_iff g q t o.path o.starts o.well_formed l o.least).1

  -- t on a stem at its place extends the list
  pub stem_extends : {w : List ℕ} → StemEntries g l w → OnStem g.size w place t → Extends g l (q ++ t ∷ [])
  stem_extends stems x = extends_of (stem_completes stems x)

  -- what extends the list has a mark ahead, or both passed, if the loop start is not ahead
  pub extends_passed : (Ahead g l q t → ⊥) → Extends g l (q ++ t ∷ []) → MarkAhead g l q t ⊎ BothPassed g l q t
  extends_passed never x = elim (extends_completes g l q t x) [ inl p ↦ absurd (never p) | inr p ↦ p ]

  -- if no loop start is ahead and none is passed, nothing extends the list
  pub none_extends : (Ahead g l q t → ⊥) → ((k : ℕ) → k ≤ place → LoopAt g l at k → ⊥) → Extends g l (q ++ t ∷ []) → ⊥
  none_extends never none_passed x =
      elim (extends_passed never x) [
        | inl p ↦ none_passed p.k (ahead_loop p).0 (ahead_loop p).1
        | inr p ↦ none_passed p.k (both_loop p).0 (both_loop p).1
      ]

  -- a loop start and a mark passed extend the list
  pub marked_extends : {w : List ℕ} → Holds g l place q (dist g t) w → ClosesMarked g g.size g.start w place (l - (place + 1)) → Extends g l (q ++ t ∷ [])
  marked_extends h x = extends_of (marked_completes h x)

  -- once there is neither a stem nor a loop start and a mark passed
  module _ {w : List ℕ} (h : Holds g l place q (dist g t) w) (no_stem : OnStem g.size w place t → ⊥) (no_mark : ClosesMarked g g.size g.start w place (l - (place + 1)) → ⊥) where
    -- what extends the list is a mark ahead
    extends_ahead : Extends g l (q ++ t ∷ []) → MarkAhead g l q t
    extends_ahead x =
        elim (extends_passed (λ p. no_stem (ahead_stem h.stems p)) x) [
          | inl p ↦ p
          | inr p ↦ absurd (no_mark (passed_marked h p))
        ]

    -- no state of the list that can start the loop is near enough: nothing extends the list
    pub closes_not_extends : (ClosesStart g.size g.start w place (l - (place + 1)) → ⊥) → Extends g l (q ++ t ∷ []) → ⊥
    closes_not_extends none-near x = none-near (mark_ahead_near h (extends_ahead x))

    -- the way through a mark to a state of the list that can start the loop decides
    pub closes_decides : {v : List ℕ} → Holds g l place q (via_mark g t) v → (b : Bool) → Decides (ClosesStart g.size g.start v place (l - (place + 1))) b → Decides (Extends g l (q ++ t ∷ [])) b
    closes_decides k b = decides_iff (λ x. extends_of (via_completes k x)) (λ x. mark_ahead_via k (extends_ahead x)) b
