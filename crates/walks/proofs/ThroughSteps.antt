-- What the steps of the searches from one state and from the marked states do: one source is put down and the search turns
-- its level into distances; the levels of the marked states are kept and the search goes on from them.
use Prim.Native.Nat.{ℕ, suc, ◌+◌, ◌*◌, ◌≤◌, ◌<◌}
use mathlib.Core.Path.{◌≡◌, refl, ◌∙◌, ap}
use mathlib.Core.Bool.{Bool, true, false}
use mathlib.Core.List.{List}
use mathlib.Core.Option.{some}
use native.Mathlib.Omega.{arith}
use native.Mathlib.Decide.{ℕ_discrete}
use lib.ListN.{length, get_or, set, length-set}
use lib.Seq.{get_or-set_same, get_or-set_other}
use Rattle.lists.specs.Lists.{pick}
use Rattle.lasso.specs.Graph.{Graph, WellFormed}
use Rattle.table.specs.Changes.{SameOutside, Cleared}
use Rattle.table.proofs.Laws.{same_outside_sym, set_same_outside, same_outside_set, same_outside_trans, same_outside_widen}
use Rattle.edge_search.specs.declared.SpreadAnswer.{SpreadAnswer}
use Rattle.edge_search.specs.declared.SpreadAnswer.TheVariants.{Nothing}
use Rattle.frontier.specs.Regions.{entry, value_of}
use Rattle.lists.specs.Limit.{under}
use Rattle.frontier.specs.Buckets.{sources, with_source, Planned}
use Rattle.edge_search.specs.Promises.{SpreadFrom, Spread}
use Rattle.walks.specs.Through.{only_if, SameButOne, DistancesWithin, marked_sources, OneSource, PlannedAt, KeptMarked}
use Rattle.frontier.proofs.BucketLaws.{source_entry, entry_source}
use Rattle.hits.proofs.HitLaws.{Single}
use Rattle.spread.proofs.SearchLaws.{spread_nothing, spread_same, exhausted_distances}

-- a change inside region 2 is a change inside the regions that a search uses
region_within : (n : ℕ) {w w' : List ℕ} → SameOutside (2 * n) (3 * n) w w' → SameOutside (2 * n) (6 * n) w w'
region_within n s = same_outside_widen (2 * n) (6 * n) (omega arith) (omega arith) s

-- a cleared region with one store of 1 holds one source
pub cleared_started : (n x : ℕ) (w u : List ℕ) → x < n → 3 * n ≤ length w → Cleared (2 * n) (3 * n) w u
    → OneSource n x w (set u (2 * n + x) 1)
cleared_started n x w u l b c =
    record {
      outside = same_outside_set (2 * n + x) 1 (omega arith) (omega arith) c.others;
      source = get_or-set_same u (2 * n + x) 1 0 (omega (arith, c.others.same_length));
      others = λ s p d. get_or-set_other u (2 * n + x) (2 * n + s) 1 0 (λ e. d (omega arith)) ∙ c.zeros (2 * n + s) (omega arith) (omega arith);
    }

-- A table u whose region 2 says that x is the one source, and the table d that has nothing in region 2 and in the heads of
-- the lists: with x in front of the list of level 0, it has the plan of a search from u.
module _ {n x limit : ℕ} {w u d : List ℕ} (inside : x < n) (low : 1 ≤ limit) (limited : limit ≤ n) (fits : 6 * n ≤ length d) (st : OneSource n x w u) (same : SameOutside (2 * n) (6 * n) u d) (clear : (s : ℕ) → s < n → entry 2 n d s ≡ 0) (heads : (a : ℕ) → a < limit → entry 4 n d a ≡ 0) where
  -- the table with the list
  abbrev one : List ℕ
  one = with_source n 0 x d

  -- other places stay
  one_other : (i : ℕ) → (i ≡ 5 * n + x → ⊥) → (i ≡ 4 * n + 0 → ⊥) → get_or one i 0 ≡ get_or d i 0
  one_other i p q =
      get_or-set_other (set d (5 * n + x) (entry 4 n d 0)) (4 * n + 0) i (x + 1) 0 q ∙
      get_or-set_other d (5 * n + x) i (entry 4 n d 0) 0 p

  -- region 4 names x
  one_first : entry 4 n one 0 ≡ x + 1
  one_first = get_or-set_same (set d (5 * n + x) (entry 4 n d 0)) (4 * n + 0) (x + 1) 0 (simp length-set (omega arith))

  -- region 5 names no next source
  one_next : entry 5 n one x ≡ 0
  one_next =
      get_or-set_other (set d (5 * n + x) (entry 4 n d 0)) (4 * n + 0) (5 * n + x) (x + 1) 0 (λ q. omega arith) ∙
      get_or-set_same d (5 * n + x) (entry 4 n d 0) 0 (omega arith) ∙
      heads 0 low

  -- a source is x, at level 0
  one_source : (s a : ℕ) → s < n → sources n limit u s ≡ some a → (s ≡ x) × (a ≡ 0)
  one_source s a l e =
      let h : (entry 2 n u s ≡ suc a) × (a < limit) = source_entry limit (entry 2 n u s) a e in
      elim (ℕ_discrete s x) [
        | yes q ↦ (q, omega (arith, h.0, st.source, ap (λ (y : ℕ). entry 2 n u y) q))
        | no q ↦ absurd (omega (arith, h.0, st.others s l q))
      ]

  -- x is one
  one_here : sources n limit u x ≡ some 0
  one_here = entry_source limit (entry 2 n u x) 0 st.source low

  -- the plan of a search from the one source
  pub one_planned : Planned n limit u one
  one_planned =
      record {
        outside =
            same_outside_set (4 * n + 0) (x + 1) (omega arith) (omega arith)
            (same_outside_set (5 * n + x) (entry 4 n d 0) (omega arith) (omega arith) same);
        clear = λ s l. one_other (2 * n + s) (λ q. omega arith) (λ q. omega arith) ∙ clear s l;
        lists =
            record {
              firsts = λ a l.
                  elim (ℕ_discrete a 0) [
                    | yes q ↦
                        rw (q, one_first)
                        (record {
                          within = omega arith;
                          names = λ s h. let e : s ≡ x = omega arith in rw e one_here;
                          none_above = λ s h k e. omega (arith, one_source s 0 k e);
                        })
                    | no q ↦
                        rw (one_other (4 * n + a) (λ e. omega arith) (λ e. q (omega arith)), heads a l)
                        (record {
                          within = omega arith;
                          names = λ s h. absurd (omega arith);
                          none_above = λ s h k e. q (one_source s a k e).1;
                        })
                  ];
              nexts = λ s a l e.
                  let r = one_source s a l e in
                  rw (r.0, one_next)
                  (record {
                    within = omega arith;
                    names = λ t h. absurd (omega arith);
                    none_above = λ t h k f. omega (arith, one_source t a (omega arith) f);
                  });
            };
      }

-- region 2 and the heads are cleared, and x is put in front of the list of level 0: the plan of a search from x
pub cleared_planned : (n x limit : ℕ) (w c d : List ℕ) → x < n → 1 ≤ limit → limit ≤ n → 6 * n ≤ length w
    → Cleared (2 * n) (3 * n) w c → Cleared (4 * n) (4 * n + limit) c d → PlannedAt n x limit w (with_source n 0 x d)
cleared_planned n x limit w c d l p m b two four =
    let st : OneSource n x w (set c (2 * n + x) 1) = cleared_started n x w c l (omega arith) two in
    record {
      origin = set c (2 * n + x) 1;
      started = st;
      planned =
          one_planned l p m (omega (arith, two.others.same_length, four.others.same_length)) st
          (same_outside_trans (same_outside_sym (set_same_outside c (2 * n + x) 1 (2 * n) (6 * n) (omega arith) (omega arith))) (same_outside_widen (2 * n) (6 * n) (omega arith) (omega arith) four.others))
          (λ s h. four.others.same_before (2 * n + s) (omega arith) ∙ two.zeros (2 * n + s) (omega arith) (omega arith))
          (λ a h. four.zeros (4 * n + a) (omega arith) (omega arith));
      fifth = λ s h apart.
          get_or-set_other (set d (5 * n + x) (entry 4 n d 0)) (4 * n + 0) (5 * n + s) (x + 1) 0 (λ q. omega arith)
          ∙ get_or-set_other d (5 * n + x) (5 * n + s) (entry 4 n d 0) 0 (λ q. apart (omega arith))
          ∙ four.others.same_after (5 * n + s) (omega arith)
          ∙ two.others.same_after (5 * n + s) (omega arith);
    }

-- region 2 keeps the entries of the marked states among those below i, and of all from i on
pub record KeptBelow (marked : ℕ → Bool) (n i : ℕ) (w w' : List ℕ) : Type 0 where
  pub outside : SameOutside (2 * n) (3 * n) w w'
  pub passed : (s : ℕ) → s < i → entry 2 n w' s ≡ pick (marked s) (entry 2 n w s) 0
  pub rest : (s : ℕ) → i ≤ s → entry 2 n w' s ≡ entry 2 n w s

-- one source is put down
started_single : {n x : ℕ} {w u : List ℕ} → x < n → OneSource n x w u → Single n x (λ s. value_of (entry 2 n u s))
started_single l st =
    record {
      inside = l;
      zero_at = ap value_of st.source;
      none_else = λ s p d. ap value_of (st.others s p d);
    }

-- a search from one source with a target that is no state answers how many states it reached, and leaves the distances up
-- to the limit
pub started_distances : {g : Graph} {x limit : ℕ} {w u : List ℕ} (w' : List ℕ) → WellFormed g → x < g.size
    → 1 ≤ limit → (r : SpreadAnswer) → OneSource g.size x w u → SameButOne g.size x w w' → Spread g limit g.size u w' r
    → (count : ℕ) × (r ≡ Nothing count) × DistancesWithin g x limit w w' count
started_distances {g} {x} {limit} {w} {u} w' wf l p r st fifth sp =
    let (count, is, ex) = spread_nothing (sources g.size limit u) wf r sp in (
      count,
      is,
      record {
        outside = same_outside_trans (region_within g.size st.outside) ex.outside;
        distances = exhausted_distances (λ s. value_of (entry 2 g.size u s)) p (started_single l st) ex;
        queue = ex.queue;
        fifth = fifth;
      },
    )

-- the value of an entry that is kept or made 0 is kept or none
pick_value : (b : Bool) (e : ℕ) → value_of (pick b e 0) ≡ only_if b (value_of e)
pick_value true e = refl
pick_value false e = refl

-- a search from the kept levels is a search from the marked states
pub kept_spread : {g : Graph} (limit target : ℕ) {w k : List ℕ} (w' : List ℕ) → (r : SpreadAnswer) → KeptMarked g w k
    → Spread g limit target k w' r → SpreadFrom g (marked_sources g limit w) limit target w w' r
kept_spread {g} limit target {w} {k} w' r kept sp =
    spread_same g (sources g.size limit k) (marked_sources g limit w) same limit target w' (region_within g.size kept.outside) r sp
  where
    same : (s : ℕ) → s < g.size → sources g.size limit k s ≡ marked_sources g limit w s
    same s l =
        ap (λ (e : ℕ). under limit (value_of e)) (kept.levels s l)
        ∙ ap (under limit) (pick_value (g.marked s) (entry 2 g.size w s))
