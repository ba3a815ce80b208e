-- Laws of the lists of sources: what a start level in region 2 says, and how the lists grow while the states are gone
-- through in ascending number.
use Prim.Native.Nat.{ℕ, zero, suc, ◌+◌, ◌*◌, ◌≤◌, ◌<◌}
use mathlib.Core.Path.{◌≡◌, ◌∙◌, subst}
use mathlib.Core.Logic.{inl, inr}
use mathlib.Core.List.{List}
use mathlib.Core.Option.{Option, some}
use native.Mathlib.Omega.{arith}
use native.Mathlib.Decide.{ℕ_discrete}
use lib.ListN.{length, get_or, set, length-set}
use lib.Seq.{get_or-set_same, get_or-set_other}
use Rattle.lists.proofs.Tests.{lt_or_ge}
use Rattle.table.specs.Changes.{SameOutside, Cleared}
use Rattle.table.proofs.Laws.{same_outside_widen, same_outside_set}
use Rattle.frontier.specs.Regions.{entry, value_of}
use Rattle.lists.specs.Limit.{under}
use Rattle.frontier.specs.Buckets.{sources, Greatest, SourcesListed, with_source, Planned}
use Rattle.lists.proofs.UnderLaws.{under_some, under_lt}

-- a start level is told by the entry and is below the limit
pub source_entry : (limit e a : ℕ) → under limit (value_of e) ≡ some a → (e ≡ suc a) × (a < limit)
source_entry limit zero a h = let z : ◌≡◌ {A = ℕ} 0 1 = cc in absurd (omega arith)
source_entry limit (suc v) a h =
    let r : (◌≡◌ {A = Option ℕ} (some v) (some a)) × (a < limit) = under_some limit (some v) a h in (cc r.0, r.1)

-- an entry that tells a level below the limit is a start level
pub entry_source : (limit e a : ℕ) → e ≡ suc a → a < limit → under limit (value_of e) ≡ some a
entry_source limit e a h l = rw h (under_lt limit a l)

-- the greatest source stays the greatest past a state that is no source of the level
pub greatest_skip : {source : ℕ → Option ℕ} {a b v : ℕ} → Greatest source a b v → (source b ≡ some a → ⊥) → Greatest source a (b + 1) v
greatest_skip {source} {a} {b} G other =
    record {
      within = omega arith;
      names = G.names;
      none_above = λ s h l e.
          elim (lt_or_ge s b) [
            | inl k ↦ G.none_above s h k e
            | inr k ↦ let q : s ≡ b = omega arith in other (rw q at e)
          ];
    }

-- a source is the greatest up to itself
pub greatest_here : {source : ℕ → Option ℕ} {a : ℕ} (b : ℕ) → source b ≡ some a → Greatest source a (b + 1) (b + 1)
greatest_here {source} {a} b e =
    record {
      within = omega arith;
      names = λ s h. let q : s ≡ b = omega arith in rw q e;
      none_above = λ s h l k. absurd (omega arith);
    }

-- the lists stand in regions 4 and 5 alone
pub listed_same : {source : ℕ → Option ℕ} {n limit b : ℕ} {w w' : List ℕ} → ((i : ℕ) → 4 * n ≤ i → get_or w' i 0 ≡ get_or w i 0) → SourcesListed source n limit b w → SourcesListed source n limit b w'
listed_same {n = n} same L =
    record {
      firsts = λ a h. rw (same (4 * n + a) (omega arith)) (L.firsts a h);
      nexts = λ s a h e. rw (same (5 * n + s) (omega arith)) (L.nexts s a h e);
    }

-- The plan after the states below s: their entries in region 2 are clear, the others are as they were, and the sources
-- below s are listed.
pub record Planning (n limit s : ℕ) (w₀ w : List ℕ) : Type 0 where
  pub outside : SameOutside (2 * n) (6 * n) w₀ w
  pub clear : (i : ℕ) → i < s → entry 2 n w i ≡ 0
  pub unread : (i : ℕ) → s ≤ i → i < n → entry 2 n w i ≡ entry 2 n w₀ i
  pub lists : SourcesListed (sources n limit w₀) n limit s w

-- the plan of an equal table
pub planning_same : {n limit s : ℕ} {w₀ w w' : List ℕ} → w' ≡ w → Planning n limit s w₀ w → Planning n limit s w₀ w'
planning_same e P = rw e P

-- before the first state the lists are empty
pub planning_none : (n limit : ℕ) (w w' : List ℕ) → limit ≤ n → Cleared (4 * n) (4 * n + limit) w w' → Planning n limit 0 w w'
planning_none n limit w w' l c =
    record {
      outside = same_outside_widen (2 * n) (6 * n) (omega arith) (omega arith) c.others;
      clear = λ i h. absurd (omega arith);
      unread = λ i h k. c.others.same_before (2 * n + i) (omega arith);
      lists =
          record {
            firsts = λ a h.
                let e : entry 4 n w' a ≡ 0 = c.zeros (4 * n + a) (omega arith) (omega arith) in
                record {
                  within = omega arith;
                  names = λ s q. absurd (omega arith);
                  none_above = λ s p q r. absurd (omega arith);
                };
            nexts = λ s a h e. absurd (omega arith);
          };
    }

-- once all states are gone through, the plan is made
pub planning_done : {n limit s : ℕ} {w₀ w : List ℕ} → s ≡ n → Planning n limit s w₀ w → Planned n limit w₀ w
planning_done {n} {limit} {s} {w₀} {w} e P =
    record {
      outside = P.outside;
      clear = λ i h. P.clear i (omega arith);
      lists = subst (λ (b : ℕ). SourcesListed (sources n limit w₀) n limit b w) e P.lists;
    }

module _ (n limit s : ℕ) (w₀ w : List ℕ) (inside : s < n) (fits : 6 * n ≤ length w) (P : Planning n limit s w₀ w) where
  -- the table without the entry of s
  abbrev read : List ℕ
  read = set w (2 * n + s) 0

  -- the entries of other places stay
  read_other : (i : ℕ) → (i ≡ 2 * n + s → ⊥) → get_or read i 0 ≡ get_or w i 0
  read_other i d = get_or-set_other w (2 * n + s) i 0 0 d

  -- region 2 after the entry of s is cleared: clear below s + 1
  read_clear : (i : ℕ) → i < s + 1 → entry 2 n read i ≡ 0
  read_clear i h =
      elim (lt_or_ge i s) [
        | inl l ↦ read_other (2 * n + i) (λ q. omega arith) ∙ P.clear i l
        | inr g ↦ let q : i ≡ s = omega arith in rw q (get_or-set_same w (2 * n + s) 0 0 (omega arith))
      ]

  -- region 2 after the entry of s is cleared: as it was from s + 1 on
  read_unread : (i : ℕ) → s + 1 ≤ i → i < n → entry 2 n read i ≡ entry 2 n w₀ i
  read_unread i h l = read_other (2 * n + i) (λ q. omega arith) ∙ P.unread i (omega arith) l

  -- a state that is no source below the limit leaves the lists as they are
  pub planning_skip : ((a : ℕ) → sources n limit w₀ s ≡ some a → ⊥) → Planning n limit (s + 1) w₀ read
  planning_skip other =
      record {
        outside = same_outside_set (2 * n + s) 0 (omega arith) (omega arith) P.outside;
        clear = read_clear;
        unread = read_unread;
        lists =
            record {
              firsts = λ a h. rw (read_other (4 * n + a) (λ q. omega arith)) (greatest_skip (P.lists.firsts a h) (other a));
              nexts = λ i a h e.
                  elim (lt_or_ge i s) [
                    | inl l ↦ rw (read_other (5 * n + i) (λ q. omega arith)) (P.lists.nexts i a l e)
                    | inr g ↦ let q : i ≡ s = omega arith in absurd (other a (rw q at e))
                  ];
            };
      }

  module _ (a : ℕ) (limited : limit ≤ n) (low : a < limit) (source : sources n limit w₀ s ≡ some a) where
    -- the entries of other places stay when s is put in front of its list
    listed_other : (i : ℕ) → (i ≡ 5 * n + s → ⊥) → (i ≡ 4 * n + a → ⊥) → get_or (with_source n a s read) i 0 ≡ get_or read i 0
    listed_other i p q =
        get_or-set_other (set read (5 * n + s) (entry 4 n read a)) (4 * n + a) i (s + 1) 0 q ∙
        get_or-set_other read (5 * n + s) i (entry 4 n read a) 0 p

    -- region 4 then names s
    listed_first : entry 4 n (with_source n a s read) a ≡ s + 1
    listed_first =
        get_or-set_same (set read (5 * n + s) (entry 4 n read a)) (4 * n + a) (s + 1) 0 (simp length-set (omega arith))

    -- region 5 then names what was first before
    listed_next : entry 5 n (with_source n a s read) s ≡ entry 4 n w a
    listed_next =
        get_or-set_other (set read (5 * n + s) (entry 4 n read a)) (4 * n + a) (5 * n + s) (s + 1) 0 (λ q. omega arith) ∙
        get_or-set_same read (5 * n + s) (entry 4 n read a) 0 (simp length-set (omega arith)) ∙
        read_other (4 * n + a) (λ q. omega arith)

    -- a source is put in front of the list of its level
    pub planning_list : Planning n limit (s + 1) w₀ (with_source n a s read)
    planning_list =
        record {
          outside =
              same_outside_set (4 * n + a) (s + 1) (omega arith) (omega arith)
              (same_outside_set (5 * n + s) (entry 4 n read a) (omega arith) (omega arith)
              (same_outside_set (2 * n + s) 0 (omega arith) (omega arith) P.outside));
          clear = λ i h. listed_other (2 * n + i) (λ q. omega arith) (λ q. omega arith) ∙ read_clear i h;
          unread = λ i h l. listed_other (2 * n + i) (λ q. omega arith) (λ q. omega arith) ∙ read_unread i h l;
          lists =
              record {
                firsts = λ b h.
                    elim (ℕ_discrete b a) [
                      | yes e ↦ rw (e, listed_first) (greatest_here s source)
                      | no d ↦ rw (listed_other (4 * n + b) (λ q. omega arith) (λ q. d (omega arith)), read_other (4 * n + b) (λ q. omega arith)) (greatest_skip (P.lists.firsts b h) (λ e. d (cc)))
                    ];
                nexts = λ i b h e.
                    elim (lt_or_ge i s) [
                      | inl l ↦ rw (listed_other (5 * n + i) (λ q. omega arith) (λ q. omega arith), read_other (5 * n + i) (λ q. omega arith)) (P.lists.nexts i b l e)
                      | inr g ↦
                          let q : i ≡ s = omega arith in
                          let r : b ≡ a = cc in
                          rw (q, r, listed_next) (P.lists.firsts a low)
                    ];
              };
        }
