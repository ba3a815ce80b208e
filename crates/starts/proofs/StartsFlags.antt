-- Flags in region 1: what a change of the table flags, that no flag is taken away, and how flags come one by one, by the
-- successors of a state and by states.
use Prim.Native.Nat.{ℕ, ◌+◌, ◌*◌, ◌≤◌, ◌<◌}
use mathlib.Core.Path.{◌≡◌, sym, subst, ◌∙◌, ap}
use mathlib.Core.Logic.{◌⊎◌, inl, inr, ⊎_elim}
use mathlib.Core.List.{List}
use native.Mathlib.Omega.{arith}
use native.Mathlib.Decide.{ℕ_discrete}
use lib.ListN.{length, get_or, set}
use lib.Seq.{get_or-set_same, get_or-set_other}
use Rattle.lasso.specs.Graph.{Graph, WellFormed}
use Rattle.lists.proofs.Tests.{lt_or_ge, memb_at}
use Rattle.table.specs.Changes.{SameOutside}
use Rattle.table.proofs.Laws.{same_outside_refl, same_outside_trans, set_same_outside}
use Rattle.starts.specs.Flags.{LowEdge, Flagging, FlagsRow, FlagsStarts}

-- where no state has the property, nothing has to change
pub flagging_none : {P : ℕ → Type 0} (n : ℕ) (w : List ℕ) → ((t : ℕ) → P t → ⊥) → Flagging n P w w
flagging_none n w none =
    record { same = same_outside_refl n (2 * n) w; kept = λ i h. h; flagged = λ t p. absurd (none t p) }

-- a store of 1 flags its state
flagging_put : (n t : ℕ) (w : List ℕ) → t < n → 2 * n ≤ length w → Flagging n (λ s. s ≡ t) w (set w (n + t) 1)
flagging_put n t w h room = record {
  same = set_same_outside w (n + t) 1 n (2 * n) (omega arith) (omega arith);
  kept = λ i k. elim (ℕ_discrete i (n + t)) [
    | yes e ↦ rw (e, get_or-set_same w (n + t) 1 0 (omega arith)) (omega arith)
    | no d ↦ rw (get_or-set_other w (n + t) i 1 0 d) k
  ];
  flagged = λ s e. rw (e, get_or-set_same w (n + t) 1 0 (omega arith)) (omega arith);
}

-- what is flagged by one of two changes is flagged after both
flagging_or : {n : ℕ} {P Q : ℕ → Type 0} {u v w : List ℕ} → Flagging n P u v → Flagging n Q v w → Flagging n (λ t. P t ⊎ Q t) u w
flagging_or {n} a b = record {
  same = same_outside_trans a.same b.same;
  kept = λ i h. b.kept i (a.kept i h);
  flagged = λ t p. ⊎_elim (λ x. b.kept (n + t) (a.flagged t x)) (λ y. b.flagged t y) p;
}

-- fewer states may be asked for
flagging_by : {n : ℕ} {P Q : ℕ → Type 0} {w w' : List ℕ} → ((t : ℕ) → Q t → P t) → Flagging n P w w' → Flagging n Q w w'
flagging_by f a = record { same = a.same; kept = a.kept; flagged = λ t q. a.flagged t (f t q) }

-- t stands at one of the first k places of the list, and its entry in region 0 is at most d
pub record LowBefore (ss w : List ℕ) (d k t : ℕ) : Type 0 where
  pub place : ℕ
  pub before : place < k
  pub holds : get_or ss place 0 ≡ t
  pub low : get_or w t 0 ≤ d

-- what stands at one of the first k + 1 places stands at one of the first k, or at place k
low_last : {ss w : List ℕ} {d k t : ℕ} → LowBefore ss w d (k + 1) t → LowBefore ss w d k t ⊎ (get_or ss k 0 ≡ t)
low_last {ss} {k = k} l =
    elim (lt_or_ge l.place k) [
      | inl less ↦ inl (record { place = l.place; before = less; holds = l.holds; low = l.low })
      | inr ge ↦ let z : k ≡ l.place = omega arith in inr (ap (λ (i : ℕ). get_or ss i 0) z ∙ l.holds)
    ]

-- one more place of the list: the state there is flagged
pub low_put : {ss w w' : List ℕ} {n d k : ℕ} (t : ℕ) → get_or ss k 0 ≡ t → t < n → 2 * n ≤ length w
    → Flagging n (LowBefore ss w d k) w w' → Flagging n (LowBefore ss w d (k + 1)) w (set w' (n + t) 1)
low_put {w' = w'} {n} t e h room a =
    flagging_by (λ s l. elim (low_last l) [ inl b ↦ inl b | inr q ↦ inr (sym q ∙ e) ])
    (flagging_or a (flagging_put n t w' h (omega (arith, a.same.same_length))))

-- one more place of the list: the entry of the state there is greater
pub low_pass : {ss w w' : List ℕ} {n d k : ℕ} (t : ℕ) → get_or ss k 0 ≡ t → t < n → d < get_or w' t 0
    → Flagging n (LowBefore ss w d k) w w' → Flagging n (LowBefore ss w d (k + 1)) w w'
low_pass {w = w} {d = d} t e h high a =
    flagging_by (λ s l. elim (low_last l) [
      | inl b ↦ b
      | inr q ↦
          let here : get_or w t 0 ≤ d = subst (λ (i : ℕ). get_or w i 0 ≤ d) (sym q ∙ e) l.low in
          absurd (omega (arith, a.same.same_before t h))
    ]) a

-- a state's row is done: each successor whose entry is no greater is flagged
pub row_flagged : {ss w w' : List ℕ} {n d k : ℕ} (g : Graph) (u : ℕ) → ss ≡ g.succs u → length ss ≤ k → d ≡ get_or w u 0
    → Flagging n (LowBefore ss w d k) w w' → FlagsRow g n u w w'
row_flagged {ss} g u row long e a =
    flagging_by (λ t l.
    let (j, h, q) = memb_at t ss (rw row l.edge) in
    record { place = j; before = omega arith; holds = q; low = omega (arith, l.low) }) a

-- an edge enters t from one of the first i states, which is reached and whose entry in region 0 is no less than that of t
pub record EnteredBefore (g : Graph) (w : List ℕ) (i t : ℕ) : Type 0 where
  pub from : ℕ
  pub before : from < i
  pub reached : 1 ≤ get_or w from 0
  pub entering : LowEdge g w from t

-- an edge from one of the first i + 1 states is from one of the first i, or from state i
entered_last : {g : Graph} {w : List ℕ} {i t : ℕ} → EnteredBefore g w (i + 1) t
    → EnteredBefore g w i t ⊎ ((1 ≤ get_or w i 0) × LowEdge g w i t)
entered_last {g} {w} {i} {t} l =
    elim (lt_or_ge l.from i) [
      | inl less ↦ inl (record { from = l.from; before = less; reached = l.reached; entering = l.entering })
      | inr ge ↦
          let z : l.from ≡ i = omega arith in
          inr (subst (λ (u : ℕ). (1 ≤ get_or w u 0) × LowEdge g w u t) z (l.reached, l.entering))
    ]

-- one more state: its row is flagged
pub entered_row : {g : Graph} {n i : ℕ} {v w w' : List ℕ} → WellFormed g → n ≡ g.size
    → Flagging n (EnteredBefore g v i) v w → FlagsRow g n i w w' → Flagging n (EnteredBefore g v (i + 1)) v w'
entered_row {g} {n} {i} {v} {w} wf size a b =
    flagging_by (λ t l. elim (entered_last l) [ inl e ↦ inl e | inr (r, e) ↦ inr (later t e) ]) (flagging_or a b)
  where
    later : (t : ℕ) → LowEdge g v i t → LowEdge g w i t
    later t e =
        let states : (i < g.size) × (t < g.size) = wf.edge_states i t e.edge in
        record { edge = e.edge; low = omega (arith, e.low, a.same.same_before i (omega arith), a.same.same_before t (omega arith)) }

-- one more state: it is not reached
pub entered_pass : {g : Graph} {n i : ℕ} {v w : List ℕ} → i < n → get_or w i 0 ≡ 0 → Flagging n (EnteredBefore g v i) v w
    → Flagging n (EnteredBefore g v (i + 1)) v w
entered_pass {i = i} h none a =
    flagging_by (λ t l. elim (entered_last l) [
      | inl e ↦ e
      | inr (r, e) ↦ absurd (omega (arith, a.same.same_before i h))
    ]) a

-- all states are done, and region 1 alone changed before: the states that may start the loop are flagged
pub all_flagged : {g : Graph} {n i : ℕ} {v w w' : List ℕ} → WellFormed g → n ≡ g.size → n ≤ i → SameOutside n (2 * n) v w
    → Flagging n (EnteredBefore g w i) w w' → FlagsStarts g n v w'
all_flagged {g} {n} {i} wf size all same a = record {
  same = same_outside_trans same a.same;
  flagged = λ u t reached e.
      let states : (u < g.size) × (t < g.size) = wf.edge_states u t e.edge in
      let from = same.same_before u (omega arith) in
      let to = same.same_before t (omega arith) in
      a.flagged t (record {
        from = u;
        before = omega arith;
        reached = omega arith;
        entering = record { edge = e.edge; low = omega (arith, e.low) };
      });
}
