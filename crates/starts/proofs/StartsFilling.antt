-- How the entries of region 1 come, state by state: a flagged state's entry is stored, one that is not flagged stays 0,
-- since the loop of a shortest lasso cannot start there.
use Prim.Native.Nat.{ℕ, suc, ◌+◌, ◌*◌, ◌≤◌, ◌<◌}
use mathlib.Core.Path.{◌≡◌, sym, ap, subst, ◌∙◌}
use mathlib.Core.Logic.{inl, inr}
use mathlib.Core.List.{List}
use mathlib.Core.Option.{some}
use native.Mathlib.Omega.{arith}
use lib.ListN.{length, get_or, set}
use lib.Seq.{get_or-set_same, get_or-set_other}
use Rattle.lasso.specs.Graph.{Graph, WellFormed}
use Rattle.lasso.specs.Roll.{least_length}
use Rattle.lists.proofs.Tests.{lt_or_ge}
use Rattle.model.specs.declared.Header.{Header}
use Rattle.model.proofs.Laws.{valid_sizes}
use Rattle.table.specs.Changes.{SameOutside}
use Rattle.table.proofs.Laws.{same_outside_refl, same_outside_widen, same_outside_trans, same_outside_set}
use Rattle.frontier.specs.Regions.{entry_of}
use Rattle.candidates.specs.Promises.{StartDistances, RoundsReady}
use Rattle.starts.specs.LoopStarts.{start_loop, StartLoops}
use Rattle.starts.specs.Flags.{FlagsStarts}
use Rattle.starts.proofs.StartLaws.{dist_state, start_loop_entered}
use Rattle.candidates.proofs.DistanceLaws.{start_entry}
use Rattle.starts.proofs.StartsEntries.{none_entry_of}

-- the entries of the first i states are in region 1, and among the other states those that are not flagged start no loop
pub record Filling (g : Graph) (l i n : ℕ) (v w : List ℕ) : Type 0 where
  pub same : SameOutside n (6 * n) v w
  pub done : (s : ℕ) → s < i → get_or w (n + s) 0 ≡ entry_of (start_loop g l s)
  pub left : (s : ℕ) → i ≤ s → s < n → get_or w (n + s) 0 ≡ 0 → 0 ≡ entry_of (start_loop g l s)

-- each state is flagged that an edge enters from a reached state no nearer to the initial state: the others start no loop
pub flags_start : {g : Graph} {l n : ℕ} {v w : List ℕ} → WellFormed g → least_length g ≡ some l → StartDistances g v
    → FlagsStarts g n v w → Filling g l 0 n w w
flags_start {g} {l} {n} {v} {w} wf least at flags = record {
  same = same_outside_refl n (6 * n) w;
  done = λ s h. absurd (omega arith);
  left = λ s h k z. none_entry_of (start_loop g l s) (λ b q.
      let (u, d, e, edge, to-u, to-s, le) = start_loop_entered wf l s b least q in
      let from : get_or v u 0 ≡ suc e = start_entry at u (dist_state wf to-u) ∙ ap entry_of to-u in
      let to : get_or v s 0 ≡ suc d = start_entry at s (dist_state wf to-s) ∙ ap entry_of to-s in
      omega (arith, flags.flagged u s (omega arith) (record { edge = edge; low = omega arith })));
}

-- one more state: its entry is stored, after a change of the regions after
pub filling_put : {g : Graph} {l i n value : ℕ} {v w w' : List ℕ} → i < n → n + i < length w'
    → SameOutside (2 * n) (6 * n) w w' → value ≡ entry_of (start_loop g l i) → Filling g l i n v w
    → Filling g l (i + 1) n v (set w' (n + i) value)
filling_put {g} {l} {i} {n} {value} {v} {w} {w'} h room behind e f = record {
  same = same_outside_set (n + i) value (omega arith) (omega arith)
      (same_outside_trans f.same (same_outside_widen n (6 * n) (omega arith) (omega arith) behind));
  done = λ s k. elim (lt_or_ge s i) [
    | inl less ↦ other s (omega arith) (omega arith) ∙ f.done s less
    | inr ge ↦
        let z : i ≡ s = omega arith in
        subst (λ (x : ℕ). get_or (set w' (n + i) value) (n + x) 0 ≡ entry_of (start_loop g l x)) z
        (get_or-set_same w' (n + i) value 0 room ∙ e)
  ];
  left = λ s k lt z. f.left s (omega arith) lt (sym (other s lt (omega arith)) ∙ z);
}
  where
    other : (s : ℕ) → s < n → (s ≡ i → ⊥) → get_or (set w' (n + i) value) (n + s) 0 ≡ get_or w (n + s) 0
    other s k d = get_or-set_other w' (n + i) (n + s) value 0 (λ q. d (omega arith)) ∙ behind.same_before (n + s) (omega arith)

-- one more state: it is not flagged
pub filling_pass : {g : Graph} {l i n : ℕ} {v w : List ℕ} → i < n → get_or w (n + i) 0 ≡ 0 → Filling g l i n v w
    → Filling g l (i + 1) n v w
filling_pass {g} {l} {i} {n} {w = w} h z f = record {
  same = f.same;
  done = λ s k. elim (lt_or_ge s i) [
    | inl less ↦ f.done s less
    | inr ge ↦
        let e : i ≡ s = omega arith in
        subst (λ (x : ℕ). get_or w (n + x) 0 ≡ entry_of (start_loop g l x)) e (z ∙ f.left i (omega arith) h z)
  ];
  left = λ s k lt. f.left s (omega arith) lt;
}

-- all states are done
pub filling_done : {g : Graph} {l i n : ℕ} {v w : List ℕ} → n ≡ g.size → n ≤ i → Filling g l i n v w → StartLoops g l w
filling_done {g} {n = n} {w = w} size all f = record {
  loops = λ s h. let z : 1 * g.size + s ≡ n + s = omega arith in ap (λ (k : ℕ). get_or w k 0) z ∙ f.done s (omega arith);
}

-- a table that is the same in region 0 is ready too
pub ready_same : {f : List ℕ} {h : Header} {w w' : List ℕ} (to : ℕ) → SameOutside h.states to w w' → RoundsReady f h w → RoundsReady f h w'
ready_same {w = w} {w'} to same r = record {
  valid = r.valid;
  room = omega (arith, r.room, same.same_length);
  start_distances = record {
    distances = λ t l. same.same_before _ (omega (arith, (valid_sizes r.valid).states_are)) ∙ r.start_distances.distances t l;
  };
}
