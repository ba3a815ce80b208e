-- The steps that make the tables after a loop start, and that they leave what the tables say.
use Prim.Native.Nat.{ℕ, suc, ◌+◌, ◌*◌, ◌-◌, ◌≤◌, ◌<◌}
use native.Mathlib.Omega.{arith}
use mathlib.Core.Path.{◌≡◌, refl, sym, ◌∙◌, subst}
use mathlib.Core.Logic.{◌↔◌, ◌⊎◌, inl, inr}
use mathlib.Core.List.{List}
use lib.ListN.{length, set}
use lib.Seq.{get_or-set_same, get_or-set_other}
use lib.Dec.{T}
use native.Mathlib.Decide.{ℕ_discrete}
use Rattle.lasso.specs.Graph.{edgeb}
use Rattle.lasso.proofs.RollLaws.{least_length_range}
use Rattle.lists.proofs.Tests.{lt_or_ge}
use Rattle.model.specs.declared.Header.{Header}
use Rattle.model.specs.Model.{graph_in}
use Rattle.model.proofs.Laws.{valid_sizes, valid_well_formed}
use Rattle.table.specs.Changes.{SameOutside, Copied}
use Rattle.table.proofs.Laws.{same_outside_trans, same_outside_widen, set_same_outside}
use Rattle.frontier.specs.Regions.{entry}
use Rattle.frontier.specs.Search.{Queue}
use Rattle.walks.specs.Through.{DistancesWithin}
use Rattle.ways.specs.Ways.{KeptBack}
use Rattle.current.specs.Current.{state_at}
use Rattle.current.proofs.CurrentLaws.{list_kept}
use Rattle.stems.proofs.StemTable.{queue_same}
use Rattle.follow.specs.Follow.{StatesTo}
use Rattle.follow.proofs.FollowTable.{prepared_same}
use Rattle.goals.specs.Goals.{LastMark, Base, StepTo, LaterTable, SoonerTable, LaterReady, SoonerReady}
use Rattle.goals.proofs.GoalLaws.{base_before, base_state}
use Rattle.goals.proofs.TableLaws.{later_made, sooner_made}
use Rattle.goals.proofs.BehindLaws.{tables_same}
use Rattle.ends.specs.Ends.{MarkedEnd, FlagMore, as_before, flagged, ClosingPut, MarkedPut}
use Rattle.goal_tables.specs.Tables.{Ground, LevelsVia, LaterMade, SoonerMade}
use Rattle.goal_tables.proofs.LevelLaws.{dist_level}
use Rattle.goal_tables.proofs.GoalEntries.{closing_ends}
use Rattle.goal_tables.proofs.AgreeLaws.{loop_agree, same_iff}

-- the list up to the loop start is the base of the tables
pub ground_base : {f : List ℕ} {h : Header} {w : List ℕ} {l b : ℕ} → Ground f h w l b → Base (graph_in f h) l (state_at h w) b
ground_base o =
    record {
      well_formed = valid_well_formed o.prepared.valid;
      least = o.prepared.least;
      first = refl;
      edge = o.edge;
      loop = o.loop;
    }

-- what the numbers are bounded by
pub ground_sizes : {f : List ℕ} {h : Header} {w : List ℕ} {l b : ℕ} → Ground f h w l b → (b < l) × (l ≤ h.states) × (state_at h w b < h.states) × (h.states ≤ 4096) × (6 * h.states ≤ length w)
ground_sizes {f} {h} {w} {l} {b} o =
    let p = o.prepared in
    (base_before (ground_base o), (least_length_range (graph_in f h) l p.least).1, base_state (ground_base o), (valid_sizes p.valid).states_range.1, p.room)

-- the states of the list are states
pub ground_states : {f : List ℕ} {h : Header} {w : List ℕ} {l b : ℕ} → Ground f h w l b → StatesTo h w b
ground_states {f} {h} {w} {l} {b} o k i =
    elim (lt_or_ge k b) [
      | inl less ↦ ((valid_well_formed o.prepared.valid).edge_states (state_at h w k) (state_at h w (suc k)) (o.edge k less)).0
      | inr ge ↦
          let z : b ≡ k = omega arith in
          subst (λ (x : ℕ). state_at h w x < h.states) z (ground_sizes o).2
    ]

-- the steps for the first table
module _ {f : List ℕ} {h : Header} {w w₁ w₂ : List ℕ} {l b count : ℕ} (o : Ground f h w l b) (via : LevelsVia (graph_in f h) (state_at h w b) (l - b) w w₁ count)
    (flags : ClosingPut (graph_in f h) h.states h.start (l - b - 1) (b + 1) h.states w₁ w₂) where
  -- the table is ready for the pass
  later_ready : LaterReady (graph_in f h) l (state_at h w) b w₂
  later_ready =
      record {
        level = λ t c i low.
            same_iff (flags.outside.same_before (2 * h.states + t) (omega arith)) (via.level t c i (omega arith));
        ends = λ s i.
            closing_ends h.start (valid_well_formed o.prepared.valid) o.prepared.least (prepared_same o.prepared via.outside).stems
            (λ k low. list_kept h.start k via.outside (omega (arith, ground_sizes o))) (l - b - 1) b s flags (omega (arith, ground_sizes o)) i;
      }

  -- the queue stands as before
  pub later_queue : Queue h.states count w₂
  later_queue = queue_same flags.outside via.queue

  -- after the pass and the copy
  pub later_done : {w₃ w₄ : List ℕ} → KeptBack (graph_in f h) h.states w₂ w₃ → Copied (2 * h.states) (5 * h.states) h.states w₃ w₄
      → LaterMade (graph_in f h) l (state_at h w) b w w₄
  later_done {w₃} {w₄} kept copied =
      let from = 2 * h.states in
      let to = 6 * h.states in
      record {
        outside =
            same_outside_trans via.outside
            (same_outside_trans (same_outside_widen from to (omega arith) (omega arith) flags.outside)
            (same_outside_trans (same_outside_widen from to (omega arith) (omega arith) kept.outside)
            (same_outside_widen from to (omega arith) (omega arith) copied.others)));
        table = record {
          later = λ t c i.
              same_iff (copied.copies t i) (later_made (ground_base o) later_ready kept t c i);
        };
        same = λ t i. copied.copies t i ∙ sym (copied.others.same_before (2 * h.states + t) (omega arith));
      }

-- the steps for the second table
module _ {f : List ℕ} {h : Header} {w w₁ w₃ w₄ : List ℕ} {l b mark count : ℕ} (o : Ground f h w l b) (m : LastMark (graph_in f h) (state_at h w) b mark)
    (first : LaterTable (graph_in f h) l (state_at h w) b w) (away : DistancesWithin (graph_in f h) (state_at h w b) (l - b) w w₁ count)
    (flags : ClosingPut (graph_in f h) h.states h.start (l - b - 1) mark h.states (set w₁ (5 * h.states + state_at h w b) (entry 5 h.states w (state_at h w b))) w₃)
    (marks : MarkedPut (graph_in f h) h.states h.states w₃ w₄) where
  -- the table with the entry put back
  abbrev w₂ : List ℕ
  w₂ = set w₁ (5 * h.states + state_at h w b) (entry 5 h.states w (state_at h w b))

  -- it changed regions 2 to 5
  put_outside : SameOutside (2 * h.states) (6 * h.states) w w₂
  put_outside =
      same_outside_trans away.outside (set_same_outside w₁ (5 * h.states + state_at h w b) (entry 5 h.states w (state_at h w b)) (2 * h.states) (6 * h.states) (omega arith) (omega (arith, ground_sizes o)))

  -- region 5 is as before
  five : (s : ℕ) → s < h.states → entry 5 h.states w₄ s ≡ entry 5 h.states w s
  five s i =
      marks.outside.same_after (5 * h.states + s) (omega arith)
      ∙ flags.outside.same_after (5 * h.states + s) (omega arith)
      ∙ put_back
    where
      put_back : entry 5 h.states w₂ s ≡ entry 5 h.states w s
      put_back = elim (ℕ_discrete s (state_at h w b)) [
        | yes e ↦
            rw e (get_or-set_same w₁ (5 * h.states + state_at h w b) (entry 5 h.states w (state_at h w b)) 0 (omega (arith, o.prepared.room, away.outside.same_length, ground_sizes o)))
        | no d ↦
            get_or-set_other w₁ (5 * h.states + state_at h w b) (5 * h.states + s) (entry 5 h.states w (state_at h w b)) 0 (λ q. d (omega arith)) ∙ away.fifth s i d
      ]

  -- region 4 and the entry put back alone changed since the distances were found
  since : SameOutside (4 * h.states) (6 * h.states) w₁ w₄
  since =
      same_outside_trans (set_same_outside w₁ (5 * h.states + state_at h w b) (entry 5 h.states w (state_at h w b)) (4 * h.states) (6 * h.states) (omega arith) (omega (arith, ground_sizes o)))
      (same_outside_trans (same_outside_widen (4 * h.states) (6 * h.states) (omega arith) (omega arith) flags.outside)
      (same_outside_widen (4 * h.states) (6 * h.states) (omega arith) (omega arith) marks.outside))

  -- the queue stands as before
  pub sooner_queue : Queue h.states count w₄
  sooner_queue = queue_same since away.queue

  -- the table is ready for the pass
  sooner_ready : SoonerReady (graph_in f h) l (state_at h w) b mark w₄
  sooner_ready =
      record {
        level = λ t c i low.
            same_iff (since.same_before (2 * h.states + t) (omega arith)) (dist_level away t c i (omega arith));
        ends = ends;
        table = record { later = λ t c i. same_iff (five t i) (first.later t c i) };
      }
    where
      ends : (s : ℕ) → s < h.states → (1 ≤ entry 4 h.states w₄ s)
          ↔ (((b + entry 2 h.states w₄ s ≡ l) × StepTo (graph_in f h) l (state_at h w) mark s)
          ⊎ (T ((graph_in f h).marked s) × (1 ≤ entry 2 h.states w₄ s) × (entry 5 h.states w₄ s ≡ entry 2 h.states w₄ s)))
      ends s i = (to (marks.put s i), back (marks.put s i))
        where
          before : (1 ≤ entry 4 h.states w₃ s) ↔ ((b + entry 2 h.states w₃ s ≡ l) × StepTo (graph_in f h) l (state_at h w) mark s)
          before =
              closing_ends h.start (valid_well_formed o.prepared.valid) o.prepared.least (prepared_same o.prepared put_outside).stems
              (λ k low. list_kept h.start k put_outside (omega (arith, ground_sizes o, m.low))) (l - b - 1) b s flags (omega (arith, ground_sizes o)) i

          two : entry 2 h.states w₄ s ≡ entry 2 h.states w₃ s
          two = marks.outside.same_before (2 * h.states + s) (omega arith)

          also : entry 5 h.states w₄ s ≡ entry 5 h.states w₃ s
          also = marks.outside.same_after (5 * h.states + s) (omega arith)

          to : FlagMore (MarkedEnd (graph_in f h) h.states w₃ s) (entry 4 h.states w₃ s) (entry 4 h.states w₄ s) → 1 ≤ entry 4 h.states w₄ s
              → ((b + entry 2 h.states w₄ s ≡ l) × StepTo (graph_in f h) l (state_at h w) mark s)
              ⊎ (T ((graph_in f h).marked s) × (1 ≤ entry 2 h.states w₄ s) × (entry 5 h.states w₄ s ≡ entry 2 h.states w₄ s))
          to (as_before e never) x = let (level, step) = before.0 (omega arith) in inl (omega (arith, two), step)
          to (flagged e (is, reached, same)) x = inr (is, omega (arith, two), omega (arith, two, also))

          back : FlagMore (MarkedEnd (graph_in f h) h.states w₃ s) (entry 4 h.states w₃ s) (entry 4 h.states w₄ s)
              → ((b + entry 2 h.states w₄ s ≡ l) × StepTo (graph_in f h) l (state_at h w) mark s)
              ⊎ (T ((graph_in f h).marked s) × (1 ≤ entry 2 h.states w₄ s) × (entry 5 h.states w₄ s ≡ entry 2 h.states w₄ s)) → 1 ≤ entry 4 h.states w₄ s
          back (flagged e x) y = omega arith
          back (as_before e never) (inl (level, step)) = omega (arith, before.1 (omega (arith, two), step))
          back (as_before e never) (inr (is, reached, same)) = absurd (never (is, omega (arith, two), omega (arith, two, also)))

  -- after the pass
  pub sooner_done : {w₅ : List ℕ} → KeptBack (graph_in f h) h.states w₄ w₅ → SoonerMade (graph_in f h) l (state_at h w) b mark w w₅
  sooner_done {w₅} kept =
      let from = 2 * h.states in
      let to = 6 * h.states in
      record {
        outside =
            same_outside_trans away.outside
            (same_outside_trans (same_outside_widen from to (omega arith) (omega arith) since) (same_outside_widen from to (omega arith) (omega arith) kept.outside));
        later = record {
          later = λ t c i.
              same_iff (kept.outside.same_after (5 * h.states + t) (omega arith) ∙ five t i) (first.later t c i);
        };
        sooner = record { sooner = λ t c i. sooner_made (ground_base o) m sooner_ready kept t c i };
      }

-- if the loop start is marked, the first table is the second too
pub marked_done : {f : List ℕ} {h : Header} {w w' : List ℕ} {l b mark : ℕ} → Ground f h w l b → LastMark (graph_in f h) (state_at h w) b mark → mark ≡ b + 1
    → LaterMade (graph_in f h) l (state_at h w) b w w' → SoonerTable (graph_in f h) l (state_at h w) b mark w'
marked_done {h = h} {w' = w'} {b = b} o m e made =
    record {
      sooner = λ t c i.
          let marked = m.is b (omega arith) in
          let both = made.table.later t c i in
          let same = tables_same (ground_base o) m marked t c in
          (λ at. same.0 (both.0 (made.same t i ∙ at)), λ x. sym (made.same t i) ∙ both.1 (same.1 x));
    }

-- the list up to b in a table after a search
pub ground_agree : {f : List ℕ} {h : Header} {w w' : List ℕ} {l b : ℕ} → Ground f h w l b → SameOutside (2 * h.states) (6 * h.states) w w' → (k : ℕ) → k ≤ b → state_at h w k ≡ state_at h w' k
ground_agree {h = h} o same k i = sym (list_kept h.start k same (omega (arith, ground_sizes o)))

-- is the base still
pub ground_kept : {f : List ℕ} {h : Header} {w w' : List ℕ} {l b : ℕ} → Ground f h w l b → SameOutside (2 * h.states) (6 * h.states) w w' → Ground f h w' l b
ground_kept {f} {h} {w} {w'} {l} {b} o same =
    record {
      prepared = prepared_same o.prepared same;
      edge = λ k i.
          subst (λ (y : ℕ). T (edgeb (graph_in f h) (state_at h w' k) y)) (ground_agree o same (suc k) (omega arith))
          (subst (λ (x : ℕ). T (edgeb (graph_in f h) x (state_at h w (suc k)))) (ground_agree o same k (omega arith)) (o.edge k i));
      loop = loop_agree b (ground_agree o same b (omega arith)) o.loop;
    }
