-- What the tests look at decides whether the state may follow.
use Prim.Native.Nat.{ℕ, suc, ◌+◌, ◌*◌, ◌-◌, ◌≤◌, ◌<◌}
use native.Mathlib.Omega.{arith}
use mathlib.Core.Path.{◌≡◌, refl, sym, ◌∙◌, subst}
use mathlib.Core.Logic.{◌↔◌, inl, inr}
use mathlib.Core.Bool.{true, false}
use mathlib.Core.List.{List}
use lib.ListN.{get_or}
use lib.Dec.{T}
use Rattle.lasso.specs.Graph.{Graph, edgeb}
use Rattle.lists.proofs.Tests.{lt_or_ge}
use Rattle.lasso.proofs.Walk.{walk_length, walk_uncons, walk_zero}
use Rattle.model.specs.declared.Header.{Header}
use Rattle.model.specs.Model.{graph_in}
use Rattle.table.specs.Changes.{SameOutside}
use Rattle.frontier.specs.Regions.{entry}
use Rattle.current.specs.Current.{state_at, list_in}
use Rattle.current.proofs.CurrentLaws.{list_kept}
use Rattle.stems.specs.Stems.{LoopAt}
use Rattle.follow.specs.Follow.{OnStem, MayFollow}
use Rattle.follow.proofs.FollowLaws.{Beginning, between, next_state, none_extends}
use Rattle.follow.proofs.FollowTable.{Asked, asked_sizes, asked_beginning, asked_at, not_ahead}
use Rattle.goals.specs.Goals.{LastStart, LastMark, Goal, Later, Sooner}
use Rattle.goals.proofs.BehindLaws.{Behind, MarkBehind, later_iff, later_last, sooner_iff, sooner_last}
use Rattle.goal_tables.specs.Tables.{Ground, Tables}
use Rattle.goal_tables.proofs.GoalEntries.{goal_of, of_goal}
use Rattle.goal_tables.proofs.AgreeLaws.{loop_agree, start_agree, mark_agree, later_for, sooner_for, tables_for}
use Rattle.passed.specs.Passed.{PassedAt}
use Rattle.passed.specs.declared.Passed.{Passed}
use Rattle.looks.specs.Looks.{GoalAt, LastSays, PlaceSays}

module _ {f : List ℕ} {h : Header} {w : List ℕ} {l place t : ℕ} (asked : Asked f h w l place t) where
  abbrev g : Graph
  g = graph_in f h

  -- the list up to the place, and its states
  abbrev q : List ℕ
  q = list_in (graph_in f h).start w place

  abbrev at : ℕ → ℕ
  at k = get_or q k 0

  -- the list and the state
  o : Beginning (graph_in f h) l place (list_in (graph_in f h).start w place) t
  o = asked_beginning asked

  -- no stem, and no loop start passed: t may not follow
  pub none_follows : (OnStem h.states w place t → ⊥) → ((k : ℕ) → k ≤ place → LoopAt g l (state_at h w) k → ⊥) → MayFollow g l w place t → ⊥
  none_follows no_stem none_passed =
      none_extends o (not_ahead asked no_stem) (λ k i x. none_passed k i (loop_agree k (sym (asked_at asked k i)) x))

  -- the edges of the list
  edge_at : (k : ℕ) → k < place → T (edgeb g (at k) (at (suc k)))
  edge_at k i =
      let (u, edge, rest) = walk_uncons (walk_length one (between o k (suc k) (omega arith) (omega arith))) in
      subst (λ (y : ℕ). T (edgeb g (at k) y)) (walk_zero rest) edge
    where
      one : suc k - k ≡ 1
      one = omega arith

  -- the list up to a loop start
  pub ground_of : (b : ℕ) → b ≤ place → LoopAt g l (state_at h w) b → Ground f h w l b
  ground_of b i x =
      record {
        prepared = asked.prepared;
        edge = λ k j.
            subst (λ (y : ℕ). T (edgeb g (state_at h w k) y)) (sym (asked_at asked (suc k) (omega arith)))
            (subst (λ (y : ℕ). T (edgeb g y (at (suc k)))) (sym (asked_at asked k (omega arith))) (edge_at k (omega arith)));
        loop = x;
      }

  -- the list with its last loop start at b
  module _ {b : ℕ} (last : LastStart g l (state_at h w) place (suc b)) where
    -- it stands on the list
    pub start_inside : b ≤ place
    start_inside = omega (arith, last.low)

    -- the states up to there
    agree : (k : ℕ) → k ≤ b → state_at h w k ≡ at k
    agree k i = asked_at asked k (omega (arith, start_inside))

    -- the list and the state after it
    behind : Behind g l place b q t
    behind =
        record {
          beginning = o;
          base = record {
            well_formed = o.well_formed;
            least = o.least;
            first = refl;
            edge = λ k i. edge_at k (omega (arith, start_inside));
            loop = loop_agree b (agree b (omega arith)) (last.is b refl);
          };
          inside = start_inside;
          last = λ k i j x. omega (arith, last.last k j (loop_agree k (sym (asked_at asked k j)) x));
        }

    module _ {mark : ℕ} (m : LastMark g (state_at h w) place mark) where
      -- a mark after the loop start
      behind_marked : b + 1 < mark → MarkBehind g q b place
      behind_marked i =
          let r : ℕ = mark - 1 in
          let high : r ≤ place = omega (arith, m.low) in
          (r, omega arith, high, subst (λ (x : ℕ). T (g.marked x)) (asked_at asked r high) (m.is r (omega arith)))

      -- none
      behind_none : mark ≤ b + 1 → MarkBehind g q b place → ⊥
      behind_none i (r, low, high, is) =
          omega (arith, m.last r high (subst (λ (x : ℕ). T (g.marked x)) (sym (asked_at asked r high)) is))

      -- then it is the last mark up to b
      mark_here : mark ≤ b + 1 → LastMark g at b mark
      mark_here i =
          mark_agree g (state_at h w) at agree (record { low = i; is = m.is; last = λ r j x. m.last r (omega (arith, start_inside)) x })

      -- the tables decide before the last place
      pub place_says : {w' : List ℕ} → (OnStem h.states w place t → ⊥) → suc place < l → Tables g l (state_at h w) b w' → PlaceSays h.states w' b mark place t ↔ MayFollow g l w place t
      place_says {w'} no_stem more tables = (to, back)
        where
          here : place + 2 - b ≡ suc (suc place - b)
          here = omega (arith, start_inside)

          later : (entry 5 h.states w' t ≡ suc (suc place - b)) ↔ Later g l at b t (suc place - b)
          later = (later_for agree tables.later).later t (suc place - b) (next_state o)

          sooner : (entry 2 h.states w' t ≡ suc (suc place - b)) ↔ Sooner g l at b tables.mark t (suc place - b)
          sooner = (sooner_for agree tables.last.low tables.sooner).sooner t (suc place - b) (next_state o)

          marked_iff : b + 1 < mark → MayFollow g l w place t ↔ Later g l at b t (suc place - b)
          marked_iff i = later_iff behind (behind_marked i) more (not_ahead asked no_stem)

          none_iff : mark ≤ b + 1 → MayFollow g l w place t ↔ Sooner g l at b tables.mark t (suc place - b)
          none_iff i = sooner_iff behind (mark_agree g (state_at h w) at agree tables.last) (behind_none i) more (not_ahead asked no_stem)

          to : PlaceSays h.states w' b mark place t → MayFollow g l w place t
          to (inl (i, e)) = (marked_iff i).1 (later.0 (e ∙ here))
          to (inr (i, e)) = (none_iff i).1 (sooner.0 (e ∙ here))

          back : MayFollow g l w place t → PlaceSays h.states w' b mark place t
          back x =
              elim (lt_or_ge (b + 1) mark) [
                | inl i ↦ inl (i, later.1 ((marked_iff i).0 x) ∙ sym here)
                | inr i ↦ inr (i, sooner.1 ((none_iff i).0 x) ∙ sym here)
              ]

      -- goals decide at the last place
      pub last_says : {start : ℕ} → start ≡ suc b → suc place ≡ l → LastSays h.states h.start w start mark t ↔ MayFollow g l w place t
      last_says {start} is all = (to, back)
        where
          start_next : start ≡ b + 1
          start_next = omega arith

          goal : (bound : ℕ) → bound ≤ b + 1 → GoalAt h.states h.start w bound t → Goal g l at bound t
          goal bound i = goal_of h.start o.well_formed o.least asked.prepared.stems (λ k j. agree k (omega arith)) t (next_state o)

          said : (bound : ℕ) → bound ≤ b + 1 → Goal g l at bound t → GoalAt h.states h.start w bound t
          said bound i = of_goal h.start o.well_formed o.least asked.prepared.stems (λ k j. agree k (omega arith)) t (next_state o)

          to : LastSays h.states h.start w start mark t → MayFollow g l w place t
          to (inl (i, x)) = (later_last behind (behind_marked (omega arith)) all).1 (subst (λ (k : ℕ). Goal g l at k t) start_next (goal start (omega arith) x))
          to (inr (i, x)) = (sooner_last behind (mark_here (omega arith)) (behind_none (omega arith)) all).1 (goal mark (omega arith) x)

          back : MayFollow g l w place t → LastSays h.states h.start w start mark t
          back x =
              elim (lt_or_ge start mark) [
                | inl i ↦ inl (i, said start (omega arith) (subst (λ (k : ℕ). Goal g l at k t) (sym start_next) ((later_last behind (behind_marked (omega arith)) all).0 x)))
                | inr i ↦ inr (i, said mark (omega arith) ((sooner_last behind (mark_here (omega arith)) (behind_none (omega arith)) all).0 x))
              ]

  -- what is known of the list, in a table in which regions 2 to 5 alone changed
  module _ {w' : List ℕ} {p : Passed} (known : PassedAt f h w l place p) (same : SameOutside (2 * h.states) (6 * h.states) w w') where
    -- the states of the list
    kept_at : (k : ℕ) → k ≤ place → state_at h w k ≡ state_at h w' k
    kept_at k i = sym (list_kept h.start k same (omega (arith, asked_sizes asked, asked.within)))

    -- without tables
    pub passed_searched : (searches : ℕ) → PassedAt f h w' l place (record { start = p.start; mark = p.mark; searches = searches; made = false })
    passed_searched searches =
        record {
          start = start_agree kept_at known.start;
          mark = mark_agree g (state_at h w) (state_at h w') kept_at known.mark;
          tables = λ e. let z : ◌≡◌ {A = ℕ} 0 1 = cc in absurd (omega arith);
        }

    -- with the tables that are there now
    pub passed_made : (b : ℕ) → p.start ≡ suc b → Tables g l (state_at h w) b w' → (searches : ℕ) → PassedAt f h w' l place (record { start = p.start; mark = p.mark; searches = searches; made = true })
    passed_made b is made searches =
        record {
          start = start_agree kept_at known.start;
          mark = mark_agree g (state_at h w) (state_at h w') kept_at known.mark;
          tables = λ _ c e.
              let z : b ≡ c = omega arith in
              subst (λ (x : ℕ). Tables g l (state_at h w') x w') z (tables_for (λ k i. kept_at k (omega (arith, known.start.low))) (λ _ _. refl) (λ _ _. refl) made);
        }
