-- The model file that holds a graph is accepted, and its graph by mark table 0 is the one given.
use Prim.Native.Nat.{ℕ, ◌+◌, ◌≤◌, ◌<◌}
use mathlib.Core.Path.{◌≡◌, refl, sym, ap, subst, ◌∙◌}
use mathlib.Core.Bool.{Bool, false, ◌&&◌, not}
use mathlib.Core.Logic.{inl, inr}
use mathlib.Core.List.{List, [], ◌∷◌, Memᴰ}
use native.Mathlib.Omega.{arith}
use lib.ListN.{length, get_or}
use lib.Dec.{T, eqb, ltb, eqb_refl, not_T}
use borrow.Author.Tests.{le-ltb}
use Rattle.lists.specs.Lists.{memb, below, ascendingb}
use Rattle.lasso.specs.Graph.{Graph, WellFormed}
use Rattle.lists.proofs.Tests.{and_false, or_l, mem_memb, lt_or_ge, T_false, get_d_mem}
use Rattle.lists.proofs.CollectLaws.{mem_collect}
use Rattle.format.specs.Layout.{states, edge_count, row_entry}
use Rattle.model.specs.Model.{graph_in, graph_of}
use Rattle.model.specs.declared.Header.{Header}
use Rattle.model.specs.Values.{header_of}
use Rattle.model.proofs.Implied.{implied_not}
use Rattle.model.proofs.Laws.{Facts, succs_row, succs_none, marked_bit}
use Rattle.writer.specs.File.{edges_below, edge_total, file_of}
use Rattle.writer.specs.Holds.{Writable, FilesHold}
use Rattle.writer.proofs.FileLaws.{edges-below_le, file_length_is}
use Rattle.writer.proofs.ReadLaws.{file_states, file_edges, file_start_of, file_stays, file_rows_at, file_edges_at, file_marks_at, file_total, file_row_entry, file_target, file_row_targets, file_mark_bit}
use Rattle.writer.proofs.RuleLaws.{LaidOut, second_clear, facts_accepted}

-- a list in which nothing is found is empty
none_found : (xs : List ℕ) → ((t : ℕ) → T (memb t xs) → ⊥) → xs ≡ []
none_found [] h = refl
none_found (x ∷ xs) h = absurd (h x (or_l (eqb x x) (memb x xs) (eqb_refl x)))

-- a number from the number of states on has no mark
marked_none : (f : List ℕ) (h : Header) (s : ℕ) → h.states ≤ s → (graph_in f h).marked s ≡ false
marked_none f h s l = rw (le-ltb s h.states l)

-- every edge of a graph whose edges are pairs of states leads to a state
pub edge_below : (g : Graph) → WellFormed g → (n e : ℕ) → e < length (edges_below g n) → get_or (edges_below g n) e 0 < g.size
edge_below g wf n e l =
    let t : ℕ = get_or (edges_below g n) e 0 in
    let r : (s : ℕ) × Memᴰ s (below n) × Memᴰ t (g.succs s) = mem_collect g.succs (below n) t (get_d_mem (edges_below g n) e 0 l) in
    (wf.edge_states r.0 t (mem_memb r.2)).1

-- the header and the length of the file are as the rules ask
pub file_laid_out : (g : Graph) → LaidOut (file_of g)
file_laid_out g =
    let en : states (file_of g) ≡ g.size = file_states g in
    let em : edge_count (file_of g) ≡ edge_total g = file_edges g in
    record {
      stays_word_zero = file_stays g;
      rows_at = file_rows_at g;
      edges_at = omega (arith, file_edges_at g);
      marks_at = omega (arith, file_marks_at g);
      total_is = omega (arith, file_total g);
      length_is = omega (arith, file_length_is g);
    }

module _ (g : Graph) (w : Writable g) where
  -- the numbers and tables of the file are as the rules ask
  pub file_facts : Facts (file_of g)
  file_facts =
      let f : List ℕ = file_of g in
      let en : states f ≡ g.size = file_states g in
      let em : edge_count f ≡ edge_total g = file_edges g in
      let wf : WellFormed g = w.well_formed in
      record {
        states_range = omega (arith, wf.start_state, w.states_limit);
        edges_range = omega (arith, w.edges_limit);
        start_below = omega (arith, wf.start_state, file_start_of g);
        file_length = omega (arith, file_length_is g);
        row_first = file_row_entry g 0 (omega arith);
        rows_ascend = λ s l. omega (arith, file_row_entry g s (omega arith), file_row_entry g (s + 1) (omega arith), edges-below_le g s (s + 1) (omega arith));
        row_last = ap (row_entry f) en ∙ file_row_entry g g.size (omega arith) ∙ sym em;
        targets_below = λ e l. omega (arith, file_target g e (omega arith), edge_below g wf g.size e (omega arith));
        targets_ascend = λ s l. subst (λ (r : List ℕ). T (ascendingb r)) (sym (file_row_targets g s (omega arith))) (wf.ascending s);
        spare_clear = λ s l m. subst (λ (b : Bool). T (not b)) (sym (file_mark_bit g s (omega arith)))
            (not_T (g.marked s) (λ t. omega (arith, w.marks_states s t)));
      }

  -- the successors that are read are those of the graph
  same_succs : (s : ℕ) → (graph_of (file_of g) 0).succs s ≡ g.succs s
  same_succs s =
      let f : List ℕ = file_of g in
      elim (lt_or_ge s g.size) [
        | inl l ↦ succs_row f (header_of f 0) s (omega (arith, file_states g)) ∙ implied_not s _ ∙ file_row_targets g s l
        | inr m ↦ succs_none f (header_of f 0) s (omega (arith, file_states g))
            ∙ sym (none_found (g.succs s) (λ t h. omega (arith, w.well_formed.edge_states s t h)))
      ]

  -- the marks that are read are those of the graph
  same_marks : (s : ℕ) → (graph_of (file_of g) 0).marked s ≡ g.marked s
  same_marks s =
      let f : List ℕ = file_of g in
      elim (lt_or_ge s g.size) [
        | inl l ↦ marked_bit f (header_of f 0) s (omega (arith, file_states g)) ∙ file_mark_bit g s (omega arith)
        | inr m ↦ marked_none f (header_of f 0) s (omega (arith, file_states g))
            ∙ sym (T_false (g.marked s) (not_T (g.marked s) (λ t. omega (arith, w.marks_states s t))))
      ]

  -- the file's graph is the one given
  pub file_graph : graph_of (file_of g) 0 ≡ g
  file_graph = λ i. record {
    size = file_states g i;
    start = file_start_of g i;
    succs = λ s. same_succs s i;
    marked = λ s. same_marks s i;
  }

-- a graph that a model file can hold is written back
pub files_hold : FilesHold
files_hold g w =
    record {
      file_length = file_length_is g;
      accepted = facts_accepted (file_of g) (file_facts g w) (file_laid_out g);
      same_graph = file_graph g w;
      no_second_marks = λ s.
          ap (λ (b : Bool). ltb s (states (file_of g)) && b) (second_clear (file_of g) (file_facts g w) (file_laid_out g) s) ∙ and_false (ltb s (states (file_of g)));
    }
