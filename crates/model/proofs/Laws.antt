-- What an accepted file is, for the layers above: the facts of its tables, and that the graph it holds is well formed.
use Prim.Native.Nat.{ℕ, zero, suc, ◌+◌, ◌*◌, ◌-◌, ◌≤◌, ◌<◌}
use mathlib.Core.Path.{◌≡◌, refl, sym, ap, subst, ◌∙◌}
use mathlib.Core.Bool.{true, false, not}
use mathlib.Core.List.Memᴰ
use mathlib.Core.List.{List, [], Memᴰ}
use mathlib.Core.Logic.{inl, inr}
use mathlib.Core.Option.{none}
use native.Mathlib.Omega.{arith}
use native.Mathlib.Nat.{le_refl}
use lib.ListN.{length, get_or, length-map}
use borrow.Author.Tests.{lt-ltb, le-ltb, ltb-true}
use lib.Dec.{T, ltb, ltb→lt, nltb→le}
use Rattle.lists.specs.Lists.{memb, up_from, ascendingb}
use Rattle.lasso.specs.Graph.{Graph, WellFormed, edgeb}
use Rattle.lists.proofs.Tests.{and_true, and_false, lt_or_ge, at_memb, memb_mem, NoneOf, none_of_all, up_from_range}
use Rattle.lists.proofs.BelowLaws.{up_from-length}
use Rattle.format.specs.Bytes.{words}
use Rattle.format.specs.Layout.{states, edge_count, start_of, stays, marks_at, mark_bytes, total_of, table_at, row_entry, target, row_targets, mark_bit}
use Rattle.format.specs.Rules.{first_broken, rules_with, Accepted}
use Rattle.model.specs.Model.{row_graph, with_implied, graph_in, graph_of, steps_of, list_if}
use Rattle.model.specs.declared.Header.{Header}
use Rattle.model.specs.Values.{Valid, header_of}
use Rattle.model.specs.Shown.{FilesWellFormed}
use Rattle.lists.proofs.Fails.{not_not}
use Rattle.format.proofs.Reasons.{none_clear}
use Rattle.format.proofs.Kept.{states_kept, length_kept, row_first_kept, rows_ascend_kept, row_last_kept, targets_kept, order_kept, spare_kept, row_end_within}
use Rattle.model.proofs.Implied.{implied_length, staying_well_formed}

-- what keeping the rules gives of a file's fields and tables, of whatever kind the file is
pub record Facts (f : List ℕ) : Type 0 where
  pub states_range : (1 ≤ states f) × (states f ≤ 4096)
  pub edges_range : edge_count f ≤ 8192
  pub start_below : start_of f < states f
  pub file_length : total_of (states f) (edge_count f) ≤ length f
  pub row_first : row_entry f 0 ≡ 0
  pub rows_ascend : (s : ℕ) → s < states f → row_entry f s ≤ row_entry f (s + 1)
  pub row_last : row_entry f (states f) ≡ edge_count f
  pub targets_below : (e : ℕ) → e < edge_count f → target f e < states f
  pub targets_ascend : (s : ℕ) → s < states f → T (ascendingb (row_targets f s))
  pub spare_clear : (s : ℕ) → states f ≤ s → s < 8 * mark_bytes (states f) → T (not (mark_bit f 0 s))

-- the facts of a file of a kind that keeps its rules, if its total length is at least a model file's and it has a mark table
pub kept_facts : (total tables : ℕ) (f : List ℕ) → total_of (states f) (edge_count f) ≤ total → 1 ≤ tables
    → first_broken (rules_with total tables f) ≡ none → Facts f
kept_facts total tables f le some a =
    let from2 = (none_clear (rules_with total tables f) a).1 in
    let from6 = from2.1.1.1.1 in
    let from8 = from6.1.1 in
    record {
      states_range = states_kept f from2.0;
      edges_range = nltb→le 8192 (edge_count f) from2.1.0;
      start_below = ltb→lt (start_of f) (states f) (not_not (ltb (start_of f) (states f)) from2.1.1.0);
      file_length = omega (arith, length_kept total tables f from6.0 from6.1.0);
      row_first = row_first_kept f from8.0;
      rows_ascend = rows_ascend_kept f from8.0;
      row_last = row_last_kept f from8.0;
      targets_below = targets_kept f from8.1.0;
      targets_ascend = order_kept f from8.1.1.0;
      spare_clear = spare_kept tables f from8.1.1.1.0 0 (omega arith);
    }

-- a file of a kind that keeps its rules has the length of its kind with one of the numbers of mark tables
pub kept_length : (total tables : ℕ) (f : List ℕ) → first_broken (rules_with total tables f) ≡ none
    → (t : ℕ) × (t < tables) × (length f ≡ total + t * mark_bytes (states f))
kept_length total tables f a =
    let from6 = (none_clear (rules_with total tables f) a).1.1.1.1.1 in
    length_kept total tables f from6.0 from6.1.0

-- an accepted file's facts
pub accepted_facts : (f : List ℕ) → Accepted f → Facts f
accepted_facts f a = kept_facts (total_of (states f) (edge_count f)) 2 f (le_refl _) (omega arith) a

-- a file with u tables after the first ends where table t starts, if it ends before the end of table t
short_of_table : (base size t u : ℕ) → t ≤ 1 → base + size + u * size < base + t * size + size → base + size + u * size ≤ base + t * size
short_of_table base size zero u l m = omega arith
short_of_table base size (suc zero) zero l m = omega arith
short_of_table base size (suc zero) (suc u) l m = omega arith
short_of_table base size (suc (suc t)) u l m = omega arith

-- an accepted file has the whole of a mark table or nothing of it
pub no_part_of_table : (f : List ℕ) → Accepted f → (t : ℕ) → t ≤ 1 → let at = table_at (states f) (edge_count f) t in
    length f < at + mark_bytes (states f) → length f ≤ at
no_part_of_table f a t l m =
    let (u, among, e) = kept_length (total_of (states f) (edge_count f)) 2 f a in
    omega (arith, short_of_table (marks_at (states f) (edge_count f)) (mark_bytes (states f)) t u l (omega arith))

-- a row ends within the edge table
pub row_end_le : {f : List ℕ} → Facts f → (s : ℕ) → s < states f → row_entry f (s + 1) ≤ edge_count f
row_end_le {f} F s l = row_end_within f F.rows_ascend F.row_last s l

-- a row's targets are states
pub row_targets-below : {f : List ℕ} → Facts f → (s t : ℕ) → s < states f → T (memb t (row_targets f s)) → t < states f
row_targets-below {f} F s t l h =
    let a : ℕ = row_entry f s in
    let n : ℕ = row_entry f (s + 1) - a in
    let m : (e : ℕ) × Memᴰ e (up_from a n) × (target f e ≡ t) = Memᴰ.of_map (target f) (up_from a n) (memb_mem t (row_targets f s) h) in
    let e : ℕ = m.0 in
    let r : (a ≤ e) × (e < a + n) = up_from_range a n m.1 in
    omega (arith, m.2, F.targets_below e (omega (arith, row_end_le F s l, F.rows_ascend s l)))

-- a number from the number of states on has no edge
edge_from_state : (f : List ℕ) (h : Header) (s t : ℕ) → T (edgeb (row_graph f h) s t) → (s < h.states) × T (memb t (row_targets f s))
edge_from_state f h s t e =
    (elim (ltb s h.states) as (λ b. ltb s h.states ≡ b → T (memb t (list_if b (row_targets f s))) → (s < h.states) × T (memb t (row_targets f s))) [
      | true ↦ λ q m. (ltb-true s h.states q, m)
      | false ↦ λ q m. absurd m
    ]) refl e

-- the successors of a state are its row's targets, or its implied step
pub succs_row : (f : List ℕ) (h : Header) (s : ℕ) → s < h.states
    → (graph_in f h).succs s ≡ with_implied h.stays s (row_targets f s)
succs_row f h s l = rw (lt-ltb s h.states l, and_true h.stays)

-- the successors of a state are those that the part stands for which holds its row's targets
pub steps_succs :
    (f : List ℕ) (h : Header) (s : ℕ) (part : List ℕ) → s < h.states → words part ≡ row_targets f s
    → steps_of h s part ≡ (graph_in f h).succs s
unfolding steps_of
steps_succs f h s part l e = ap (with_implied h.stays s) e ∙ sym (succs_row f h s l)

-- the mark of a state is its bit
pub marked_bit : (f : List ℕ) (h : Header) (s : ℕ) → s < h.states → (graph_in f h).marked s ≡ mark_bit f h.table s
marked_bit f h s l = rw (lt-ltb s h.states l)

-- a number from the number of states on has no successors
pub succs_none : (f : List ℕ) (h : Header) (s : ℕ) → h.states ≤ s → (graph_in f h).succs s ≡ []
succs_none f h s l = rw (le-ltb s h.states l, and_false h.stays)

-- the targets of every number's row ascend strictly
succs_ascend : {f : List ℕ} → Facts f → (t s : ℕ) → T (ascendingb ((row_graph f (header_of f t)).succs s))
succs_ascend {f} F t s =
    elim (lt_or_ge s (states f)) [
      | inl l ↦ rw (lt-ltb s (states f) l) (F.targets_ascend s l)
      | inr g ↦ rw (le-ltb s (states f) g) tt
    ]

-- the graph of the rows of a file that keeps the rules of its kind is well formed
pub facts_well_formed : {f : List ℕ} → Facts f → (table : ℕ) → WellFormed (row_graph f (header_of f table))
facts_well_formed {f} F table =
    record {
      start_state = F.start_below;
      edge_states = λ s t h.
          let e : (s < states f) × T (memb t (row_targets f s)) = edge_from_state f (header_of f table) s t h in
          (e.0, row_targets-below F s t e.0 e.1);
      ascending = succs_ascend F table;
    }

-- the graph of an accepted file is well formed, whichever mark table is named
pub accepted_well_formed : FilesWellFormed
accepted_well_formed f t a = staying_well_formed (stays f) (facts_well_formed (accepted_facts f a) t)

-- the graph read by a valid header is the file's own, with the mark table that the header names
pub valid_graph : {f : List ℕ} {h : Header} → Valid f h → graph_in f h ≡ graph_of f h.table
valid_graph {f} v = ap (graph_in f) v.header

-- the numbers of a valid header
pub record Sizes (f : List ℕ) (h : Header) : Type 0 where
  pub states_are : h.states ≡ states f
  pub edges_are : h.edges ≡ edge_count f
  pub start_is : h.start ≡ start_of f
  pub states_range : (1 ≤ h.states) × (h.states ≤ 4096)
  pub edges_range : h.edges ≤ 8192
  pub start_below : h.start < h.states

-- a file's own header has its numbers
pub header_numbers : (f : List ℕ) {t : ℕ} {h : Header} → h ≡ header_of f t → (h.states ≡ states f) × (h.edges ≡ edge_count f) × (h.start ≡ start_of f)
header_numbers f e = (ap (λ (x : Header). x.states) e, ap (λ (x : Header). x.edges) e, ap (λ (x : Header). x.start) e)

-- a valid header has its file's numbers
pub valid_sizes : {f : List ℕ} {h : Header} → Valid f h → Sizes f h
valid_sizes {f} {h} v =
    let F : Facts f = accepted_facts f v.accepted in
    omega (arith, header_numbers f v.header)

-- a valid file's facts
pub valid_facts : {f : List ℕ} {h : Header} → Valid f h → Facts f
valid_facts {f} v = accepted_facts f v.accepted

-- the graph read by a valid header is well formed
pub valid_well_formed : {f : List ℕ} {h : Header} → Valid f h → WellFormed (graph_in f h)
valid_well_formed {f} v = subst WellFormed (sym (valid_graph v)) (accepted_well_formed f _ v.accepted)

-- what stands at a place of a state's row is a successor
pub row_edge : {ss : List ℕ} {t : ℕ} (g : Graph) (u k : ℕ) → ss ≡ g.succs u → k < length ss → t ≡ get_or ss k 0 → T (edgeb g u t)
row_edge {ss} g u k row l e = rw (e, ← row) (at_memb ss k l)

-- what none of the entries of a state's row has, no successor has
pub row_none : {ss : List ℕ} (P : ℕ → Type 0) (g : Graph) (u k t : ℕ) → ss ≡ g.succs u → length ss ≤ k → NoneOf P ss k → T (edgeb g u t) → P t → ⊥
row_none {ss} P g u k t row long never edge = none_of_all P ss k t long never (rw row edge)

-- what stands at a place of a row of an accepted file is a state
pub row_state : {f ss : List ℕ} {h : Header} {t : ℕ} (u k : ℕ) → Valid f h → ss ≡ (graph_in f h).succs u → k < length ss
    → t ≡ get_or ss k 0 → t < h.states
row_state {f} {h = h} {t = t} u k valid row l e =
    omega (arith, (valid_well_formed valid).edge_states u t (row_edge (graph_in f h) u k row l e))

-- no number has more than 8,192 successors
pub succs_length_le : {f : List ℕ} → Facts f → (t s : ℕ) → length ((graph_of f t).succs s) ≤ 8192
succs_length_le {f} F t s =
    elim (lt_or_ge s (states f)) [
      | inl l ↦
          let edges : length (row_targets f s) ≤ 8192 =
          rw (length-map, up_from-length) (omega (arith, row_end_le F s l, F.edges_range)) in
          rw (succs_row f (header_of f t) s l) (implied_length (stays f) s (row_targets f s) 8192 (omega arith) edges)
      | inr g ↦ rw (succs_none f (header_of f t) s g) (omega arith)
    ]
