-- The graph that an accepted file holds, read by its header, and the successors that a row's part stands for.
use Rattle.std.specs.Prelude.{ℕ, Bool, true, false, ◌&&◌, List, [], ◌∷◌, ltb}
use Rattle.lasso.specs.Graph.{Graph}
use Rattle.model.specs.declared.Header.{Header}
use Rattle.format.specs.Bytes.{words}
use Rattle.format.specs.Layout.{row_targets, mark_bit}
use Rattle.model.specs.Values.{header_of}

-- the list if the test was passed, else the empty one
abbrev pub list_if : Bool → List ℕ → List ℕ
list_if true xs = xs
list_if false xs = []

-- the graph of a file's rows and marks, read by a header: the header's states and initial state, the file's edges by rows
-- and its marks in the mark table that the header names; no number from the number of states on has an edge or a mark
abbrev pub row_graph : List ℕ → Header → Graph
row_graph f h =
    record {
      size = h.states;
      start = h.start;
      succs = λ s. list_if (ltb s h.states) (row_targets f s);
      marked = λ s. ltb s h.states && mark_bit f h.table s;
    }

-- the successors of state s, by its edges and whether one without edges has an implied step to itself
abbrev pub with_implied : Bool → ℕ → List ℕ → List ℕ
with_implied b s [] = list_if b (s ∷ [])
with_implied b s (t ∷ ts) = t ∷ ts

-- the graph in which each state without edges has an implied step to itself, if such states stay
abbrev pub staying : Bool → Graph → Graph
staying b g =
    record {
      size = g.size;
      start = g.start;
      succs = λ s. with_implied (b && ltb s g.size) s (g.succs s);
      marked = g.marked;
    }

-- the model of a file, read by a header: the graph of its rows and marks, with the implied steps if the header says so
abbrev pub graph_in : List ℕ → Header → Graph
graph_in f h = staying h.stays (row_graph f h)

-- the model of a file with the marks of mark table t, read by its own header
abbrev pub graph_of : List ℕ → (t : ℕ) → Graph
graph_of f t = graph_in f (header_of f t)

-- the successors of state s, from the part of the file that holds its row's targets
unfoldable pub steps_of : Header → ℕ → List ℕ → List ℕ
steps_of h s part = with_implied h.stays s (words part)
