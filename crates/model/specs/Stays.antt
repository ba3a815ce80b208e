-- What bytes 6–7 of a file say about its model: which steps are implied, and at which states a run ends.
use Rattle.std.specs.Prelude.{ℕ, ◌<◌, ◌≡◌, List, [], ◌↔◌, ◌⊎◌, T}
use Rattle.lists.specs.Lists.{memb}
use Rattle.lasso.specs.Graph.{edgeb}
use Rattle.lasso.specs.Shown.{EndsRun}
use Rattle.format.specs.Layout.{states, stays_word, row_targets}
use Rattle.format.specs.Rules.{Accepted}
use Rattle.model.specs.Model.{row_graph, graph_of}
use Rattle.model.specs.Values.{header_of}

-- The edges of the model that a file holds, by its rows and its bytes 6–7, whichever mark table is named.
pub record ImpliedSteps (f : List ℕ) (table : ℕ) : Type 0 where
  -- s has an edge to itself exactly if the file says so, or bytes 6–7 are 1 and its row is empty
  pub to_itself : (s : ℕ) → s < states f
      → T (edgeb (graph_of f table) s s) ↔ (T (memb s (row_targets f s)) ⊎ ((stays_word f ≡ 1) × (row_targets f s ≡ [])))
  -- every other edge is one of the file's
  pub to_another : (s t : ℕ) → s < states f → (s ≡ t → ⊥) → edgeb (graph_of f table) s t ≡ memb t (row_targets f s)
  -- with 0 the model is the graph of the rows and marks
  pub zero_rows_alone : stays_word f ≡ 0 → graph_of f table ≡ row_graph f (header_of f table)
  -- so it is whatever bytes 6–7 are, if no row is empty
  pub full_rows_alone : ((s : ℕ) → s < states f → row_targets f s ≡ [] → ⊥) → graph_of f table ≡ row_graph f (header_of f table)

-- So it is for every file, accepted or not.
abbrev pub StepsAreImplied : Type 0
StepsAreImplied = (f : List ℕ) (table : ℕ) → ImpliedSteps f table

-- "A state with no edge out ends the run, and lies on no loop": for which files a state whose row is empty does. A state of an
-- accepted file ends the run exactly if its row is empty and bytes 6–7 are 0.
abbrev pub RunEndsExactly : Type 0
RunEndsExactly = (f : List ℕ) (table : ℕ) → Accepted f → (s : ℕ) → s < states f
    → EndsRun (graph_of f table) s ↔ ((row_targets f s ≡ []) × (stays_word f ≡ 0))
