-- `later_levels` meets its contract: the distances are enough from a marked state, else the search goes on from the marks.
use Prim.Native.Nat.{ℕ}
use mathlib.Core.Path.{◌≡◌, sym, ◌∙◌}
use native.Mathlib.Omega.{arith}
use Rattle.model.specs.Model.{graph_in}
use Rattle.model.proofs.Laws.{valid_well_formed}
use Rattle.edge_search.specs.declared.SpreadAnswer.TheVariants.{Nothing}
use Rattle.goal_tables.specs.Tables.{LevelsVia}
use Rattle.goal_tables.proofs.LevelLaws.{levels_marked, levels_on}
use Rattle.goal_tables.proofs.later_levels.Goals as goal
use Rattle.goal_tables.proofs.later_levels.Goals.{After-is_marked, After-slice_known-3-1, Start}

-- the function's entry, from where the mark is known
abbrev start : After-is_marked → Start
start c = (goal.at.After-is_marked c).Start

-- what the search from the marked states answers and leaves
on : (c : After-slice_known-3-1) →
    let e = c in
    let a = (start (goal.at.After-slice_known-3-1 e).After-is_marked).args in
    (found : ℕ) × (c.from_marks-answer.result ≡ Nothing found) × LevelsVia (graph_in a.file.now a.h) a.x a.limit a.work.now c.from_marks-answer.new.work found
on c =
    let e = c in
    let s = start (goal.at.After-slice_known-3-1 e).After-is_marked in
    levels_on _ c.from_marks-answer.result (valid_well_formed s.requires.valid) e.distances_from-count.ensures c.from_marks-answer.ensures

pub returns-then-is_marked : goal.returns-then-is_marked
returns-then-is_marked c =
    let s = (goal.at.returns-then-is_marked c).Start in
    levels_marked (valid_well_formed s.requires.valid) s.requires.x_lt_states (rw (sym c.is_marked.ensures ∙ c.if-is_marked.true) tt) c.distances_from-count.ensures

pub returns-in-Length : goal.returns-in-Length
returns-in-Length c =
    let (found, is, left) = on (goal.at.returns-in-Length c).After-slice_known-3-1 in
    let told = c.in-Length.is in
    let z : ◌≡◌ {A = ℕ} 0 1 = cc in
    absurd (omega arith)

pub returns-in-Nothing : goal.returns-in-Nothing
returns-in-Nothing c =
    let (found, is, left) = on (goal.at.returns-in-Nothing c).After-slice_known-3-1 in
    let told = c.in-Nothing.is in
    let same : found ≡ c.in-Nothing.found = cc in
    rw same at left
