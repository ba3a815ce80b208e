-- `search_planned` meets its contract: the search by edges up to the limit, or up to the bound below it; if that one finds nothing,
-- the step from the target to itself.
use Prim.Native.Nat.{ℕ, ◌≤◌}
use mathlib.Core.Path.{sym, subst}
use mathlib.Core.List.{List}
use native.Mathlib.Omega.{arith}
use Rattle.lasso.specs.Graph.{Graph}
use Rattle.model.specs.Model.{graph_in}
use Rattle.model.proofs.Laws.{valid_well_formed}
use Rattle.frontier.specs.Buckets.{Planned}
use Rattle.edge_search.specs.Promises.{Spread}
use Rattle.spread.specs.Bounds.{OwnLevel}
use Rattle.spread.proofs.BoundLaws.{own_apart, apart_in_plan, planned_down, found_before, found_itself}
use Rattle.spread.proofs.search_planned.Goals as goal
use Rattle.spread.proofs.search_planned.Goals.{In-Some, After-search_edges-answer, Start}

-- the function's start, from where the bound is known
abbrev start : In-Some → Start
start c = (goal.at.In-Some c).Start

-- the model
abbrev graph : Start → Graph
graph s = graph_in s.args.file.now s.args.h

-- the bound, from some table that the plan was made from
bound_of : (c : In-Some) →
    let s = start c in
    OwnLevel (graph s) s.args.limit s.args.target s.requires.has_plan.origin c.in-Some.bound
bound_of c = let plan = (start c).requires.has_plan in c.in-Some.ensures plan.origin plan.planned

-- the plan holds up to the bound too
planned : (c : In-Some) (origin : List ℕ) →
    let a = (start c).args in
    Planned a.h.states a.limit origin a.work.now → Planned a.h.states c.in-Some.bound origin a.work.now
planned c origin P =
    let a = (start c).args in
    planned_down a.h.states a.limit c.in-Some.bound origin (omega (arith, (bound_of c).below)) P

-- what the search up to the bound leaves
searched : (c : After-search_edges-answer) (origin : List ℕ) →
    let b = (goal.at.After-search_edges-answer c).In-Some in
    let a = (start b).args in
    Planned a.h.states a.limit origin a.work.now
    → Spread (graph (start b)) b.in-Some.bound a.target origin c.search_edges-answer.new.work c.search_edges-answer.result
searched c origin P = c.search_edges-answer.ensures.left origin (planned (goal.at.After-search_edges-answer c).In-Some origin P)

pub search_edges-answer-requires-clause-has_plan : goal.search_edges-answer-requires-clause-has_plan
search_edges-answer-requires-clause-has_plan c =
    let b = (goal.at.search_edges-answer-requires-clause-has_plan c).In-Some in
    let plan = (start b).requires.has_plan in record { origin = plan.origin; planned = planned b plan.origin plan.planned }

pub search_edges-answer-requires-clause-apart_in_plan : goal.search_edges-answer-requires-clause-apart_in_plan
search_edges-answer-requires-clause-apart_in_plan c =
    let b = (goal.at.search_edges-answer-requires-clause-apart_in_plan c).In-Some in
    let s = start b in
    let plan = s.requires.has_plan in
    apart_in_plan (graph s) s.args.target (valid_well_formed s.requires.valid) (planned b plan.origin plan.planned) (own_apart (bound_of b))

pub returns-in-Length : goal.returns-in-Length
returns-in-Length c =
    λ origin P.
    let done = (goal.at.returns-in-Length c).After-search_edges-answer in
    let b = (goal.at.After-search_edges-answer done).In-Some in
    let a = (start b).args in
    let left : List ℕ = done.search_edges-answer.new.work in
    let before = subst (Spread (graph (start b)) b.in-Some.bound a.target origin left) c.in-Length.is (searched done origin P) in
    let le : b.in-Some.bound ≤ a.limit = omega (arith, (b.in-Some.ensures origin P).below) in
    subst (Spread (graph (start b)) a.limit a.target origin left) (sym c.in-Length.is)
    (found_before (graph (start b)) a.target origin le left _ before)

pub returns-in-Nothing : goal.returns-in-Nothing
returns-in-Nothing c =
    λ origin P.
    let done = (goal.at.returns-in-Nothing c).After-search_edges-answer in
    let b = (goal.at.After-search_edges-answer done).In-Some in
    let a = (start b).args in
    let left : List ℕ = done.search_edges-answer.new.work in
    let nothing = subst (Spread (graph (start b)) b.in-Some.bound a.target origin left) c.in-Nothing.is (searched done origin P) in
    found_itself left (b.in-Some.ensures origin P) (valid_well_formed (start b).requires.valid) _ nothing
