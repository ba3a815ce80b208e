-- `distances_from` meets its contract: the search from one source leaves the distances up to the limit, and answers how many
-- states it reached.
use Prim.Native.Nat.{ℕ, ◌+◌, ◌*◌}
use mathlib.Core.Path.{◌≡◌, ◌∙◌}
use Prim.Native.Nat.{ℕ}
use native.Mathlib.Omega.{arith}
use Rattle.model.specs.Model.{graph_in}
use Rattle.model.proofs.Laws.{valid_well_formed}
use Rattle.edge_search.specs.declared.SpreadAnswer.TheVariants.{Nothing}
use Rattle.walks.specs.Through.{DistancesWithin}
use Rattle.walks.proofs.ThroughSteps.{started_distances}
use Rattle.walks.proofs.distances_from.Goals as goal
use Rattle.walks.proofs.distances_from.Goals.{After-search_edges-answer}

-- what the search answers and leaves
searched : (c : After-search_edges-answer) →
    let search = c.search_edges-answer in
    let a = c.args in
    (count : ℕ) × (search.result ≡ Nothing count) × DistancesWithin (graph_in a.file.now a.h) a.x a.limit a.work.now search.new.work count
searched c =
    let a = c.args in
    let made = c.start_at.ensures in
    let search = c.search_edges-answer in
    started_distances {g = graph_in a.file.now a.h} _ (valid_well_formed c.requires.valid) c.requires.x_lt_states c.requires.le_limit search.result made.started (λ t h apart. search.ensures.same.same_after (5 * a.h.states + t) (omega arith) ∙ made.fifth t h apart) (search.ensures.left made.origin made.planned)

pub returns-in-Length : goal.returns-in-Length
returns-in-Length c =
    let (count, is, left) = searched (goal.at.returns-in-Length c).After-search_edges-answer in
    let found = c.in-Length.is in
    let z : ◌≡◌ {A = ℕ} 0 1 = cc in
    absurd (omega arith)

pub returns-in-Nothing : goal.returns-in-Nothing
returns-in-Nothing c =
    let (count, is, left) = searched (goal.at.returns-in-Nothing c).After-search_edges-answer in
    let told = c.in-Nothing.is in
    let same : count ≡ c.in-Nothing.count = cc in
    rw same at left
