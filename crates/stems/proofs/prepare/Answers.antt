-- `stems::prepare` meets its contract: step by step.
use Prim.Native.Nat.{ℕ}
use mathlib.Core.Path.{subst}
use native.Mathlib.Omega.{arith}
use Rattle.lasso.proofs.RollLaws.{least_length_range}
use Rattle.model.specs.Model.{graph_in}
use Rattle.model.proofs.Laws.{valid_sizes, valid_well_formed}
use Rattle.walks.specs.Through.{DistancesWithin}
use Rattle.stems.proofs.StemSteps.{stems_queue, stems_fit, stems_done}
use Rattle.stems.proofs.prepare.Goals as goal
use Rattle.stems.proofs.prepare.Goals.{After-distances_from-count}

-- the distances are those up to the least length
away : (c : After-distances_from-count) →
    let a = c.args in
    DistancesWithin (graph_in a.file.now a.h) a.h.start a.transitions.0 c.prepare_starts.new.work c.distances_from-count.new.work c.distances_from-count.result
away c =
    let a = c.args in
    subst (λ (k : ℕ). DistancesWithin (graph_in a.file.now a.h) a.h.start k c.prepare_starts.new.work c.distances_from-count.new.work c.distances_from-count.result)
    c.number-limit.ensures c.distances_from-count.ensures

pub distances_from-count-requires-clause-le_limit : goal.distances_from-count-requires-clause-le_limit
distances_from-count-requires-clause-le_limit c =
    omega (arith, least_length_range (graph_in c.args.file.now c.args.h) c.args.transitions.0 c.requires.h_value)

pub distances_from-count-requires-clause-limit_le_states : goal.distances_from-count-requires-clause-limit_le_states
distances_from-count-requires-clause-limit_le_states c =
    omega (arith, least_length_range (graph_in c.args.file.now c.args.h) c.args.transitions.0 c.requires.h_value, (valid_sizes c.requires.rounds_ready.valid).states_are)

pub keep_ways-requires-clause-queue : goal.keep_ways-requires-clause-queue
keep_ways-requires-clause-queue c =
    let a = (goal.at.keep_ways-requires-clause-queue c).After-distances_from-count in
    stems_queue (valid_well_formed c.requires.rounds_ready.valid) c.requires.h_value c.prepare_starts.ensures.start_loops (away a) c.copy.ensures

pub put_stems-requires-clause-levels_fit : goal.put_stems-requires-clause-levels_fit
put_stems-requires-clause-levels_fit c =
    let a = (goal.at.put_stems-requires-clause-levels_fit c).After-distances_from-count in
    stems_fit (valid_well_formed c.requires.rounds_ready.valid) c.requires.h_value c.prepare_starts.ensures.start_loops (away a) c.copy.ensures c.keep_ways.ensures

pub returns-clause-stem_entries : goal.returns-clause-stem_entries
returns-clause-stem_entries c =
    let a = (goal.at.returns-clause-stem_entries c).After-distances_from-count in
    stems_done (valid_well_formed c.requires.rounds_ready.valid) c.requires.h_value c.prepare_starts.ensures.start_loops (away a) c.copy.ensures c.keep_ways.ensures c.put_stems.ensures
