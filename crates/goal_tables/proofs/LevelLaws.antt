-- The levels that the searches from a loop start leave in region 2.
use Prim.Native.Nat.{ℕ, suc, ◌<◌}
use native.Mathlib.Omega.{arith}
use mathlib.Core.Path.{◌≡◌, sym, ◌∙◌}
use mathlib.Core.Logic.{◌↔◌}
use mathlib.Core.List.{List}
use mathlib.Core.Option.{some}
use lib.Dec.{T}
use Rattle.lasso.specs.Graph.{Graph, WellFormed}
use Rattle.lasso.specs.Distance.{dist}
use Rattle.table.proofs.Laws.{same_outside_trans}
use Rattle.frontier.specs.Regions.{entry}
use Rattle.edge_search.specs.declared.SpreadAnswer.{SpreadAnswer}
use Rattle.edge_search.specs.declared.SpreadAnswer.TheVariants.{Nothing}
use Rattle.edge_search.specs.Promises.{SpreadFrom}
use Rattle.spread.proofs.SearchLaws.{level_entry, level_within, spread_nothing}
use Rattle.walks.specs.Through.{via_mark, marked_sources, DistancesWithin}
use Rattle.walks.proofs.ThroughLaws.{via_mark_marked, via_mark_levels}
use Rattle.goal_tables.specs.Tables.{LevelsVia}

-- the distances below the limit
pub dist_level : {g : Graph} {x limit count : ℕ} {w w' : List ℕ} → DistancesWithin g x limit w w' count → (t c : ℕ) → t < g.size → c < limit → (entry 2 g.size w' t ≡ suc c) ↔ (dist g x t ≡ some c)
dist_level {g} {x} {limit} {w' = w'} d t c h low = level_within limit (entry 2 g.size w' t) (dist g x t) c (d.distances t h) (omega arith)

-- from a marked state the search from it is enough
pub levels_marked : {g : Graph} {x limit count : ℕ} {w w' : List ℕ} → WellFormed g → x < g.size → T (g.marked x) → DistancesWithin g x limit w w' count → LevelsVia g x limit w w' count
levels_marked {g} {x} wf h marked d =
    record {
      outside = d.outside;
      level = λ t c i low.
          let both = dist_level d t c i low in
          (λ at. via_mark_marked wf x h t marked ∙ both.0 at, λ via. both.1 (sym (via_mark_marked wf x h t marked) ∙ via));
      queue = d.queue;
    }

-- from another state the search goes on from the marked states
pub levels_on : {g : Graph} {x limit count : ℕ} {w w' : List ℕ} (w'' : List ℕ) (r : SpreadAnswer) → WellFormed g → DistancesWithin g x limit w w' count
    → SpreadFrom g (marked_sources g limit w') limit g.size w' w'' r → (found : ℕ) × (r ≡ Nothing found) × LevelsVia g x limit w w'' found
levels_on {g} {x} {limit} {w' = w'} w'' r wf d sp =
    let (found, is, ex) = spread_nothing (marked_sources g limit w') wf r sp in (
      found,
      is,
      record {
        outside = same_outside_trans d.outside ex.outside;
        level = λ t c h low. level_entry limit (entry 2 g.size w'' t) (via_mark g x t) c (via_mark_levels d ex t h) low;
        queue = ex.queue;
      },
    )
