-- `search_bound` meets its contract: a target that is no state, or has not itself as its only successor, leaves the limit;
-- any other the level in whose list it is.
use Prim.Native.Nat.{ℕ}
use mathlib.Core.Path.{sym, ap, ◌∙◌}
use mathlib.Core.List.{List}
use native.Mathlib.Omega.{arith}
use lib.ListN.{length, get_or}
use Rattle.lasso.specs.Graph.{Graph}
use Rattle.model.specs.Model.{graph_in}
use Rattle.spread.proofs.BoundLaws.{only_one, level_bounds}
use Rattle.spread.proofs.search_bound.Goals as goal

pub returns : goal.returns
returns c =
    let a = c.args in
    let g : Graph = graph_in a.file.now a.h in
    level_bounds g a.limit a.target a.work.now _ (omega arith)
    (only_one (g.succs a.target) a.target
    (sym (c.len.ensures ∙ ap length c.successors_of-successors.ensures) ∙ c.if-len-ne1.false)
    (sym (c.target.ensures ∙ ap (λ (ts : List ℕ). get_or ts 0 0) c.successors_of-successors.ensures) ∙ c.if-target.false))
    c.listed_level.ensures
