-- The states that can start the loop of a shortest lasso.
use Rattle.std.specs.Prelude.{ℕ, suc, ◌-◌, ◌<◌, ◌≡◌, List}
use Rattle.std.proofs.Math.Option.{Option, some, none}
use Rattle.lasso.specs.Graph.{Graph}
use Rattle.lasso.specs.Distance.{dist}
use Rattle.frontier.specs.Regions.{entry, entry_of}
use Rattle.lists.specs.Limit.{under}
use Rattle.walks.specs.Through.{loop_length}

-- the loop length, if the stem of d transitions and the loop have at most l transitions together
abbrev pub loop_within : ℕ → Option ℕ → Option ℕ → Option ℕ
loop_within l none loop = none
loop_within l (some d) loop = under (suc (l - d)) loop

-- the loop length of a state that can start the loop of a lasso with l transitions
abbrev pub start_loop : Graph → ℕ → ℕ → Option ℕ
start_loop g l s = loop_within l (dist g g.start s) (loop_length g s)

-- region 1 holds the loop length of each state that can start the loop of a lasso with l transitions
pub record StartLoops (g : Graph) (l : ℕ) (w : List ℕ) : Type 0 where
  pub loops : (s : ℕ) → s < g.size → entry 1 g.size w s ≡ entry_of (start_loop g l s)
