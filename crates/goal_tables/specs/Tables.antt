-- What the tables after a loop start are made from, and what is left.
use Rattle.std.specs.Prelude.{ℕ, suc, ◌*◌, ◌<◌, ◌≡◌, ◌↔◌, List, T}
use Rattle.std.proofs.Math.Option.{some}
use Rattle.lasso.specs.Graph.{Graph, edgeb}
use Rattle.model.specs.declared.Header.{Header}
use Rattle.model.specs.Model.{graph_in}
use Rattle.table.specs.Changes.{SameOutside}
use Rattle.frontier.specs.Regions.{entry}
use Rattle.frontier.specs.Search.{Queue}
use Rattle.walks.specs.Through.{via_mark}
use Rattle.current.specs.Current.{state_at}
use Rattle.stems.specs.Stems.{LoopAt}
use Rattle.follow.specs.Follow.{Prepared}
use Rattle.goals.specs.Goals.{LastMark, LaterTable, SoonerTable}

-- what is prepared, and the list up to place b, where a loop start stands at its distance
pub record Ground (f : List ℕ) (h : Header) (w : List ℕ) (l b : ℕ) : Type 0 where
  pub prepared : Prepared f h w l
  pub edge : (k : ℕ) → k < b → T (edgeb (graph_in f h) (state_at h w k) (state_at h w (suc k)))
  pub loop : LoopAt (graph_in f h) l (state_at h w) b

-- region 2 holds the least steps from x through a mark, below the limit, and region 3 the queue of a search
pub record LevelsVia (g : Graph) (x limit : ℕ) (w w' : List ℕ) (count : ℕ) : Type 0 where
  pub outside : SameOutside (2 * g.size) (6 * g.size) w w'
  pub level : (t c : ℕ) → t < g.size → c < limit → (entry 2 g.size w' t ≡ suc c) ↔ (via_mark g x t ≡ some c)
  pub queue : Queue g.size count w'

-- region 5 holds the table for lists with a mark after the loop start, and region 2 the same entries
pub record LaterMade (g : Graph) (l : ℕ) (p : ℕ → ℕ) (b : ℕ) (w w' : List ℕ) : Type 0 where
  pub outside : SameOutside (2 * g.size) (6 * g.size) w w'
  pub table : LaterTable g l p b w'
  pub same : (t : ℕ) → t < g.size → entry 5 g.size w' t ≡ entry 2 g.size w' t

-- both tables
pub record Tables (g : Graph) (l : ℕ) (p : ℕ → ℕ) (b : ℕ) (w : List ℕ) : Type 0 where
  pub mark : ℕ
  pub last : LastMark g p b mark
  pub later : LaterTable g l p b w
  pub sooner : SoonerTable g l p b mark w

-- region 2 holds the second table, and region 5 still the first
pub record SoonerMade (g : Graph) (l : ℕ) (p : ℕ → ℕ) (b mark : ℕ) (w w' : List ℕ) : Type 0 where
  pub outside : SameOutside (2 * g.size) (6 * g.size) w w'
  pub later : LaterTable g l p b w'
  pub sooner : SoonerTable g l p b mark w'
