-- What is known of a list up to a place, and of one that was longer.
use Rattle.std.specs.Prelude.{ℕ, suc, ◌+◌, ◌≤◌, ◌≡◌, true, List}
use Rattle.model.specs.declared.Header.{Header}
use Rattle.model.specs.Model.{graph_in}
use Rattle.current.specs.Current.{state_at}
use Rattle.goals.specs.Goals.{LastStart, LastMark}
use Rattle.goal_tables.specs.Tables.{Tables}
use Rattle.passed.specs.declared.Passed.{Passed}

-- what is known of the list up to a place is so: its last loop start, its last mark, and the tables after that loop start
-- if they are said to be there
pub record PassedAt (f : List ℕ) (h : Header) (w : List ℕ) (l place : ℕ) (p : Passed) : Type 0 where
  pub start : LastStart (graph_in f h) l (state_at h w) place p.start
  pub mark : LastMark (graph_in f h) (state_at h w) place p.mark
  pub tables : p.made ≡ true → (b : ℕ) → p.start ≡ suc b → Tables (graph_in f h) l (state_at h w) b w

-- what was known of a longer list is so of this one, as far as it speaks of places up to the given one
pub record KnownFrom (f : List ℕ) (h : Header) (w : List ℕ) (l place : ℕ) (p : Passed) : Type 0 where
  pub start : p.start ≤ place + 1 → LastStart (graph_in f h) l (state_at h w) place p.start
  pub mark : p.mark ≤ place + 1 → LastMark (graph_in f h) (state_at h w) place p.mark
  pub tables : p.made ≡ true → (b : ℕ) → p.start ≡ suc b → b ≤ place → Tables (graph_in f h) l (state_at h w) b w

-- r has these as the last loop start and the last mark; it says that the tables are there only if p does and the loop start is
-- the same
pub record Moved (p : Passed) (start mark : ℕ) (r : Passed) : Type 0 where
  pub start_is : r.start ≡ start
  pub mark_is : r.mark ≡ mark
  pub made : r.made ≡ true → (p.made ≡ true) × (start ≡ p.start)
