-- A place in the roll, held in the working table.
use Rattle.std.specs.Prelude.{ℕ, ◌+◌, ◌<◌, ◌≡◌, Bool, true, false, List, [], length, get_or}
use Rattle.lasso.specs.Graph.{Graph}
use Rattle.lasso.specs.Roll.{roll}
use Rattle.model.specs.declared.Header.{Header}
use Rattle.model.specs.Model.{graph_in}
use Rattle.current.specs.Current.{list_in}
use Rattle.follow.specs.Follow.{Prepared}

-- the list in region 0 is the one at a place of the roll
pub record Stands (g : Graph) (l : ℕ) (w : List ℕ) (place : ℕ) : Type 0 where
  pub place_in : place < length (roll g)
  pub list_at : get_or (roll g) place [] ≡ list_in g.start w l

-- the working table is at a place of the roll: the list there stands in region 0, and what is needed to go on is prepared
pub record At (f : List ℕ) (h : Header) (l place : ℕ) (w : List ℕ) : Type 0 where
  pub prepared : Prepared f h w l
  pub current : Stands (graph_in f h) l w place

-- it is at some place of the roll
pub record Placed (f : List ℕ) (h : Header) (l : ℕ) (w : List ℕ) : Type 0 where
  pub place : ℕ
  pub at : At f h l place w

-- it is at the place of a given list
pub record PlacedAt (f : List ℕ) (h : Header) (l : ℕ) (xs w : List ℕ) : Type 0 where
  pub placed : Placed f h l w
  pub list_is : list_in (graph_in f h).start w l ≡ xs

-- after a place: true if the table is at the next one, false if there is none
abbrev pub MovedTo : List ℕ → Header → ℕ → ℕ → List ℕ → Bool → Type 0
MovedTo f h l place w true = At f h l (place + 1) w
MovedTo f h l place w false = length (roll (graph_in f h)) ≡ place + 1

-- the step from wherever the table is
abbrev pub MovedOn : List ℕ → Header → ℕ → List ℕ → List ℕ → Bool → Type 0
MovedOn f h l w w' r = (place : ℕ) → At f h l place w → MovedTo f h l place w' r
