-- What region 1 says of a place of the list, and the list with one state more.
use Rattle.std.specs.Prelude.{ℕ, ◌+◌, ◌/◌, ◌%◌, ◌≡◌, List, ◌∷◌, get_or, set}
use Rattle.model.specs.declared.Header.{Header}
use Rattle.frontier.specs.Regions.{entry}
use Rattle.passed.specs.Passed.{PassedAt}
use Rattle.passed.specs.declared.Passed.{Passed}

-- region 1 says that the state at place k can start the loop and stands at its distance
abbrev pub LoopEntry : ℕ → ℕ → List ℕ → ℕ → Type 0
LoopEntry n start w k =
    (entry 1 n w (get_or (start ∷ w) k 0) % 2 ≡ 1) × (entry 1 n w (get_or (start ∷ w) k 0) / 2 ≡ k + 1)

-- state t was put after the list up to a place, and what is known of the longer list is so
pub record Appended (f : List ℕ) (h : Header) (w w' : List ℕ) (l place t : ℕ) (r : Passed) : Type 0 where
  pub stored : w' ≡ set w place t
  pub passed : PassedAt f h w' l (place + 1) r
