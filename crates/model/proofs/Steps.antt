-- The successors that a row's part stands for: its numbers, or the implied step.
use Prim.Native.Nat.{ℕ, ◌≤◌, ◌<◌}
use mathlib.Core.Path.{◌≡◌, refl, ◌∙◌}
use mathlib.Core.List.{List, [], ◌∷◌}
use mathlib.Core.Logic.{◌⊎◌}
use lib.ListN.{length, get_or, drop}
use Rattle.format.specs.Bytes.{words}
use Rattle.model.specs.declared.Header.{Header}
use Rattle.model.specs.Model.{with_implied, steps_of}
use Rattle.model.proofs.Implied.{implied_some, implied_or_itself, implied_behind_first}

module _ (h : Header) (s : ℕ) (part : List ℕ) where
  -- the successors are the numbers of the part, with the implied step
  steps_are : steps_of h s part ≡ with_implied h.stays s (words part)
  unfolding steps_of
  steps_are = refl

  -- a part that holds a number stands for its numbers
  pub steps_edges : 1 ≤ length (words part) → steps_of h s part ≡ words part
  steps_edges l = steps_are ∙ implied_some h.stays s (words part) l

  -- a part stands for its numbers, or for one step to the state itself
  pub steps_or_itself : (steps_of h s part ≡ words part) ⊎ (steps_of h s part ≡ s ∷ [])
  unfolding steps_of
  steps_or_itself = implied_or_itself h.stays s (words part)

  -- after the first successor there are only edges
  pub steps_behind_first : 0 < length (steps_of h s part) → steps_of h s part ≡ get_or (steps_of h s part) 0 0 ∷ drop 1 (words part)
  unfolding steps_of
  steps_behind_first l = implied_behind_first h.stays s (words part) l
