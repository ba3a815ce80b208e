-- All accepting paths of least length: the paper's roll.
use Rattle.std.specs.Prelude.{ℕ, suc, List, []}
use Rattle.std.proofs.Math.Option.{Option, some, none}
use Rattle.lists.specs.Lists.{keep, seek, non_emptyb}
use Rattle.lists.specs.Limit.{under}
use Rattle.lasso.specs.Graph.{Graph, acceptingb}
use Rattle.lasso.specs.Order.{all_lists}

-- the accepting paths with l transitions, in dictionary order
abbrev pub of_length : Graph → ℕ → List (List ℕ)
of_length g l = keep (acceptingb g) (all_lists g.size (suc l))

-- the least length of an accepting path, if there is one
abbrev pub least_length : Graph → Option ℕ
least_length g = seek (λ l. non_emptyb (of_length g l)) 1 g.size

-- the accepting paths of the length given, if one is given
abbrev pub of_least : Graph → Option ℕ → List (List ℕ)
of_least g none = []
of_least g (some l) = of_length g l

-- the roll: all accepting paths of least length, each once, in dictionary order
abbrev pub roll : Graph → List (List ℕ)
roll g = of_least g (least_length g)

-- the roll if its lists are not longer than the ceiling, otherwise no list
abbrev pub roll_within : Graph → (ceiling : ℕ) → List (List ℕ)
roll_within g ceiling = of_least g (under (suc ceiling) (least_length g))
