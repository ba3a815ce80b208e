-- The line of a list: each stem state followed by a space, a bar, and each loop state preceded by a space.
use Rattle.std.specs.Prelude.{ℕ, List, [], ◌∷◌, ◌++◌}
use Rattle.lists.specs.Lists.{collect}
use Rattle.lasso.specs.Graph.{stem, loop}
use Rattle.text.specs.Characters.{space, line_feed}
use Rattle.text.specs.Decimal.{decimal}

abbrev pub bar : ℕ
bar = 124

-- each state between two texts
abbrev pub between : (before after ss : List ℕ) → List ℕ
between before after ss = collect (λ s. before ++ decimal s ++ after) ss

-- each state followed by a space
abbrev pub space_after : List ℕ → List ℕ
space_after ss = collect (λ s. decimal s ++ space ∷ []) ss

-- each state preceded by a space
abbrev pub space_before : List ℕ → List ℕ
space_before ss = collect (λ s. space ∷ decimal s) ss

-- the line with the states of a stem, a bar, and the states of a loop
abbrev pub stem_loop : List ℕ → List ℕ → List ℕ
stem_loop ss ls = space_after ss ++ bar ∷ space_before ls ++ line_feed ∷ []

-- the line of a list
abbrev pub line : List ℕ → List ℕ
line xs = stem_loop (stem xs) (loop xs)
