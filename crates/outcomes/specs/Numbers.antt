-- The numbers of the reasons that each call applies, in checking order.
use Rattle.std.specs.Prelude.{ℕ, List, [], ◌∷◌, ◌++◌}
use Rattle.lists.specs.Lists.{up_from}
use Rattle.numbers.specs.Reasons as reason

-- a call that names a mark table applies 22 before 1; a step, a search and a distance call apply 21 after 12, a search
-- skips 13, the grader goes no further than 12
abbrev pub step_numbers : List ℕ
step_numbers = reason.no_table ∷ up_from 1 12 ++ reason.high_ceiling ∷ []

abbrev pub search_numbers : List ℕ
search_numbers = reason.no_table ∷ up_from 1 12 ++ reason.high_ceiling ∷ reason.too_long ∷ reason.no_room ∷ []

abbrev pub next_numbers : List ℕ
next_numbers = reason.no_table ∷ up_from 1 12 ++ reason.not_shortest ∷ reason.too_long ∷ reason.no_room ∷ []

abbrev pub grade_numbers : List ℕ
grade_numbers = reason.no_table ∷ up_from 1 12

abbrev pub distance_numbers : List ℕ
distance_numbers = up_from 1 12 ++ reason.high_ceiling ∷ reason.no_room ∷ []

-- a combination applies 1 to 11 to its rule, then 16, 17 and 18, last 15
abbrev pub combine_numbers : List ℕ
combine_numbers = up_from 1 11 ++ reason.bad_letters ∷ reason.bad_property ∷ reason.too_large ∷ reason.no_room ∷ []
