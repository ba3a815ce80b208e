-- Reasons 14 and 15, and what a call does to the answer table.
use Rattle.std.specs.Prelude.{ℕ, ◌+◌, Bool, false, List, [], ◌∷◌, ◌++◌, length, drop, ltb}
use Rattle.std.proofs.Math.Option.{Option, some, none}
use Rattle.numbers.specs.Reasons as reason
use Rattle.lasso.specs.Graph.{Graph, edges}
use Rattle.lasso.specs.Roll.{least_length}
use Rattle.numbers.specs.Limits.{longest_path}
use Rattle.format.specs.Rules.{Reason}

-- 14. the length is above 4,096
abbrev pub too_long : Option ℕ → Bool
too_long none = false
too_long (some l) = ltb longest_path l

-- 15. a list of that length is to be written and the answer table has fewer than L + 1 entries
abbrev pub no_room : Option ℕ → ℕ → Bool
no_room none answerRoom = false
no_room (some l) answerRoom = ltb answerRoom (l + 1)

-- the length of the list that is to be written
abbrev pub length_due : Option (List ℕ) → Option ℕ
length_due none = none
length_due (some xs) = some (edges xs)

-- the reasons 14 and 15, where the model and the list that is to be written are given
abbrev pub list_reasons : Graph → Option (List ℕ) → ℕ → List Reason
list_reasons g due answerRoom =
    record { number = reason.too_long; holds = too_long (least_length g) } ∷
    record { number = reason.no_room; holds = no_room (length_due due) answerRoom } ∷ []

-- the list due if the call is not refused
abbrev pub unless_refused : Option ℕ → Option (List ℕ) → Option (List ℕ)
unless_refused none due = due
unless_refused (some n) due = none

-- the answer table afterwards: the list that is written, if any, from entry 0 on; later entries do not change
abbrev pub written : Option (List ℕ) → List ℕ → List ℕ
written none a = a
written (some xs) a = xs ++ drop (length xs) a
