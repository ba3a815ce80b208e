-- Candidates, a round, and the round record.
use Rattle.std.specs.Prelude.{ℕ, zero, suc, ◌+◌, min, Bool, ◌&&◌, List, length, get_or, leb}
use Rattle.std.proofs.Math.Option.{Option, none}
use Rattle.lists.specs.Lists.{keep, below, is_some}
use Rattle.lists.specs.Least.{lesser, sum, least_of}
use Rattle.lists.specs.Limit.{under}
use Rattle.lasso.specs.Graph.{Graph}
use Rattle.lasso.specs.Distance.{dist, dist_plus}

-- a state is a candidate if it is marked and can be reached from the initial state
abbrev pub candidateb : Graph → ℕ → Bool
candidateb g s = g.marked s && is_some (dist g g.start s)

-- the candidates, in ascending number
abbrev pub candidates : Graph → List ℕ
candidates g = keep (candidateb g) (below g.size)

-- a round's length for candidate r: the minimum, over states s, of d(i, s) + d(r, s) plus the least length of a path with
-- at least one edge from s to r
abbrev pub round_length : Graph → ℕ → Option ℕ
round_length g r =
    least_of (λ s. sum (sum (dist g g.start s) (dist g r s)) (dist_plus g s r)) (below g.size)

-- a round's length under a ceiling: a round whose least length lies above the ceiling has no length
abbrev pub round_within : Graph → (ceiling r : ℕ) → Option ℕ
round_within g ceiling r = under (suc ceiling) (round_length g r)

-- the round record: the number of rounds done, and the best length so far
pub record Record : Type 0 where
  pub done : ℕ
  pub best : Option ℕ

-- the length of the best so far, if there is one
abbrev pub best_length : Record → Option ℕ
best_length rec = rec.best

-- the record after one more round, given that round's length
abbrev pub with_round : Record → Option ℕ → Record
with_round rec found = record { done = rec.done + 1; best = lesser rec.best found }

-- no candidate is left: the count equals or exceeds the number of candidates
abbrev pub finishedb : Graph → Record → Bool
finishedb g rec = leb (length (candidates g)) rec.done

-- the record after the round, under a ceiling, for the candidate whose place is the count
abbrev pub after_round : Graph → (ceiling : ℕ) → Record → Record
after_round g ceiling rec = with_round rec (round_within g ceiling (get_or (candidates g) rec.done 0))

-- the record after n rounds of a search under a ceiling, which starts from count 0 and best none
abbrev pub after_rounds : Graph → (ceiling n : ℕ) → Record
after_rounds g ceiling zero = record { done = 0; best = none }
after_rounds g ceiling (suc n) = after_round g ceiling (after_rounds g ceiling n)

-- the record of a search after all rounds that the allowance admits
abbrev pub after_allowed : Graph → (ceiling allowance : ℕ) → Record
after_allowed g ceiling allowance = after_rounds g ceiling (min allowance (length (candidates g)))
