-- The distance call: for each state its distance from the initial state, up to a ceiling.
use Rattle.std.specs.Prelude.{ℕ, suc, List, [], ◌∷◌, ◌++◌, map, length, ltb, Result}
use Rattle.numbers.specs.declared.reason.Reason as code
use Rattle.std.proofs.Math.Option.{Option, some, none}
use Rattle.numbers.specs.Reasons as reason
use Rattle.lists.specs.Lists.{below}
use Rattle.lists.specs.Limit.{under}
use Rattle.lasso.specs.Graph.{Graph}
use Rattle.lasso.specs.Distance.{dist}
use Rattle.numbers.specs.Limits.{not_reached}
use Rattle.format.specs.Layout.{states}
use Rattle.format.specs.Rules.{Reason, first_broken}
use Rattle.model.specs.Model.{graph_of}
use Rattle.gate.specs.Gate.{common_rules, ceiling_reason}
use Rattle.outcomes.specs.Outcome.{Outcome, outcome, outcome_of, LosesNothing}
use Rattle.outcomes.specs.Tables.{unless_refused, written}

-- which outcome each result of the code's distance call is: refused, or the number of entries written
abbrev pub distances_outcome_of : Result ℕ code.Reason → Outcome ℕ
distances_outcome_of = outcome_of (λ entries. entries)

-- no figure of a distance call's answer is lost in its outcome
abbrev pub DistancesLoseNothing : Type 0
DistancesLoseNothing = LosesNothing distances_outcome_of

-- the entry for a distance, if there is one
abbrev pub entry_for : Option ℕ → ℕ
entry_for none = not_reached
entry_for (some d) = d

-- the entry of state s: its distance from the initial state if not above the ceiling, else 65,535
abbrev pub distance_entry : Graph → ℕ → ℕ → ℕ
distance_entry g ceiling s = entry_for (under (suc ceiling) (dist g g.start s))

-- the entries of all states, in ascending number
abbrev pub distance_table : Graph → ℕ → List ℕ
distance_table g ceiling = map (distance_entry g ceiling) (below g.size)

-- the reasons that a distance call applies: 1 to 12, then 21 for a ceiling above 4,096, then 15 if the output has fewer
-- than N entries
abbrev pub distance_reasons : List ℕ → ℕ → ℕ → ℕ → List Reason
distance_reasons f ceiling outputRoom workRoom =
    common_rules f workRoom ++ ceiling_reason ceiling ∷ record { number = reason.no_room; holds = ltb outputRoom (states f) } ∷ []

-- what a distance call answers: not refused, it writes N entries
abbrev pub distances_outcome : List ℕ → ℕ → ℕ → ℕ → Outcome ℕ
distances_outcome f ceiling outputRoom workRoom =
    outcome (first_broken (distance_reasons f ceiling outputRoom workRoom)) (states f)

-- the output after a distance call: not refused, the entries of all states from entry 0 on
abbrev pub distances_output : List ℕ → ℕ → List ℕ → ℕ → List ℕ
distances_output f ceiling output workRoom =
    written
    (unless_refused (first_broken (distance_reasons f ceiling (length output) workRoom))
    (some (distance_table (graph_of f 0) ceiling)))
    output
