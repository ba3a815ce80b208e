-- Distances in the examples: one table, and one claim about its rows.
use Rattle.std.specs.Prelude.{ℕ, ◌*◌, ◌≡◌, List, [], ◌∷◌, ◌++◌, map, length, drop}
use Rattle.format.specs.Layout.{states}
use Rattle.outcomes.specs.Outcome.{Outcome, answered}
use Rattle.distances.specs.Distances.{distances_outcome, distances_output}
use Rattle.examples.specs.Examples.{file_a, file_a1, file_d, file_h, lent_answer}

-- A row of the table: a file, a ceiling, and the entries expected, one for each state.
pub record DistanceRow : Type 0 where
  pub file : List ℕ
  pub ceiling : ℕ
  pub entries : List ℕ

-- the row of a file with a ceiling
abbrev pub distances_row : List ℕ → (ceiling : ℕ) → List ℕ → DistanceRow
distances_row f ceiling entries = record { file = f; ceiling = ceiling; entries = entries }

-- the distances
abbrev pub distance_rows : List DistanceRow
distance_rows =
    -- D: state 4 is not reached
    distances_row file_d 4096 (0 ∷ 1 ∷ 1 ∷ 2 ∷ 65535 ∷ []) ∷
    distances_row file_d 2 (0 ∷ 1 ∷ 1 ∷ 2 ∷ 65535 ∷ []) ∷
    distances_row file_d 1 (0 ∷ 1 ∷ 1 ∷ 65535 ∷ 65535 ∷ []) ∷
    distances_row file_d 0 (0 ∷ 65535 ∷ 65535 ∷ 65535 ∷ 65535 ∷ []) ∷
    -- H
    distances_row file_h 3 (0 ∷ 1 ∷ 2 ∷ 3 ∷ 65535 ∷ 1 ∷ 2 ∷ []) ∷
    -- A with 0 and with 1 in bytes 6–7
    distances_row file_a 4096 (0 ∷ []) ∷
    distances_row file_a1 4096 (0 ∷ []) ∷ []

-- What a distance call does: its answer, and the output afterwards.
pub record Measured : Type 0 where
  pub answer : Outcome ℕ
  pub output : List ℕ

-- what it does at a row, lent an output of 8 entries and 6 × N working entries
abbrev pub distances_given : DistanceRow → Measured
distances_given r =
    let workRoom : ℕ = 6 * states r.file in
    record {
      answer = distances_outcome r.file r.ceiling (length lent_answer) workRoom;
      output = distances_output r.file r.ceiling lent_answer workRoom;
    }

-- what is expected: N entries, the row's, and later entries as they were lent
abbrev pub distances_expected : DistanceRow → Measured
distances_expected r =
    record { answer = answered (length r.entries); output = r.entries ++ drop (length r.entries) lent_answer }

-- every row gives what is expected
abbrev pub DistancesHold : Type 0
DistancesHold = map distances_given distance_rows ≡ map distances_expected distance_rows
