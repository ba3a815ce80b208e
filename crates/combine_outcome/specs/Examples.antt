-- Worked examples. The first: a rule of two states that alternate, letters 0 and 1, a property of two states whose edges into
-- state 1 read letter 1; state 1 is marked.
use Rattle.std.specs.Prelude.{ℕ, ◌≡◌, List, [], ◌∷◌, ◌++◌, replicate}
use Rattle.lasso.specs.Roll.{roll}
use Rattle.model.specs.Model.{graph_of}
use Rattle.outcomes.specs.Outcome.{Outcome, refused, answered}
use Rattle.combine_outcome.specs.Combination.{combine_outcome, combine_output}

-- the rule: 0→1, 1→0, no mark
abbrev pub example_rule : List ℕ
example_rule =
    2 ∷ 0 ∷ 2 ∷ 0 ∷ 0 ∷ 0 ∷ 0 ∷ 0 ∷
    24 ∷ 0 ∷ 0 ∷ 0 ∷ 30 ∷ 0 ∷ 0 ∷ 0 ∷ 34 ∷ 0 ∷ 0 ∷ 0 ∷ 35 ∷ 0 ∷ 0 ∷ 0 ∷
    0 ∷ 0 ∷ 1 ∷ 0 ∷ 2 ∷ 0 ∷
    1 ∷ 0 ∷ 0 ∷ 0 ∷
    0 ∷ []

-- its letters
abbrev pub example_letters : List ℕ
example_letters = 0 ∷ 1 ∷ []

-- the property: 0→0, 0→1, 1→0, 1→1 with masks 1, 2, 1, 2, state 1 marked
abbrev pub example_property : List ℕ
example_property =
    2 ∷ 0 ∷ 4 ∷ 0 ∷ 0 ∷ 0 ∷ 0 ∷ 0 ∷
    24 ∷ 0 ∷ 0 ∷ 0 ∷ 30 ∷ 0 ∷ 0 ∷ 0 ∷ 38 ∷ 0 ∷ 0 ∷ 0 ∷ 47 ∷ 0 ∷ 0 ∷ 0 ∷
    0 ∷ 0 ∷ 2 ∷ 0 ∷ 4 ∷ 0 ∷
    0 ∷ 0 ∷ 1 ∷ 0 ∷ 0 ∷ 0 ∷ 1 ∷ 0 ∷
    2 ∷
    1 ∷ 0 ∷ 2 ∷ 0 ∷ 1 ∷ 0 ∷ 2 ∷ 0 ∷ []

-- the combination: 0→2, 1→2, 2→1, 3→1, states 1 and 3 marked
abbrev pub example_result : List ℕ
example_result =
    4 ∷ 0 ∷ 4 ∷ 0 ∷ 0 ∷ 0 ∷ 0 ∷ 0 ∷
    24 ∷ 0 ∷ 0 ∷ 0 ∷ 34 ∷ 0 ∷ 0 ∷ 0 ∷ 42 ∷ 0 ∷ 0 ∷ 0 ∷ 43 ∷ 0 ∷ 0 ∷ 0 ∷
    0 ∷ 0 ∷ 1 ∷ 0 ∷ 2 ∷ 0 ∷ 3 ∷ 0 ∷ 4 ∷ 0 ∷
    2 ∷ 0 ∷ 2 ∷ 0 ∷ 1 ∷ 0 ∷ 1 ∷ 0 ∷
    10 ∷ []

-- A second example, in which the two numbers of states, the initial states and the letters differ: a rule of two states,
-- 0→1, 1→0, 1→1, which starts at 1 and whose own mark, 0, does not count,
abbrev pub second_rule : List ℕ
second_rule =
    2 ∷ 0 ∷ 3 ∷ 0 ∷ 1 ∷ 0 ∷ 0 ∷ 0 ∷
    24 ∷ 0 ∷ 0 ∷ 0 ∷ 30 ∷ 0 ∷ 0 ∷ 0 ∷ 36 ∷ 0 ∷ 0 ∷ 0 ∷ 37 ∷ 0 ∷ 0 ∷ 0 ∷
    0 ∷ 0 ∷ 1 ∷ 0 ∷ 3 ∷ 0 ∷
    1 ∷ 0 ∷ 0 ∷ 0 ∷ 1 ∷ 0 ∷
    1 ∷ []

-- with the letters 0 and 5,
abbrev pub second_letters : List ℕ
second_letters = 0 ∷ 5 ∷ []

-- and a property of three states, which starts at 2: 0→1 by letter 0, 0→2 by 5, 1→0 by 0 and 5, 1→2 by 15, 2→0 by all; state 2
-- is marked
abbrev pub second_property : List ℕ
second_property =
    3 ∷ 0 ∷ 5 ∷ 0 ∷ 2 ∷ 0 ∷ 0 ∷ 0 ∷
    24 ∷ 0 ∷ 0 ∷ 0 ∷ 32 ∷ 0 ∷ 0 ∷ 0 ∷ 42 ∷ 0 ∷ 0 ∷ 0 ∷ 53 ∷ 0 ∷ 0 ∷ 0 ∷
    0 ∷ 0 ∷ 2 ∷ 0 ∷ 4 ∷ 0 ∷ 5 ∷ 0 ∷
    1 ∷ 0 ∷ 2 ∷ 0 ∷ 0 ∷ 0 ∷ 2 ∷ 0 ∷ 0 ∷ 0 ∷
    4 ∷
    1 ∷ 0 ∷ 32 ∷ 0 ∷ 33 ∷ 0 ∷ 0 ∷ 128 ∷ 255 ∷ 255 ∷ []

-- its combination: 0→4, 1→3, 2→3, 3→2, 3→5, 4→0, 4→3, 5→0, 5→3, which starts at 5; states 2 and 5 are marked
abbrev pub second_result : List ℕ
second_result =
    6 ∷ 0 ∷ 9 ∷ 0 ∷ 5 ∷ 0 ∷ 0 ∷ 0 ∷
    24 ∷ 0 ∷ 0 ∷ 0 ∷ 38 ∷ 0 ∷ 0 ∷ 0 ∷ 56 ∷ 0 ∷ 0 ∷ 0 ∷ 57 ∷ 0 ∷ 0 ∷ 0 ∷
    0 ∷ 0 ∷ 1 ∷ 0 ∷ 2 ∷ 0 ∷ 3 ∷ 0 ∷ 5 ∷ 0 ∷ 7 ∷ 0 ∷ 9 ∷ 0 ∷
    4 ∷ 0 ∷ 3 ∷ 0 ∷ 3 ∷ 0 ∷ 2 ∷ 0 ∷ 5 ∷ 0 ∷ 0 ∷ 0 ∷ 3 ∷ 0 ∷ 0 ∷ 0 ∷ 3 ∷ 0 ∷
    36 ∷ []

-- A third, for implied steps: a rule of one state without edges, bytes 6–7 are 1,
abbrev pub staying_rule : List ℕ
staying_rule =
    1 ∷ 0 ∷ 0 ∷ 0 ∷ 0 ∷ 0 ∷ 1 ∷ 0 ∷
    24 ∷ 0 ∷ 0 ∷ 0 ∷ 28 ∷ 0 ∷ 0 ∷ 0 ∷ 28 ∷ 0 ∷ 0 ∷ 0 ∷ 29 ∷ 0 ∷ 0 ∷ 0 ∷
    0 ∷ 0 ∷ 0 ∷ 0 ∷
    0 ∷ []

-- with the letter 3,
abbrev pub staying_letters : List ℕ
staying_letters = 3 ∷ []

-- and a property of one state, 0→0 by letter 3, which is marked;
abbrev pub loop_property : List ℕ
loop_property =
    1 ∷ 0 ∷ 1 ∷ 0 ∷ 0 ∷ 0 ∷ 0 ∷ 0 ∷
    24 ∷ 0 ∷ 0 ∷ 0 ∷ 28 ∷ 0 ∷ 0 ∷ 0 ∷ 30 ∷ 0 ∷ 0 ∷ 0 ∷ 33 ∷ 0 ∷ 0 ∷ 0 ∷
    0 ∷ 0 ∷ 1 ∷ 0 ∷
    0 ∷ 0 ∷
    1 ∷
    8 ∷ 0 ∷ []

-- their combination: 0→0, 0 marked, bytes 6–7 zero
abbrev pub loop_result : List ℕ
loop_result =
    1 ∷ 0 ∷ 1 ∷ 0 ∷ 0 ∷ 0 ∷ 0 ∷ 0 ∷
    24 ∷ 0 ∷ 0 ∷ 0 ∷ 28 ∷ 0 ∷ 0 ∷ 0 ∷ 30 ∷ 0 ∷ 0 ∷ 0 ∷ 31 ∷ 0 ∷ 0 ∷ 0 ∷
    0 ∷ 0 ∷ 1 ∷ 0 ∷
    0 ∷ 0 ∷
    1 ∷ []

-- the property without its edge, bytes 6–7 are 1
abbrev pub ended_property : List ℕ
ended_property =
    1 ∷ 0 ∷ 0 ∷ 0 ∷ 0 ∷ 0 ∷ 1 ∷ 0 ∷
    24 ∷ 0 ∷ 0 ∷ 0 ∷ 28 ∷ 0 ∷ 0 ∷ 0 ∷ 28 ∷ 0 ∷ 0 ∷ 0 ∷ 29 ∷ 0 ∷ 0 ∷ 0 ∷
    0 ∷ 0 ∷ 0 ∷ 0 ∷
    1 ∷ []

-- its combination with the same rule: no edge, 0 marked, bytes 6–7 zero
abbrev pub ended_result : List ℕ
ended_result =
    1 ∷ 0 ∷ 0 ∷ 0 ∷ 0 ∷ 0 ∷ 0 ∷ 0 ∷
    24 ∷ 0 ∷ 0 ∷ 0 ∷ 28 ∷ 0 ∷ 0 ∷ 0 ∷ 28 ∷ 0 ∷ 0 ∷ 0 ∷ 29 ∷ 0 ∷ 0 ∷ 0 ∷
    0 ∷ 0 ∷ 0 ∷ 0 ∷
    1 ∷ []

-- A fourth, for mark tables: the second example's rule with a second mark table, in which state 1 is marked,
abbrev pub two_tables_rule : List ℕ
two_tables_rule =
    2 ∷ 0 ∷ 3 ∷ 0 ∷ 1 ∷ 0 ∷ 0 ∷ 0 ∷
    24 ∷ 0 ∷ 0 ∷ 0 ∷ 30 ∷ 0 ∷ 0 ∷ 0 ∷ 36 ∷ 0 ∷ 0 ∷ 0 ∷ 38 ∷ 0 ∷ 0 ∷ 0 ∷
    0 ∷ 0 ∷ 1 ∷ 0 ∷ 3 ∷ 0 ∷
    1 ∷ 0 ∷ 0 ∷ 0 ∷ 1 ∷ 0 ∷
    1 ∷ 2 ∷ []

-- the property of the third with a second mark table before its mask,
abbrev pub two_tables_property : List ℕ
two_tables_property =
    1 ∷ 0 ∷ 1 ∷ 0 ∷ 0 ∷ 0 ∷ 0 ∷ 0 ∷
    24 ∷ 0 ∷ 0 ∷ 0 ∷ 28 ∷ 0 ∷ 0 ∷ 0 ∷ 30 ∷ 0 ∷ 0 ∷ 0 ∷ 34 ∷ 0 ∷ 0 ∷ 0 ∷
    0 ∷ 0 ∷ 1 ∷ 0 ∷
    0 ∷ 0 ∷
    1 ∷ 1 ∷
    8 ∷ 0 ∷ []

-- and a file of nine states, 0→0, whose last two bytes are its second mark table, if it is a rule, or its mask, if it is a
-- property: 3 is marked, or the letter is 3
abbrev pub either_role : List ℕ
either_role =
    9 ∷ 0 ∷ 1 ∷ 0 ∷ 0 ∷ 0 ∷ 0 ∷ 0 ∷
    24 ∷ 0 ∷ 0 ∷ 0 ∷ 44 ∷ 0 ∷ 0 ∷ 0 ∷ 46 ∷ 0 ∷ 0 ∷ 0 ∷ 50 ∷ 0 ∷ 0 ∷ 0 ∷
    0 ∷ 0 ∷ 1 ∷ 0 ∷ 1 ∷ 0 ∷ 1 ∷ 0 ∷ 1 ∷ 0 ∷ 1 ∷ 0 ∷ 1 ∷ 0 ∷ 1 ∷ 0 ∷ 1 ∷ 0 ∷ 1 ∷ 0 ∷
    0 ∷ 0 ∷
    1 ∷ 0 ∷
    8 ∷ 0 ∷ []

-- what the example's combination answers with so many bytes of output
abbrev pub example_answer : ℕ → Outcome ℕ
example_answer room = combine_outcome example_rule example_letters example_property room

-- The examples: 43 bytes are written and a later byte does not change; with 42 bytes of output it is refused 15, and the
-- output is untouched; the shortest accepting path of the result is 0 2 1 2, the only one. The second one's 57 bytes.
-- In the third the rule stays, and the property never does. In the fourth the rule may have two mark tables, of which the
-- result has nothing, and the property may not; one file passes in both roles, with a result of 81 states and one edge.
pub record ExamplesOfCombining : Type 0 where
  pub bytes : example_answer 45 ≡ answered 43
  pub output : combine_output example_rule example_letters example_property (replicate 45 9) ≡ example_result ++ 9 ∷ 9 ∷ []
  pub short : example_answer 42 ≡ refused 15
  pub untouched : combine_output example_rule example_letters example_property (replicate 42 9) ≡ replicate 42 9
  pub shortest : roll (graph_of example_result 0) ≡ (0 ∷ 2 ∷ 1 ∷ 2 ∷ []) ∷ []
  pub second : combine_output second_rule second_letters second_property (replicate 57 9) ≡ second_result
  pub staying_rule_shown : combine_output staying_rule staying_letters loop_property (replicate 31 9) ≡ loop_result
  pub ended_property_shown : combine_output staying_rule staying_letters ended_property (replicate 29 9) ≡ ended_result
  pub two_tables_rule_shown : combine_output two_tables_rule second_letters second_property (replicate 57 9) ≡ second_result
  pub two_tables_property_shown : combine_outcome staying_rule staying_letters two_tables_property 31 ≡ refused 17
  pub either_role_shown : combine_outcome either_role (replicate 9 3) either_role 201 ≡ answered 201
