-- The starred examples: one table, and one claim about its rows.
use Rattle.std.specs.Prelude.{ℕ, ◌+◌, ◌*◌, ◌-◌, ◌≤◌, ◌≡◌, List, [], ◌∷◌, ◌++◌, map, length, get_or, take, drop, replicate, leb}
use Rattle.std.proofs.Math.Option.{some, none}
use Rattle.lists.specs.Lists.{memb, pick}
use Rattle.lasso.specs.Graph.{Graph}
use Rattle.format.specs.ExampleD.{bytes_with, bytes_d, file_two}
use Rattle.format.specs.Layout.{states}
use Rattle.writer.specs.File.{word16, file_of}
use Rattle.gate.specs.declared.Ask.{Ask}
use Rattle.gate.specs.Gate.{asking, zeros}
use Rattle.outcomes.specs.Outcome.{Outcome, refused, answered}
use Rattle.search.specs.Search.{Searched, stopped, none_within}
use Rattle.next.specs.Next.{Followed, no_more}
use Rattle.sequence.specs.Calls.{Call, search, next, Answer, of_search, of_next, Result, work_lent, finder_at}

-- the model with the initial state, the successors of each state, and the marked states
abbrev pub graph_with : ℕ → List (List ℕ) → List ℕ → Graph
graph_with start rows marks =
    record { size = length rows; start = start; succs = λ s. get_or rows s []; marked = λ s. memb s marks }

-- A: N = 1, no edge, 0 marked
abbrev pub file_a : List ℕ
file_a = file_of (graph_with 0 ([] ∷ []) (0 ∷ []))

-- the file with bytes 6–7 set to 1
abbrev pub with_stays : List ℕ → List ℕ
with_stays f = take 6 f ++ word16 1 ++ drop 8 f

-- A with 1 in bytes 6–7
abbrev pub file_a1 : List ℕ
file_a1 = with_stays file_a

-- B: 0→0, 0 marked
abbrev pub file_b : List ℕ
file_b = file_of (graph_with 0 ((0 ∷ []) ∷ []) (0 ∷ []))

-- C: 0→0, no mark
abbrev pub file_c : List ℕ
file_c = file_of (graph_with 0 ((0 ∷ []) ∷ []) [])

-- D: 0→1, 0→2, 1→3, 2→3, 3→1, 3→2, 4→4, marks 3 and 4
abbrev pub file_d : List ℕ
file_d = file_of (graph_with 0 ((1 ∷ 2 ∷ []) ∷ (3 ∷ []) ∷ (3 ∷ []) ∷ (1 ∷ 2 ∷ []) ∷ (4 ∷ []) ∷ []) (3 ∷ 4 ∷ []))

-- E: 0→1, 1→1, 0 marked
abbrev pub file_e : List ℕ
file_e = file_of (graph_with 0 ((1 ∷ []) ∷ (1 ∷ []) ∷ []) (0 ∷ []))

-- F: 0→1, 1→0, 1 marked
abbrev pub file_f : List ℕ
file_f = file_of (graph_with 0 ((1 ∷ []) ∷ (0 ∷ []) ∷ []) (1 ∷ []))

-- G: 0→1, 1→1, 1 marked
abbrev pub file_g : List ℕ
file_g = file_of (graph_with 0 ((1 ∷ []) ∷ (1 ∷ []) ∷ []) (1 ∷ []))

-- H: 0→1, 0→5, 1→2, 2→3, 3→4, 4→1, 5→6, 6→6, marks 1 and 6
abbrev pub file_h : List ℕ
file_h = file_of (graph_with 0 ((1 ∷ 5 ∷ []) ∷ (2 ∷ []) ∷ (3 ∷ []) ∷ (4 ∷ []) ∷ (1 ∷ []) ∷ (6 ∷ []) ∷ (6 ∷ []) ∷ []) (1 ∷ 6 ∷ []))

-- a file with a second mark table after it, of these bytes, which its total length counts
abbrev pub with_second : List ℕ → (marks : List ℕ) → List ℕ
with_second f marks = take 20 f ++ word16 (length f + length marks) ++ drop 22 f ++ marks

-- B with a second mark table, which marks nothing
abbrev pub file_bare : List ℕ
file_bare = with_second file_b (0 ∷ [])

-- A row of the table: a file, the call on it, the answer expected, and the list expected to be written, empty if none is.
pub record Row : Type 0 where
  pub file : List ℕ
  pub call : Call
  pub answer : Answer
  pub list : List ℕ

-- the tables lent: 8 answer entries and 6 × N working entries, filled with a number that is no state of an example, so
-- that it shows what is written
abbrev pub lent_answer : List ℕ
lent_answer = replicate 8 9

abbrev pub lent_work : List ℕ → List ℕ
lent_work f = replicate (6 * states f) 9

-- the row of a search that asks so
abbrev pub row_asking : List ℕ → Ask → Outcome Searched → List ℕ → Row
row_asking f ask o list =
    record { file = f; call = search ask lent_answer (lent_work f); answer = of_search o; list = list }

-- the row of a search of table 0 with a ceiling that is not refused
abbrev pub row_within : List ℕ → (ceiling allowance : ℕ) → Searched → List ℕ → Row
row_within f ceiling allowance s list = row_asking f (asking 0 ceiling allowance) (answered s) list

-- the row of a search of table 0 with the greatest ceiling
abbrev pub search_row : List ℕ → (allowance : ℕ) → Searched → List ℕ → Row
search_row f allowance s list = row_within f 4096 allowance s list

-- the row of a search that names a table, with the greatest ceiling
abbrev pub search_naming : List ℕ → (t allowance : ℕ) → Outcome Searched → List ℕ → Row
search_naming f t allowance o list = row_asking f (asking t 4096 allowance) o list

-- the row of a next that names a table, after an earlier list
abbrev pub next_naming : List ℕ → (t : ℕ) → List ℕ → Outcome Followed → List ℕ → Row
next_naming f t earlier o list =
    record { file = f; call = next t earlier lent_answer (lent_work f); answer = of_next o; list = list }

-- the row of a next of table 0 after an earlier list
abbrev pub next_row : List ℕ → List ℕ → Outcome Followed → List ℕ → Row
next_row f earlier o list = next_naming f 0 earlier o list

-- the row of a search that names table 2, lent so many working entries: refused with 22
abbrev pub table_two : List ℕ → (workRoom : ℕ) → Row
table_two f workRoom =
    record { file = f; call = search (asking 2 4096 65535) lent_answer (replicate workRoom 9); answer = of_search (refused 22); list = [] }

-- H's row for an allowance that suffices
abbrev pub row_h : ℕ → Row
row_h allowance = search_row file_h allowance (Searched.found 3 2 2) (0 ∷ 5 ∷ 6 ∷ 6 ∷ [])

-- the starred examples
abbrev pub examples : List Row
examples =
    -- A
    search_row file_a 65535 (none_within 1) [] ∷
    -- A with 1, and next after its list
    search_row file_a1 65535 (Searched.found 1 0 1) (0 ∷ 0 ∷ []) ∷
    next_row file_a1 (0 ∷ 0 ∷ []) (answered no_more) [] ∷
    -- B
    search_row file_b 65535 (Searched.found 1 0 1) (0 ∷ 0 ∷ []) ∷
    -- C
    search_row file_c 65535 (none_within 0) [] ∷
    -- D
    search_row file_d 65535 (Searched.found 3 1 1) (0 ∷ 1 ∷ 3 ∷ 1 ∷ []) ∷
    -- D2
    next_row file_d (0 ∷ 1 ∷ 3 ∷ 1 ∷ []) (answered (Followed.found 3 1)) (0 ∷ 2 ∷ 3 ∷ 2 ∷ []) ∷
    -- D3
    next_row file_d (0 ∷ 2 ∷ 3 ∷ 2 ∷ []) (answered no_more) [] ∷
    -- D4
    next_row file_d (0 ∷ 2 ∷ 3 ∷ 1 ∷ []) (refused 13) [] ∷
    -- E
    search_row file_e 65535 (none_within 1) [] ∷
    -- F
    search_row file_f 65535 (Searched.found 2 0 1) (0 ∷ 1 ∷ 0 ∷ []) ∷
    -- G
    search_row file_g 65535 (Searched.found 2 1 1) (0 ∷ 1 ∷ 1 ∷ []) ∷
    -- H
    row_h 2 ∷
    -- H1
    search_row file_h 1 (stopped (record { done = 1; best = some 5 })) [] ∷
    -- H0
    search_row file_h 0 (stopped (record { done = 0; best = none })) [] ∷
    -- H with ceilings 3 and 2
    row_within file_h 3 2 (Searched.found 3 2 2) (0 ∷ 5 ∷ 6 ∷ 6 ∷ []) ∷
    row_within file_h 2 2 (none_within 2) [] ∷
    -- H1 with ceiling 4
    row_within file_h 4 1 (stopped (record { done = 1; best = none })) [] ∷
    -- D with two tables: table 0 is D's
    search_naming file_two 0 65535 (answered (Searched.found 3 1 1)) (0 ∷ 1 ∷ 3 ∷ 1 ∷ []) ∷
    next_naming file_two 0 (0 ∷ 1 ∷ 3 ∷ 1 ∷ []) (answered (Followed.found 3 1)) (0 ∷ 2 ∷ 3 ∷ 2 ∷ []) ∷
    next_naming file_two 0 (0 ∷ 2 ∷ 3 ∷ 2 ∷ []) (answered no_more) [] ∷
    -- its table 1, which marks no state of the second list's loop
    search_naming file_two 1 65535 (answered (Searched.found 3 1 1)) (0 ∷ 1 ∷ 3 ∷ 1 ∷ []) ∷
    next_naming file_two 1 (0 ∷ 1 ∷ 3 ∷ 1 ∷ []) (answered no_more) [] ∷
    next_naming file_two 1 (0 ∷ 2 ∷ 3 ∷ 2 ∷ []) (refused 13) [] ∷
    -- B with two tables, by both: table 1 marks nothing
    search_naming file_bare 0 65535 (answered (Searched.found 1 0 1)) (0 ∷ 0 ∷ []) ∷
    search_naming file_bare 1 65535 (answered (none_within 0)) [] ∷
    -- a spare bit of the second table, by both; the totals with no table and with three
    search_naming (bytes_with 52 (24 ∷ 32 ∷ [])) 0 65535 (refused 11) [] ∷
    next_naming (bytes_with 52 (24 ∷ 32 ∷ [])) 1 (0 ∷ 1 ∷ 3 ∷ 1 ∷ []) (refused 11) [] ∷
    search_naming (bytes_with 50 []) 1 65535 (refused 6) [] ∷
    search_naming (bytes_with 53 (24 ∷ 2 ∷ 2 ∷ [])) 1 65535 (refused 6) [] ∷
    -- B and D with one table: table 1 holds no marks
    search_naming file_b 1 0 (answered (none_within 0)) [] ∷
    search_naming file_b 1 65535 (answered (none_within 0)) [] ∷
    next_naming file_d 1 (0 ∷ 1 ∷ 3 ∷ 1 ∷ []) (refused 13) [] ∷
    -- table 2: with D, with a working table that is too short, and with an empty file
    next_naming file_d 2 (0 ∷ 1 ∷ 3 ∷ 1 ∷ []) (refused 22) [] ∷
    table_two file_d 30 ∷
    table_two file_d 29 ∷
    table_two [] 3 ∷ []

-- what the finder does at a row's call
abbrev pub given : Row → Result
given r = finder_at r.file r.call

-- the working table after an answer: untouched after the refusals 1 to 12, else all zero
abbrev pub work_left : Answer → List ℕ → List ℕ
work_left (of_search (refused n)) w = pick (leb n 12) w (zeros w)
work_left (of_search (answered s)) w = zeros w
work_left (of_next (refused n)) w = pick (leb n 12) w (zeros w)
work_left (of_next (answered s)) w = zeros w

-- what is expected: the row's answer; its list from entry 0 of the answer table on, later entries as they were lent; and
-- the working table as is due after that answer
abbrev pub expected : Row → Result
expected r =
    record {
      answer = r.answer;
      table = r.list ++ replicate (8 - length r.list) 9;
      work = work_left r.answer (work_lent r.call);
    }

-- The examples hold: each row gives what is expected; H does with any allowance from 2 on; the file of D is the paper's; and
-- D with two tables is D with a second one after it.
pub record ExamplesHold : Type 0 where
  pub rows : map given examples ≡ map expected examples
  pub more_allowance : (allowance : ℕ) → 2 ≤ allowance → given (row_h allowance) ≡ expected (row_h allowance)
  pub bytes : file_d ≡ bytes_d
  pub two_tables : with_second file_d (2 ∷ []) ≡ file_two
