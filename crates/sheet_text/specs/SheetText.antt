-- The whole text of the sheet, and the answer table afterwards.
use Rattle.std.specs.Prelude.{ℕ, List, [], ◌∷◌, ◌++◌, length}
use Rattle.std.proofs.Math.Option.{Option, some, none}
use Rattle.lasso.specs.Graph.{edges}
use Rattle.lasso.specs.Roll.{roll}
use Rattle.lasso.specs.Rounds.{candidates}
use Rattle.numbers.specs.Limits.{highest_ceiling, all_rounds}
use Rattle.format.specs.Layout.{states, edge_count}
use Rattle.model.specs.Model.{graph_of}
use Rattle.format.specs.Rules.{first_broken}
use Rattle.gate.specs.Gate.{asking}
use Rattle.gate.specs.declared.Ask.{Ask}
use Rattle.outcomes.specs.Tables.{written, unless_refused}
use Rattle.search.specs.Search.{search_reasons}
use Rattle.text.specs.Figure.{figure}
use Rattle.sheet_lists.specs.RollText.{lists_text, last_printed}
use Rattle.sheet_head.specs.Words.{refused_word, none_line, shortest_word}
use Rattle.sheet_head.specs.Head.{head}

-- the lines after the rounds: `none`, or the length, the lists and the closing line
abbrev pub roll_text : List (List ℕ) → List ℕ
roll_text [] = none_line
roll_text (xs ∷ rest) =
    figure shortest_word (edges xs) ++ lists_text (xs ∷ rest)

-- the text for a file that is refused with a number, or is not refused, by the marks of table 0
abbrev pub text_of : Option ℕ → List ℕ → List ℕ
text_of none f = head (states f) (edge_count f) (length (candidates (graph_of f 0))) ++ roll_text (roll (graph_of f 0))
text_of (some n) f = figure refused_word n

-- what the sheet's search asks: mark table 0, ceiling 4,096, which no shortest accepting path is above, and allowance
-- 65,535; there are never more than 4,096 candidates
abbrev pub sheet_ask : Ask
sheet_ask = asking 0 highest_ceiling all_rounds

-- the reason to refuse, if there is one; the tables have so many entries
abbrev pub sheet_refusal : List ℕ → ℕ → ℕ → Option ℕ
sheet_refusal f answerRoom workRoom = first_broken (search_reasons f sheet_ask answerRoom workRoom)

-- the whole text of the sheet of a file
abbrev pub sheet_text : List ℕ → ℕ → ℕ → List ℕ
sheet_text f answerRoom workRoom = text_of (sheet_refusal f answerRoom workRoom) f

-- the answer table after a sheet: the last list printed, if any
abbrev pub sheet_answer : List ℕ → List ℕ → ℕ → List ℕ
sheet_answer f a workRoom =
    written (unless_refused (sheet_refusal f (length a) workRoom) (last_printed (roll (graph_of f 0)))) a
