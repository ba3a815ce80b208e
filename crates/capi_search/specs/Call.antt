-- What a search in C does: its report, and the answer table afterwards.
use Rattle.std.specs.Prelude.{ℕ, List, length}
use Rattle.gate.specs.declared.Ask.{Ask}
use Rattle.search.specs.Search.{search_outcome, search_answer}
use Rattle.figures.specs.Kinds.{Report}
use Rattle.figures.specs.Short.{out_too_short, if_short}
use Rattle.answers.specs.Kinds.{search_report}

-- the report of a search on a file, lent the answer table, the working table and `out`
abbrev pub search_call : List ℕ → Ask → (a w out : List ℕ) → Report
search_call f ask a w out = if_short out out_too_short (search_report (search_outcome f ask (length a) (length w)))

-- the answer table after a search: untouched if `out` is too short
abbrev pub answer_after_search : List ℕ → Ask → (a w out : List ℕ) → List ℕ
answer_after_search f ask a w out = if_short out a (search_answer f ask a (length w))
