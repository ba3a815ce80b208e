-- The answers of search and next as numbers: a kind, and figures.
use Rattle.std.specs.Prelude.{[], ◌∷◌, Option}
use Rattle.outcomes.specs.Outcome.{Outcome, refused, answered}
use Rattle.search.specs.Search.{Searched, stopped, none_within, searched_of}
use Rattle.search.specs.declared.SearchAnswer.{SearchAnswer}
use Rattle.next.specs.Next.{Followed, no_more, followed_of}
use Rattle.next.specs.declared.NextList.{NextList}
use Rattle.figures.specs.Kinds.{Report, record_figures, refusal}

-- a search: 101 stopped, 102 found (L, k, rounds), 103 none within the ceiling (rounds)
abbrev pub search_report : Outcome Searched → Report
search_report (refused n) = refusal n
search_report (answered (stopped rec)) = record { kind = 101; figures = record_figures rec }
search_report (answered (Searched.found l k rounds)) = record { kind = 102; figures = l ∷ k ∷ rounds ∷ [] }
search_report (answered (none_within rounds)) = record { kind = 103; figures = rounds ∷ [] }

-- the same of what the code's search answers
abbrev pub report_of_searched : SearchAnswer → Report
report_of_searched answer = search_report (answered (searched_of answer))

-- next: 102 found (L, k), 104 no more
abbrev pub next_report : Outcome Followed → Report
next_report (refused n) = refusal n
next_report (answered (Followed.found l k)) = record { kind = 102; figures = l ∷ k ∷ [] }
next_report (answered no_more) = record { kind = 104; figures = [] }

-- the same of what the code's next answers
abbrev pub report_of_followed : Option NextList → Report
report_of_followed answer = next_report (answered (followed_of answer))
