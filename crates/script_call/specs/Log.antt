-- The log of one call: four numbers, the kind of its answer or the number of its refusal, and the figures, 0 where there is
-- none.
use Rattle.std.specs.Prelude.{ℕ, suc, ◌+◌, ◌≤◌, ◌≡◌, List, [], ◌∷◌, ◌++◌, length, take, drop}
use Rattle.std.proofs.Math.Option.{Option, some, none}
use Rattle.numbers.specs.Limits.{answer_entries}
use Rattle.figures.specs.Kinds.{Report, figures_in}
use Rattle.answers.specs.Kinds.{search_report, next_report}
use Rattle.sequence.specs.Calls.{Call, Answer, of_search, of_next, Result, finder_at, found_length}

-- the kind and the figures of an answer
abbrev pub report_of : Answer → Report
report_of (of_search o) = search_report o
report_of (of_next o) = next_report o

-- the four numbers of a report
abbrev pub report_row : Report → List ℕ
report_row r = r.kind ∷ figures_in (0 ∷ 0 ∷ 0 ∷ []) r

-- the four numbers of a call
abbrev pub call_row : Result → List ℕ
call_row r = report_row (report_of r.answer)

-- the entries of the list that an answer brings: one more than its length, 0 if it brings none
abbrev pub entries_of : Option ℕ → ℕ
entries_of none = 0
entries_of (some l) = suc l

-- What one call is to leave behind: both tables as the finder leaves them, its four numbers in the log at a place, and the
-- number of entries received, which the answer table and a copy of 4,097 entries hold.
pub record Made (f : List ℕ) (c : Call) (place : ℕ) (log a' w' log' : List ℕ) (got : ℕ) : Type 0 where
  pub answer : a' ≡ (finder_at f c).table
  pub work : w' ≡ (finder_at f c).work
  pub log_row : log' ≡ take place log ++ call_row (finder_at f c) ++ drop (place + 4) log
  pub entries : got ≡ entries_of (found_length (finder_at f c).answer)
  pub in_answer : got ≤ length a'
  pub in_copy : got ≤ answer_entries
