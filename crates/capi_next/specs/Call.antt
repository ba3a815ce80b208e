-- What a next in C does: its report, and the answer table afterwards.
use Rattle.std.specs.Prelude.{ℕ, List, length}
use Rattle.next.specs.Next.{next_outcome, next_answer}
use Rattle.figures.specs.Kinds.{Report}
use Rattle.figures.specs.Short.{out_too_short, if_short}
use Rattle.answers.specs.Kinds.{next_report}

-- the report of next on a file by mark table t from an earlier list, lent the answer table, the working table and `out`
abbrev pub next_call : List ℕ → (t : ℕ) → (earlier a w out : List ℕ) → Report
next_call f t earlier a w out = if_short out out_too_short (next_report (next_outcome f t earlier (length a) (length w)))

-- the answer table after next: untouched if `out` is too short
abbrev pub answer_after_next : List ℕ → (t : ℕ) → (earlier a w out : List ℕ) → List ℕ
answer_after_next f t earlier a w out = if_short out a (next_answer f t earlier a (length w))
