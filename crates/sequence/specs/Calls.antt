-- The calls of a sequence, and what the finder does at each: by the definitions that its promises cite.
use Rattle.std.specs.Prelude.{ℕ, suc, List, length, take}
use Rattle.std.proofs.Math.Option.{Option, some, none}
use Rattle.outcomes.specs.Outcome.{Outcome, refused, answered}
use Rattle.search.specs.Search.{Searched, stopped, none_within, search_outcome, search_answer}
use Rattle.next.specs.Next.{Followed, no_more, next_outcome, next_answer}
use Rattle.gate.specs.declared.Ask.{Ask}
use Rattle.gate.specs.Gate.{work_of}

-- a search or a next, with everything given or lent with it: what a search asks, or the mark table that a next names and the
-- earlier list; the answer table and the working table
pub data Call : Type 0 where
  search : (ask : Ask) (answer work : List ℕ) → Call
  next : (table : ℕ) (earlier answer work : List ℕ) → Call

-- the mark table that a call names
abbrev pub table_named : Call → ℕ
table_named (search ask a w) = ask.table
table_named (next t earlier a w) = t

-- the answer of a search or of a next
pub data Answer : Type 0 where
  of_search : Outcome Searched → Answer
  of_next : Outcome Followed → Answer

-- what a call does: its answer, and the answer table and the working table afterwards
pub record Result : Type 0 where
  pub answer : Answer
  pub table : List ℕ
  pub work : List ℕ

-- the answer table that a call is lent
abbrev pub answer_lent : Call → List ℕ
answer_lent (search ask a w) = a
answer_lent (next t earlier a w) = a

-- the working table that a call is lent
abbrev pub work_lent : Call → List ℕ
work_lent (search ask a w) = w
work_lent (next t earlier a w) = w

-- what the finder does at a call on file f
abbrev pub finder_at : List ℕ → Call → Result
finder_at f (search ask a w) = record {
  answer = of_search (search_outcome f ask (length a) (length w));
  table = search_answer f ask a (length w);
  work = work_of f ask.table w;
}
finder_at f (next t earlier a w) = record {
  answer = of_next (next_outcome f t earlier (length a) (length w));
  table = next_answer f t earlier a (length w);
  work = work_of f t w;
}

-- the length of the list that an answer "found" brings
abbrev pub found_length : Answer → Option ℕ
found_length (of_search (refused n)) = none
found_length (of_search (answered (stopped r))) = none
found_length (of_search (answered (Searched.found l k rounds))) = some l
found_length (of_search (answered (none_within rounds))) = none
found_length (of_next (refused n)) = none
found_length (of_next (answered (Followed.found l k))) = some l
found_length (of_next (answered no_more)) = none

-- entries 0 to L of the answer table
abbrev pub copy_of : Option ℕ → List ℕ → Option (List ℕ)
copy_of none table = none
copy_of (some l) table = some (take (suc l) table)

-- the list that a call brings, as a copy of entries 0 to L, if it answered "found"
abbrev pub received : Result → Option (List ℕ)
received r = copy_of (found_length r.answer) r.table
