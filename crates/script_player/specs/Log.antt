-- The log and the tables after a sequence of calls.
use Rattle.std.specs.Prelude.{ℕ, ◌*◌, ◌/◌, ◌≡◌, List, [], ◌∷◌, ◌++◌, length, drop, T}
use Rattle.std.proofs.Math.Option.{none}
use Rattle.lists.specs.Lists.{collect}
use Rattle.format.specs.Rules.{Accepted}
use Rattle.sequence.specs.Calls.{Result}
use Rattle.sequence.specs.Book.{book_results}
use Rattle.sequence.specs.Claim.{Proper}
use Rattle.script_call.specs.Log.{call_row}
use Rattle.script_player.specs.Played.{played, results, copiesb}

-- the numbers of some calls, four for each, one after another
abbrev pub rows : List Result → List ℕ
rows rs = collect call_row rs

-- the log after some calls: their numbers from entry 0 on; later entries do not change
abbrev pub log_after_all : List ℕ → List Result → List ℕ
log_after_all log rs = rows rs ++ drop (4 * length rs) log

-- the answer table after some calls
abbrev pub answer_after_all : List ℕ → List Result → List ℕ
answer_after_all a [] = a
answer_after_all a (r ∷ rs) = answer_after_all r.table rs

-- the working table after some calls
abbrev pub work_after_all : List ℕ → List Result → List ℕ
work_after_all w [] = w
work_after_all w (r ∷ rs) = work_after_all r.work rs

-- condition 3 of the calls that are played: if the file is accepted, the calls all name the same mark table, save those that
-- 22 refuses, and each next among them is lent the copy last received or a list that is no shortest accepting path, the log
-- is the book's
abbrev pub BookPlayed : (f script a w log log' : List ℕ) → Type 0
BookPlayed f script a w log log' =
    Accepted f → (t : ℕ) → Proper f t none (played f script a w log)
    → log' ≡ log_after_all log (book_results f 0 (played f script a w log))

-- condition 3 of the scripts whose commands name one mark table and lend no list of their own, save those that 22 refuses: if
-- the file is accepted, what the finder does at each call that is played is the book's
abbrev pub CopiesPlayed : Type 0
CopiesPlayed =
    (f : List ℕ) (t : ℕ) (script a w log : List ℕ) → Accepted f → T (copiesb t (length log / 4) script)
    → results f script a w log ≡ book_results f 0 (played f script a w log)
