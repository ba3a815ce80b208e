-- The sheet where it has room and where it has none: what is written, and the tables afterwards.
use Rattle.std.specs.Prelude.{Bool, List, [], ℕ, ◌≤◌, length, ltb}
use Rattle.lists.specs.Lists.{pick}
use Rattle.numbers.specs.Limits.{sheet_room}
use Rattle.gate.specs.Gate.{work_of}
use Rattle.sheet_text.specs.SheetText.{sheet_text, sheet_answer}

-- the text t that is lent has less room than is asked
abbrev pub small_text : List ℕ → Bool
small_text t = ltb (length t) sheet_room

-- what is written to text t, where the tables a and w are lent: nothing if the text is too small
abbrev pub sheet_written : (f a w t : List ℕ) → List ℕ
sheet_written f a w t = pick (small_text t) [] (sheet_text f (length a) (length w))

-- the answer table a afterwards: untouched if the text is too small
abbrev pub sheet_answered : (f a w t : List ℕ) → List ℕ
sheet_answered f a w t = pick (small_text t) a (sheet_answer f a (length w))

-- the working table w afterwards: untouched if the text is too small
abbrev pub sheet_worked : (f w t : List ℕ) → List ℕ
sheet_worked f w t = pick (small_text t) w (work_of f 0 w)

-- no sheet is longer than the room that is asked for its text
abbrev pub SheetsFit : Type 0
SheetsFit = (f : List ℕ) (answerRoom workRoom : ℕ) → length (sheet_text f answerRoom workRoom) ≤ sheet_room
