-- Reading an answer of the code back from its figures: a translation from which it can be read off loses nothing.
use Prim.Native.Nat.{ℕ}
use mathlib.Core.Path.{◌≡◌, refl, sym, ◌∙◌, ap}
use mathlib.Core.Option.{Option, some, none}
use native.Mathlib.Omega.{arith}
use Rattle.std.specs.Prelude as std
use Rattle.std.specs.Prelude.{Ok, Err}
use lib.Dec.{eqb}
use Rattle.lists.specs.Lists.{pick}
use Rattle.numbers.specs.declared.reason.Reason.{Reason}
use Rattle.numbers.specs.declared.reason.Reason.TheVariants.{ShortFile, BadStates, BadEdges, BadStart, BadStays, BadOffsets, BadLength, BadRows, BadTargets, BadOrder, BadSpare, SmallTable, NotShortest, TooLong, NoRoom, BadLetters, BadProperty, TooLarge, HighCeiling, NoTable}
use Rattle.numbers.specs.Numbered.{number_of}
use Rattle.lasso.specs.Rounds.{Record}
use Rattle.lasso.specs.Values.{length_of, record_of}
use Rattle.lasso.specs.declared.Transitions.{Transitions}
use Rattle.lasso.specs.declared.RoundRecord.{RoundRecord}
use Rattle.outcomes.specs.Outcome.{outcome_of, LosesNothing}

-- the count of transitions with a given number
abbrev pub transitions : ℕ → Transitions
transitions n = record { 0 = n }

-- the length with a given value, if there is one
abbrev read_length : Option ℕ → std.Option Transitions
read_length none = std.None
read_length (some l) = std.Some (transitions l)

-- the round record with given figures
abbrev pub read_record : Record → RoundRecord
read_record r = record { done = r.done; best = read_length r.best }

-- the length is read off its value
read_length_length_of : (b : std.Option Transitions) → read_length (length_of b) ≡ b
read_length_length_of std.None = refl
read_length_length_of (std.Some l) = refl

-- the round record is read off its figures
pub read_record_record_of : (r : RoundRecord) → read_record (record_of r) ≡ r
read_record_record_of r = λ i. record { done = r.done; best = read_length_length_of r.best i }

-- a translation from which its answer can be read off loses nothing
pub loses_nothing : {A B : Type 0} (f : A → B) (read : B → A) → ((a : A) → read (f a) ≡ a) → LosesNothing f
loses_nothing f read back a b e = sym (back a) ∙ ap read e ∙ back b

-- a count of transitions loses nothing in its number
pub transitions_lose_nothing : LosesNothing (λ (l : Transitions). l.0)
transitions_lose_nothing = loses_nothing (λ (l : Transitions). l.0) transitions (λ l. refl)

-- the reason with a given number; any, if there is none
abbrev read_reason : ℕ → Reason
read_reason n =
    pick (eqb n 1) ShortFile
    (pick (eqb n 2) BadStates
    (pick (eqb n 3) BadEdges
    (pick (eqb n 4) BadStart
    (pick (eqb n 5) BadStays
    (pick (eqb n 6) BadOffsets
    (pick (eqb n 7) BadLength
    (pick (eqb n 8) BadRows
    (pick (eqb n 9) BadTargets
    (pick (eqb n 10) BadOrder
    (pick (eqb n 11) BadSpare
    (pick (eqb n 12) SmallTable
    (pick (eqb n 13) NotShortest
    (pick (eqb n 14) TooLong
    (pick (eqb n 15) NoRoom
    (pick (eqb n 16) BadLetters
    (pick (eqb n 17) BadProperty
    (pick (eqb n 18) TooLarge
    (pick (eqb n 21) HighCeiling
    (NoTable)))))))))))))))))))

-- a reason is read off its number
read_reason_number_of : (r : Reason) → read_reason (number_of r) ≡ r
read_reason_number_of ShortFile = refl
read_reason_number_of BadStates = refl
read_reason_number_of BadEdges = refl
read_reason_number_of BadStart = refl
read_reason_number_of BadStays = refl
read_reason_number_of BadOffsets = refl
read_reason_number_of BadLength = refl
read_reason_number_of BadRows = refl
read_reason_number_of BadTargets = refl
read_reason_number_of BadOrder = refl
read_reason_number_of BadSpare = refl
read_reason_number_of SmallTable = refl
read_reason_number_of NotShortest = refl
read_reason_number_of TooLong = refl
read_reason_number_of NoRoom = refl
read_reason_number_of BadLetters = refl
read_reason_number_of BadProperty = refl
read_reason_number_of TooLarge = refl
read_reason_number_of HighCeiling = refl
read_reason_number_of NoTable = refl

-- a call's result loses nothing in its outcome if its answer loses nothing in what it stands for
pub result_loses_nothing : {A B : Type 0} (value : A → B) → LosesNothing value → LosesNothing (outcome_of value)
result_loses_nothing value back (Err r) (Err s) e =
    let same : number_of r ≡ number_of s = cc in ap Err (loses_nothing number_of read_reason read_reason_number_of r s same)
result_loses_nothing value back (Ok a) (Ok b) e = let same : value a ≡ value b = cc in ap Ok (back a b same)
result_loses_nothing value back (Err r) (Ok b) e = let z : ◌≡◌ {A = ℕ} 0 1 = cc in absurd (omega arith)
result_loses_nothing value back (Ok a) (Err s) e = let z : ◌≡◌ {A = ℕ} 0 1 = cc in absurd (omega arith)
