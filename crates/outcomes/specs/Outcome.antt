-- The answer of a call.
use Rattle.std.specs.Prelude.{ℕ, ◌≡◌, Result, Ok, Err}
use Rattle.std.proofs.Math.Option.{Option, some, none}
use Rattle.numbers.specs.declared.reason.Reason.{Reason}
use Rattle.numbers.specs.Numbered.{number_of}

-- The answer of a call: refused with a number, or what the call found.
pub data Outcome (A : Type 0) : Type 0 where
  refused : ℕ → Outcome A
  answered : A → Outcome A

-- refused with the first reason that holds, or the answer
abbrev pub outcome : {A : Type 0} → Option ℕ → A → Outcome A
outcome none a = answered a
outcome (some n) a = refused n

-- which outcome the result of a call is: refused with the number of its reason, or what its answer stands for
abbrev pub outcome_of : {A B : Type 0} → (A → B) → Result A Reason → Outcome B
outcome_of value (Err reason) = refused (number_of reason)
outcome_of value (Ok a) = answered (value a)

-- A translation of the code's answers loses nothing: answers with the same outcome are the same.
abbrev pub LosesNothing : {A B : Type 0} → (A → B) → Type 0
LosesNothing {A} f = (a b : A) → f a ≡ f b → a ≡ b
