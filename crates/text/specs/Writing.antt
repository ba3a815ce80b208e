-- What a writer does to a text.
use Rattle.std.specs.Prelude.{ℕ, ◌+◌, ◌≤◌, ◌≡◌, List, ◌++◌, length, take, drop}
use Rattle.text.specs.declared.Output.{Output}

-- n counts bytes at the front of a text. The second part follows from the first: both are said so that a caller may take
-- the part up to n without a proof.
abbrev pub Within : ℕ → List ℕ → Type 0
Within n t = (n ≤ length t) × (n ≡ length (take n t))

-- the bytes have room in text t from place `at` on, t' is t with them there, and `next` is the place after them
pub record Wrote (t : List ℕ) (at : ℕ) (bytes t' : List ℕ) (next : ℕ) : Type 0 where
  pub room : at + length bytes ≤ length t
  pub text : t' ≡ take at t ++ bytes ++ drop (at + length bytes) t
  pub place : next ≡ at + length bytes

-- so many bytes have room from the next place on
abbrev pub HasRoom : Output → ℕ → Type 0
HasRoom o n = o.at + n ≤ length o.bytes.now

-- the second output is the first with the bytes written: its text is still the same one, not another that is lent
pub record Adds (o : Output) (bytes : List ℕ) (o' : Output) : Type 0 where
  pub wrote : Wrote o.bytes.now o.at bytes o'.bytes.now o'.at
  pub same : o'.bytes.ghost_name ≡ o.bytes.ghost_name
