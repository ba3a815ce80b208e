-- What the values of the code stand for: the header of a file, and the answer of its check.
use Rattle.std.specs.Prelude.{ℕ, ◌≤◌, ◌≡◌, List, Result, Ok, Err}
use Rattle.std.proofs.Math.Option.{Option, some, none}
use Rattle.numbers.specs.declared.reason.Reason.{Reason}
use Rattle.numbers.specs.Numbered.{number_of}
use Rattle.model.specs.declared.Header.{Header}
use Rattle.format.specs.Layout.{states, edge_count, start_of, stays}
use Rattle.format.specs.Rules.{first_broken, head_rules, rules_with, rules, Accepted}

-- the header fields that the code keeps, and the mark table that is named
abbrev pub header_of : List ℕ → (t : ℕ) → Header
header_of f t = record { states = states f; edges = edge_count f; start = start_of f; stays = stays f; table = t }

-- the same header, but for the mark table that it names
abbrev pub naming : Header → (t : ℕ) → Header
naming h t = record { states = h.states; edges = h.edges; start = h.start; stays = h.stays; table = t }

-- The answer of a check: refused with the number of a reason, or accepted with a header.
pub data Checked : Type 0 where
  Refused : ℕ → Checked
  Accept : Header → Checked

-- which answer each result of the code's check is
abbrev pub checked_of : Result Header Reason → Checked
checked_of (Err reason) = Refused (number_of reason)
checked_of (Ok h) = Accept h

-- refused with the number of the first reason that holds, or accepted with a header
abbrev pub answer_of : Option ℕ → Header → Checked
answer_of none h = Accept h
answer_of (some n) h = Refused n

-- the answer of the check by the rules 1 to 5 alone; the header names mark table 0
abbrev pub head_of : List ℕ → Checked
head_of f = answer_of (first_broken (head_rules f)) (header_of f 0)

-- the answer of the check of a file of a kind, by its total length with one mark table and the most mark tables that it may
-- have
abbrev pub check_with : (total tables : ℕ) → List ℕ → Checked
check_with total tables f = answer_of (first_broken (rules_with total tables f)) (header_of f 0)

-- the answer of the check of a model file
abbrev pub check_of : List ℕ → Checked
check_of f = answer_of (first_broken (rules f)) (header_of f 0)

-- what the layers above ask of a file and a header: the file is accepted, and the header is its own and names mark table 0
-- or 1
pub record Valid (f : List ℕ) (h : Header) : Type 0 where
  pub accepted : Accepted f
  pub header : h ≡ header_of f h.table
  pub table_limit : h.table ≤ 1
