-- Reason 22, the reasons 1 to 12, which every call applies to its file, reason 21, and the working table after a call.
use Rattle.std.specs.Prelude.{ℕ, ◌*◌, ◌≤◌, ◌≡◌, Bool, List, [], ◌∷◌, ◌++◌, length, replicate, leb, ltb}
use Rattle.std.proofs.Math.Option.{Option, some, none}
use Rattle.numbers.specs.Reasons as reason
use Rattle.lists.specs.Lists.{pick}
use Rattle.numbers.specs.Limits.{highest_ceiling}
use Rattle.format.specs.Layout.{states}
use Rattle.format.specs.Rules.{Reason, first_broken, rules}
use Rattle.model.specs.Values.{header_of, answer_of, Valid}
use Rattle.gate.specs.declared.Ask.{Ask}
use Rattle.model.specs.declared.Header.{Header}
use Rattle.model.specs.Values.{Checked}
use Rattle.model.specs.Values.{Refused, Accept}

-- what a search asks that names this mark table, this ceiling and this allowance
abbrev pub asking : (table ceiling allowance : ℕ) → Ask
asking table ceiling allowance = record { table = table; ceiling = record { 0 = ceiling }; allowance = allowance }

-- 12. the working table has fewer than 6 × N entries
abbrev pub small_table : List ℕ → ℕ → Bool
small_table f workRoom = ltb workRoom (6 * states f)

-- the reasons 1 to 12
abbrev pub common_rules : List ℕ → ℕ → List Reason
common_rules f workRoom = rules f ++ record { number = reason.small_table; holds = small_table f workRoom } ∷ []

-- 22. the mark table named is neither 0 nor 1
abbrev pub no_table : ℕ → Bool
no_table t = ltb 1 t

-- the reasons 22 and 1 to 12, which a call that names a mark table applies
abbrev pub named_rules : List ℕ → (t workRoom : ℕ) → List Reason
named_rules f t workRoom = record { number = reason.no_table; holds = no_table t } ∷ common_rules f workRoom

-- 21. the ceiling is above 4,096
abbrev pub high_ceiling : ℕ → Bool
high_ceiling ceiling = ltb highest_ceiling ceiling

-- the reason 21, which a call that takes a ceiling applies after 12
abbrev pub ceiling_reason : ℕ → Reason
ceiling_reason ceiling = record { number = reason.high_ceiling; holds = high_ceiling ceiling }

-- the gate's answer: refused with the number of the first of 22 and 1 to 12 that holds, or accepted with the header, which
-- names the mark table
abbrev pub gate_of : List ℕ → (t workRoom : ℕ) → Checked
gate_of f t workRoom = answer_of (first_broken (named_rules f t workRoom)) (header_of f t)

-- as many zeros as the table has entries
abbrev pub zeros : List ℕ → List ℕ
zeros w = replicate (length w) 0

-- the working table after the gate: all zero after 22, else as it was
abbrev pub work_entered : (t : ℕ) → List ℕ → List ℕ
work_entered t w = pick (no_table t) (zeros w) w

-- the working table afterwards, by the first of 22 and 1 to 12 that holds: untouched after 1 to 12, else all zero, however
-- long it is
abbrev pub work_after : Option ℕ → List ℕ → List ℕ
work_after none w = zeros w
work_after (some n) w = pick (leb n reason.small_table) w (zeros w)

-- the working table after a call that names mark table t; a call that names none is as one that names 0
abbrev pub work_of : List ℕ → (t : ℕ) → List ℕ → List ℕ
work_of f t w = work_after (first_broken (named_rules f t (length w))) w

-- every entry of the table has become zero, and there are as many as before
pub record Zeroed (w w' : List ℕ) : Type 0 where
  pub all_zero : w' ≡ zeros w

-- a call that none of 22 and 1 to 12 refuses: an accepted file with its own header, which names the mark table, and room
-- for the six regions
pub record GatePassed (f : List ℕ) (t workRoom : ℕ) (h : Header) : Type 0 where
  pub valid : Valid f h
  pub named : h.table ≡ t
  pub room : 6 * h.states ≤ workRoom
  pub clear : first_broken (named_rules f t workRoom) ≡ none

-- what each answer of the gate says
abbrev pub GateSays : List ℕ → (t workRoom : ℕ) → Checked → Type 0
GateSays f t workRoom (Refused n) = first_broken (named_rules f t workRoom) ≡ some n
GateSays f t workRoom (Accept h) = GatePassed f t workRoom h
