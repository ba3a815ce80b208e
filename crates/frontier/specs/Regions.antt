-- The regions of the working table, and what an entry stands for.
use Rattle.std.specs.Prelude.{ℕ, zero, suc, ◌+◌, ◌*◌, ◌-◌, List, get_or}
use Rattle.std.proofs.Math.Option.{Option, some, none}

-- the entry for state s in region r, with n states
abbrev pub entry : ℕ → ℕ → List ℕ → ℕ → ℕ
entry r n w s = get_or w (r * n + s) 0

-- what an entry stands for: 0 for nothing, v + 1 for v
abbrev pub value_of : ℕ → Option ℕ
value_of zero = none
value_of (suc v) = some v

-- the entry that stands for a value, or for nothing
abbrev pub entry_of : Option ℕ → ℕ
entry_of none = 0
entry_of (some v) = suc v

-- the number of places of region 3 before a place of the table: the number of states in a queue that ends there
abbrev pub queued : ℕ → ℕ → ℕ
queued n place = place - 3 * n
