-- The sums of entries that a round starts its search from.
use Rattle.std.specs.Prelude.{ℕ, ◌+◌, ◌≤◌, ◌<◌, ◌≡◌, List}
use Rattle.lists.specs.Least.{sum}
use Rattle.frontier.specs.Regions.{entry, entry_of, value_of}

-- the sum of a state's entries in regions 0 and 2 fits an entry
abbrev pub SumsFit : ℕ → List ℕ → Type 0
SumsFit n w = (s : ℕ) → s < n → entry 0 n w s + entry 2 n w s ≤ 65536

-- region 2 has got, for the first s states, the sums of what regions 0 and 2 stood for: nothing if one of them stood for
-- nothing
abbrev pub SumsPut : ℕ → ℕ → List ℕ → List ℕ → Type 0
SumsPut n s w w' = (t : ℕ) → t < s → entry 2 n w' t ≡ entry_of (sum (value_of (entry 0 n w t)) (value_of (entry 2 n w t)))
