-- What clearing and copying do to a table, entry by entry.
use Rattle.std.specs.Prelude.{ℕ, ◌+◌, ◌≤◌, ◌<◌, ◌≡◌, List, length, get_or}

-- every entry before `from`, and every entry from `to` on, is as before
pub record SameOutside (from to : ℕ) (w w' : List ℕ) : Type 0 where
  pub same_length : length w' ≡ length w
  pub same_before : (i : ℕ) → i < from → get_or w' i 0 ≡ get_or w i 0
  pub same_after : (i : ℕ) → to ≤ i → get_or w' i 0 ≡ get_or w i 0

-- the entries from `from` up to `to` are zero, the others as before
pub record Cleared (from to : ℕ) (w w' : List ℕ) : Type 0 where
  pub others : SameOutside from to w w'
  pub zeros : (i : ℕ) → from ≤ i → i < to → get_or w' i 0 ≡ 0

-- the n entries at `to` are those at `from`, the others as before
pub record Copied (from to n : ℕ) (w w' : List ℕ) : Type 0 where
  pub others : SameOutside to (to + n) w w'
  pub copies : (i : ℕ) → i < n → get_or w' (to + i) 0 ≡ get_or w (from + i) 0
