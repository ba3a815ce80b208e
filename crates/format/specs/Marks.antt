-- What the reasons say of a file's mark tables: statements, each proved for every file, accepted or not.
use Rattle.std.specs.Prelude.{ℕ, ◌+◌, ◌*◌, ◌≤◌, ◌<◌, ◌≡◌, ◌↔◌, ◌⊎◌, Bool, false, List, [], ◌∷◌, length, eqb}
use Rattle.lists.specs.Lists.{pick}
use Rattle.numbers.specs.Reasons as reason
use Rattle.format.specs.Bytes.{long}
use Rattle.format.specs.Layout.{states, edge_count, rows_at, edges_at, marks_at, mark_bytes, total_of, mark_bit}
use Rattle.format.specs.Rules.{Reason, rules}

-- the reason with number n in a table of reasons holds
abbrev pub holds_in : List Reason → (n : ℕ) → Bool
holds_in [] n = false
holds_in (r ∷ rs) n = pick (eqb r.number n) r.holds (holds_in rs n)

-- the total length is the one that N and M give with one mark table, or the one with two
abbrev pub OneOrTwoTables : List ℕ → Type 0
OneOrTwoTables f =
    let one = total_of (states f) (edge_count f) in
    (long f 20 ≡ one) ⊎ (long f 20 ≡ one + mark_bytes (states f))

-- Reason 6 allows the total with one mark table or with two, and no other; the offsets are those that N and M give.
abbrev pub OneOrTwoTotals : Type 0
OneOrTwoTotals = (f : List ℕ) → (holds_in (rules f) reason.bad_offsets ≡ false) ↔
    ((long f 8 ≡ rows_at) × (long f 12 ≡ edges_at (states f)) × (long f 16 ≡ marks_at (states f) (edge_count f)) × OneOrTwoTables f)

-- Reason 11 covers both tables: it fails to hold exactly if every spare bit of both is zero.
abbrev pub SpareOfBothTables : Type 0
SpareOfBothTables = (f : List ℕ) → (holds_in (rules f) reason.bad_spare ≡ false) ↔
    ((t : ℕ) → t ≤ 1 → (s : ℕ) → states f ≤ s → s < 8 * mark_bytes (states f) → mark_bit f t s ≡ false)

-- In a file with one table, table 1 holds no marks.
abbrev pub OneTableNoMarks : Type 0
OneTableNoMarks = (f : List ℕ) → length f ≡ total_of (states f) (edge_count f) → (s : ℕ) → mark_bit f 1 s ≡ false
