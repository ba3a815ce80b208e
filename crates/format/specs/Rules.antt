-- The numbered reasons to refuse a file, 1 to 11, in checking order.
use Rattle.std.specs.Prelude.{ℕ, ◌+◌, ◌*◌, ◌-◌, ◌≡◌, Bool, ◌||◌, not, List, [], ◌∷◌, ◌++◌, length, eqb, ltb}
use Rattle.std.proofs.Math.Option.{Option, none}
use Rattle.numbers.specs.Reasons as reason
use Rattle.numbers.specs.Limits.{most_states, most_edges}
use Rattle.lists.specs.Lists.{anyb, up_from, below, some_if, ascendingb}
use Rattle.format.specs.Bytes.{long}
use Rattle.format.specs.Layout.{states, edge_count, start_of, stays_word, rows_at, edges_at, marks_at, mark_bytes, total_of, row_entry, target, row_targets, mark_bit}

-- a reason to refuse: its number, and whether it holds
pub record Reason : Type 0 where
  pub number : ℕ
  pub holds : Bool

-- the number of the first reason that holds, if one does
abbrev pub first_broken : List Reason → Option ℕ
first_broken [] = none
first_broken (r ∷ rs) = some_if r.holds r.number (first_broken rs)

-- 1. the file has fewer than 24 bytes
abbrev pub short_file : List ℕ → Bool
short_file f = ltb (length f) 24

-- 2. N is 0 or above 4,096
abbrev pub bad_states : List ℕ → Bool
bad_states f = eqb (states f) 0 || ltb most_states (states f)

-- 3. M is above 8,192
abbrev pub bad_edges : List ℕ → Bool
bad_edges f = ltb most_edges (edge_count f)

-- 4. the initial state is not below N
abbrev pub bad_start : List ℕ → Bool
bad_start f = not (ltb (start_of f) (states f))

-- 5. bytes 6–7 are above 1
abbrev pub bad_stays : List ℕ → Bool
bad_stays f = ltb 1 (stays_word f)

-- the total length is one that a kind of file may have: `total` with one mark table, and one table's size more with each
-- further one, up to `tables`
abbrev pub total_fits : (total tables : ℕ) → List ℕ → Bool
total_fits total tables f = anyb (λ t. eqb (long f 20) (total + t * mark_bytes (states f))) (below tables)

-- 6. an offset differs from the one that N and M give, or the total length is none of those of this kind of file
abbrev pub bad_offsets : (total tables : ℕ) → List ℕ → Bool
bad_offsets total tables f =
    not (eqb (long f 8) rows_at) ||
    (not (eqb (long f 12) (edges_at (states f))) ||
    (not (eqb (long f 16) (marks_at (states f) (edge_count f))) ||
    not (total_fits total tables f)))

-- 7. the file's own length differs from the total length
abbrev pub bad_length : List ℕ → Bool
bad_length f = not (eqb (length f) (long f 20))

-- 8. the first row entry is not 0, an entry is less than the one before, or the last is not M
abbrev pub bad_rows : List ℕ → Bool
bad_rows f =
    not (eqb (row_entry f 0) 0) ||
    (anyb (λ s. ltb (row_entry f (s + 1)) (row_entry f s)) (below (states f)) ||
    not (eqb (row_entry f (states f)) (edge_count f)))

-- 9. a target is not below N
abbrev pub bad_targets : List ℕ → Bool
bad_targets f = anyb (λ e. not (ltb (target f e) (states f))) (below (edge_count f))

-- 10. the targets in some row are not strictly ascending
abbrev pub bad_order : List ℕ → Bool
bad_order f = anyb (λ s. not (ascendingb (row_targets f s))) (below (states f))

-- a spare bit of mark table t is set
abbrev pub spare_set : List ℕ → (t : ℕ) → Bool
spare_set f t = anyb (mark_bit f t) (up_from (states f) (8 * mark_bytes (states f) - states f))

-- 11. a spare bit of the marks is set, in one of the tables that this kind of file may have
abbrev pub bad_spare : (tables : ℕ) → List ℕ → Bool
bad_spare tables f = anyb (spare_set f) (below tables)

-- the reasons 1 to 5, about the header's first fields, which are the same for every kind of file
abbrev pub head_rules : List ℕ → List Reason
head_rules f =
    record { number = reason.short_file; holds = short_file f } ∷
    record { number = reason.bad_states; holds = bad_states f } ∷
    record { number = reason.bad_edges; holds = bad_edges f } ∷
    record { number = reason.bad_start; holds = bad_start f } ∷
    record { number = reason.bad_stays; holds = bad_stays f } ∷ []

-- the table of reasons for a kind of file, by its total length with one mark table and the most mark tables that it may have
abbrev pub rules_with : (total tables : ℕ) → List ℕ → List Reason
rules_with total tables f =
    head_rules f ++
    record { number = reason.bad_offsets; holds = bad_offsets total tables f } ∷
    record { number = reason.bad_length; holds = bad_length f } ∷
    record { number = reason.bad_rows; holds = bad_rows f } ∷
    record { number = reason.bad_targets; holds = bad_targets f } ∷
    record { number = reason.bad_order; holds = bad_order f } ∷
    record { number = reason.bad_spare; holds = bad_spare tables f } ∷ []

-- the table of reasons that every call applies to its file: the total length is the one that N and M give with one mark
-- table or with two
abbrev pub rules : List ℕ → List Reason
rules f = rules_with (total_of (states f) (edge_count f)) 2 f

-- an accepted file: one that breaks none of 1 to 11
abbrev pub Accepted : List ℕ → Type 0
Accepted f = first_broken (rules f) ≡ none
