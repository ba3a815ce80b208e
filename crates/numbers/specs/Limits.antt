-- The limits of files, calls and programs.
use Rattle.std.specs.Prelude.{ℕ, suc, ◌*◌}

-- the most states of a model
abbrev pub most_states : ℕ
most_states = 4096

-- the most edges of a model
abbrev pub most_edges : ℕ
most_edges = 8192

-- the highest ceiling that a call may be given
abbrev pub highest_ceiling : ℕ
highest_ceiling = 4096

-- the edges of the longest accepting path that is ever written
abbrev pub longest_path : ℕ
longest_path = 4096

-- an allowance that no search uses up: no model has as many candidates
abbrev pub all_rounds : ℕ
all_rounds = 65535

-- the entry of a state that has no distance up to the ceiling
abbrev pub not_reached : ℕ
not_reached = 65535

-- the highest letter that a state of a rule can have
abbrev pub highest_letter : ℕ
highest_letter = 15

-- the bytes of the longest model file: 4,096 states, 8,192 edges, two mark tables
abbrev pub longest_file : ℕ
longest_file = 25626

-- one more than the longest model file has
abbrev pub file_bytes : ℕ
file_bytes = suc longest_file

-- one more than the longest letter table has
abbrev pub letters_bytes : ℕ
letters_bytes = suc most_states

-- one more than the longest property file has
abbrev pub property_bytes : ℕ
property_bytes = 41499

-- the bytes of a combined model file: no model file with one mark table has more
abbrev pub output_bytes : ℕ
output_bytes = 25114

-- the entries of an answer table that every accepting path fits into
abbrev pub answer_entries : ℕ
answer_entries = suc longest_path

-- the entries of a working table that is large enough for every file
abbrev pub work_entries : ℕ
work_entries = 6 * most_states

-- the most lists that a desk sheet prints
abbrev pub most_lists : ℕ
most_lists = 20

-- the bytes that the lists and the closing line may take of a desk sheet
abbrev pub lists_room : ℕ
lists_room = 409748

-- the bytes that are asked for a desk sheet: none is longer
abbrev pub sheet_room : ℕ
sheet_room = 410000
