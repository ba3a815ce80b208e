-- The number of each reason to refuse a call, under the name of the reason.
use Rattle.std.specs.Prelude.{ℕ}

-- the file has fewer bytes than its header
abbrev pub short_file : ℕ
short_file = 1

-- the file has no state, or too many
abbrev pub bad_states : ℕ
bad_states = 2

-- the file has too many edges
abbrev pub bad_edges : ℕ
bad_edges = 3

-- the initial state is not one of the states
abbrev pub bad_start : ℕ
bad_start = 4

-- the word that says whether a state without edges stays is neither 0 nor 1
abbrev pub bad_stays : ℕ
bad_stays = 5

-- an offset or the total length is not as the header gives it
abbrev pub bad_offsets : ℕ
bad_offsets = 6

-- the file is not as long as it says
abbrev pub bad_length : ℕ
bad_length = 7

-- the row entries do not ascend from 0 to the number of edges
abbrev pub bad_rows : ℕ
bad_rows = 8

-- a target is not one of the states
abbrev pub bad_targets : ℕ
bad_targets = 9

-- the targets of a row do not ascend
abbrev pub bad_order : ℕ
bad_order = 10

-- a spare bit of the marks is set
abbrev pub bad_spare : ℕ
bad_spare = 11

-- the working table is too small
abbrev pub small_table : ℕ
small_table = 12

-- the earlier list is not one of the shortest accepting paths
abbrev pub not_shortest : ℕ
not_shortest = 13

-- the shortest accepting paths are too long
abbrev pub too_long : ℕ
too_long = 14

-- the table or the output is too short for what is to be written
abbrev pub no_room : ℕ
no_room = 15

-- the letter table does not give each state of the rule a letter
abbrev pub bad_letters : ℕ
bad_letters = 16

-- the property file is refused
abbrev pub bad_property : ℕ
bad_property = 17

-- the combined model has too many states or edges
abbrev pub too_large : ℕ
too_large = 18

-- the ceiling is too high
abbrev pub high_ceiling : ℕ
high_ceiling = 21

-- there is no mark table with the number that is named
abbrev pub no_table : ℕ
no_table = 22
