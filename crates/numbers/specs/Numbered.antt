-- The number of each reason as the code names it.
use Rattle.std.specs.Prelude.{ℕ}
use Rattle.numbers.specs.Reasons as reason
use Rattle.numbers.specs.declared.reason.Reason.{Reason}
use Rattle.numbers.specs.declared.reason.Reason.TheVariants.{ShortFile, BadStates, BadEdges, BadStart, BadStays, BadOffsets, BadLength, BadRows, BadTargets, BadOrder, BadSpare, SmallTable, NotShortest, TooLong, NoRoom, BadLetters, BadProperty, TooLarge, HighCeiling, NoTable}

-- the number of a reason
abbrev pub number_of : Reason → ℕ
number_of ShortFile = reason.short_file
number_of BadStates = reason.bad_states
number_of BadEdges = reason.bad_edges
number_of BadStart = reason.bad_start
number_of BadStays = reason.bad_stays
number_of BadOffsets = reason.bad_offsets
number_of BadLength = reason.bad_length
number_of BadRows = reason.bad_rows
number_of BadTargets = reason.bad_targets
number_of BadOrder = reason.bad_order
number_of BadSpare = reason.bad_spare
number_of SmallTable = reason.small_table
number_of NotShortest = reason.not_shortest
number_of TooLong = reason.too_long
number_of NoRoom = reason.no_room
number_of BadLetters = reason.bad_letters
number_of BadProperty = reason.bad_property
number_of TooLarge = reason.too_large
number_of HighCeiling = reason.high_ceiling
number_of NoTable = reason.no_table
