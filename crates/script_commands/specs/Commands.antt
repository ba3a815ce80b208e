-- The commands of a script of numbers. Each command begins with two numbers, what to do
-- and the mark table that the call names: 0, a search, with a ceiling and an allowance after them; 1, a next with the copy
-- last received, which is the empty list at first; 2, a next with a list of its own, with a count and so many entries
-- after them.
use Rattle.std.specs.Prelude.{ℕ, ◌+◌, ◌<◌, ◌≡◌, Bool, ◌||◌, List, length, get_or, eqb, ltb, Option, Some, None, MatchOption}
use Rattle.lists.specs.Lists.{pick}
use Rattle.script_commands.specs.declared.Action.{Action}
use Rattle.script_commands.specs.declared.Action.TheVariants.{Search, NextOfCopy, NextOfList}

-- what the first command asks for
abbrev pub action : List ℕ → ℕ
action script = get_or script 0 0

-- the number that names each action of the code
abbrev pub action_number : Action → ℕ
action_number Search = 0
action_number NextOfCopy = 1
action_number NextOfList = 2

-- what is told of a number: the action that it names, or that it names none
abbrev pub Named : ℕ → Option Action → Type 0
Named n o = MatchOption o (2 < n) (λ a. action_number a ≡ n)

-- the mark table that its call names
abbrev pub mark_table : List ℕ → ℕ
mark_table script = get_or script 1 0

-- its third number, if it has one: the ceiling of a search, or the count of a list's entries
abbrev pub third : List ℕ → ℕ
third script = get_or script 2 0

-- how many numbers stand after the first two: two for a search, none for a next with the copy, else the count and as many as
-- it says
abbrev pub behind : (action third : ℕ) → ℕ
behind action third = pick (eqb action 0) 2 (pick (eqb action 1) 0 (third + 1))

-- how many numbers it has
abbrev pub command_length : List ℕ → ℕ
command_length script = 2 + behind (action script) (third script)

-- the script is over: at its end, where a command is cut off, and at an unknown action
abbrev pub overb : List ℕ → Bool
overb script = ltb (length script) (command_length script) || ltb 2 (action script)

-- how many numbers the command has that is to be played, none if the script is over
abbrev pub size_of : List ℕ → Option ℕ
size_of script = pick (overb script) None (Some (command_length script))

-- the allowance of a search
abbrev pub allowance : List ℕ → ℕ
allowance script = get_or script 3 0
