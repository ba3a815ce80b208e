-- The call that a command of a script asks for.
use Rattle.std.specs.Prelude.{ℕ, List, take, drop, eqb}
use Rattle.lists.specs.Lists.{pick}
use Rattle.gate.specs.Gate.{asking}
use Rattle.sequence.specs.Calls.{Call, search, next}
use Rattle.script_commands.specs.Commands.{action, mark_table, third, allowance}

-- the list that the first command lends to a next: the copy last received, or the entries after it
abbrev pub lent_list : (script copy : List ℕ) → List ℕ
lent_list script copy = pick (eqb (action script) 1) copy (take (third script) (drop 3 script))

-- the call that the first command asks for, lent the tables
abbrev pub call_of : (script copy a w : List ℕ) → Call
call_of script copy a w =
    pick (eqb (action script) 0) (search (asking (mark_table script) (third script) (allowance script)) a w)
    (next (mark_table script) (lent_list script copy) a w)
