-- The calls that a script asks for, one after another, and the copy that is kept between them.
use Rattle.std.specs.Prelude.{ℕ, zero, suc, ◌/◌, Bool, true, not, ◌&&◌, ◌||◌, List, [], ◌∷◌, map, length, drop, eqb}
use Rattle.std.proofs.Math.Option.{Option, some, none}
use Rattle.lists.specs.Lists.{pick}
use Rattle.gate.specs.Gate.{no_table}
use Rattle.sequence.specs.Calls.{Call, Result, finder_at, received}
use Rattle.script_commands.specs.Commands.{action, mark_table, command_length, overb}
use Rattle.script.specs.Asked.{call_of}

-- the copy afterwards: the list that a call brings, else the copy before
abbrev pub keep_copy : Option (List ℕ) → List ℕ → List ℕ
keep_copy none copy = copy
keep_copy (some xs) copy = xs

-- the calls of a script on file f, as many as there is room to log: each is lent the tables as the call before left them
abbrev pub calls_of : List ℕ → ℕ → (script copy a w : List ℕ) → List Call
calls_of f zero script copy a w = []
calls_of f (suc room) script copy a w =
    let c : Call = call_of script copy a w in
    let r : Result = finder_at f c in
    let later : List Call =
    calls_of f room (drop (command_length script) script) (keep_copy (received r) copy) r.table r.work in
    pick (overb script) [] (c ∷ later)

-- the calls that are played: as many as the log has room for, with 4 entries for each
abbrev pub played : (f script a w log : List ℕ) → List Call
played f script a w log = calls_of f (length log / 4) script [] a w

-- what the finder does at each of them
abbrev pub results : (f script a w log : List ℕ) → List Result
results f script a w log = map (finder_at f) (played f script a w log)

-- the first command names mark table t and lends no list of its own, or 22 refuses its call
abbrev pub copyb : (t : ℕ) → List ℕ → Bool
copyb t script = (eqb (mark_table script) t && not (eqb (action script) 2)) || no_table (mark_table script)

-- so do all commands that are played
abbrev pub copiesb : (t : ℕ) → ℕ → List ℕ → Bool
copiesb t zero script = true
copiesb t (suc room) script =
    let later : Bool = copiesb t room (drop (command_length script) script) in
    pick (overb script) true (copyb t script && later)
