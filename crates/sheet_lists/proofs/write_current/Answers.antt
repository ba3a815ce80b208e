-- `write_current` meets its contract: the list is written to the answer table, and its line is read off there.
use Rattle.std.proofs.Common.{◌≡◌, ◌-◌, ◌∷◌, length, take, drop, ap, arith, length-take-le}
use Rattle.text.proofs.WroteLaws.{adds_as}
use Rattle.sheet_line.specs.Line.{stem_loop, line}
use Rattle.sheet_line.proofs.LineLaws.{line_read}
use Rattle.sheet_lists.proofs.write_current.Goals as goal
use Rattle.sheet_lists.proofs.write_current.Goals.{After-write_list-k}

-- the line read off the answer table is the list's
same_line : (c : After-write_list-k) → let a = c.args in let t = c.write_list-k.new.answer in
    stem_loop (take c.write_list-k.result t) (take (a.transitions.0 - c.write_list-k.result) (drop c.write_list-k.result t)) ≡ line (a.h.start ∷ take a.transitions.0 a.work.now)
same_line c =
    let a = c.args in
    let long : length (take a.transitions.0 a.work.now) ≡ a.transitions.0 = length-take-le a.transitions.0 a.work.now c.requires.transitions_in_bounds in
    line_read (a.h.start ∷ take a.transitions.0 a.work.now) _ _ c.write_list-k.result a.transitions.0 c.write_list-k.ensures.list
    c.write_list-k.ensures.start.0 (omega arith) c.write_list-k.ensures.start.1 (omega arith)

pub write_line-requires-clause-list_in_bounds : goal.write_line-requires-clause-list_in_bounds
write_line-requires-clause-list_in_bounds c =
    omega (arith, c.requires.transitions_in_bounds_3, ap length (same_line (goal.at.write_line-requires-clause-list_in_bounds c).After-write_list-k))

pub returns-clause-line : goal.returns-clause-line
returns-clause-line c = adds_as (same_line (goal.at.returns-clause-line c).After-write_list-k) c.write_line.ensures
