-- `play_one` meets its contract: the call that is made is the one that the first command asks for.
use Rattle.std.proofs.Common.{refl, ap, ◌∙◌, ◌≡◌, arith}
use Rattle.script_commands.specs.Commands.{action_number}
use Rattle.script_commands.specs.declared.Action.TheVariants.{NextOfList}
use Rattle.script_commands.proofs.CommandLaws.{action_known}
use Rattle.script.proofs.AskedLaws.{called_copy, called_list, made_search, named}
use Rattle.script_call.proofs.CallLaws.{made_as}
use Rattle.script.proofs.play_one.Goals as goal
use Rattle.script.proofs.play_one.Goals.{After-unwrap_or-action}

-- the action is the one that the command names
its_action : (c : After-unwrap_or-action) → action_number c.unwrap_or-action.result ≡ c.number_at.result
its_action c =
    let known = action_known c.args.script.now c.requires.script_value in
    ap action_number c.unwrap_or-action.ensures ∙ named c.of.result NextOfList c.of.ensures (omega (arith, known, c.number_at.ensures))

pub returns-in-Search : goal.returns-in-Search
returns-in-Search c =
    let a = c.args in
    let e = rw c.in-Search.is at (its_action (goal.at.returns-in-Search c).After-unwrap_or-action) in
    made_search a.script.now a.copy.now a.answer.now a.work.now c.number_at.ensures
    c.number_at-mark_table.ensures c.play_search.ensures refl c.number_at-third.ensures
    c.number_at-allowance.ensures (omega (arith, e))

pub returns-in-NextOfCopy : goal.returns-in-NextOfCopy
returns-in-NextOfCopy c =
    let a = c.args in
    let e = rw c.in-NextOfCopy.is at (its_action (goal.at.returns-in-NextOfCopy c).After-unwrap_or-action) in
    made_as
    (called_copy a.script.now a.copy.now a.answer.now a.work.now c.number_at.ensures
    c.number_at-mark_table.ensures (λ z. omega (arith, e, z)) (omega (arith, e)))
    c.play_next.ensures

pub returns-in-NextOfList : goal.returns-in-NextOfList
returns-in-NextOfList c =
    let a = c.args in
    let e = rw c.in-NextOfList.is at (its_action (goal.at.returns-in-NextOfList c).After-unwrap_or-action) in
    made_as
    (called_list a.script.now a.copy.now a.answer.now a.work.now c.number_at.ensures
    c.number_at-mark_table.ensures c.number_at-third.ensures (λ z. omega (arith, e, z)) (λ z. omega (arith, e, z)))
    c.play_next-in-NextOfList.ensures
