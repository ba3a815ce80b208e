-- Laws of the call that a command asks for.
use Prim.Native.Nat.{ℕ, ◌+◌, ◌-◌, ◌≤◌}
use Rattle.std.proofs.Common.{Option, Some, None}
use Rattle.std.specs.Option.{unwrap_or}
use Rattle.script_commands.specs.declared.Action.{Action}
use mathlib.Core.Path.{◌≡◌, sym, ◌∙◌, ap}
use mathlib.Core.Bool.{Bool}
use mathlib.Core.List.{List}
use native.Mathlib.Omega.{arith}
use borrow.Author.Tests.{eq-eqb, ne_eqb}
use lib.ListN.{take, drop}
use Rattle.lists.specs.Lists.{pick}
use Rattle.gate.specs.declared.Ask.{Ask}
use Rattle.gate.specs.Gate.{asking}
use Rattle.sequence.specs.Calls.{Call, search, next}
use Rattle.script_call.specs.Log.{Made}
use Rattle.script_call.proofs.CallLaws.{made_as}
use Rattle.script_commands.specs.Commands.{action, mark_table, third, allowance, action_number, Named}
use Rattle.script.specs.Asked.{lent_list, call_of}

-- the action that a command of a script that is not over names
pub named : {n : ℕ} (o : Option Action) (a : Action) → Named n o → n ≤ 2 → action_number (unwrap_or o a) ≡ n
named None a unknown known = absurd (omega (arith, unknown, known))
named (Some b) a is known = is

module _ (s : List ℕ) where
  module _ (copy a w : List ℕ) where
    -- the search and the next that the command may ask for
    abbrev asked : Call
    asked = search (asking (mark_table s) (third s) (allowance s)) a w

    abbrev followed : List ℕ → Call
    followed earlier = next (mark_table s) earlier a w

    -- a search
    pub call_search : action s ≡ 0 → asked ≡ call_of s copy a w
    call_search e = sym (ap (λ (b : Bool). pick b asked (followed (lent_list s copy))) (eq-eqb (action s) 0 e))

    -- a next with the list that the command lends
    pub call_next : (action s ≡ 0 → ⊥) → followed (lent_list s copy) ≡ call_of s copy a w
    call_next d = sym (ap (λ (b : Bool). pick b asked (followed (lent_list s copy))) (ne_eqb (action s) 0 d))

    -- a next with the copy
    pub call_copy : (action s ≡ 0 → ⊥) → action s ≡ 1 → followed copy ≡ call_of s copy a w
    call_copy d e =
        sym (ap (λ (b : Bool). followed (pick b copy (take (third s) (drop 3 s)))) (eq-eqb (action s) 1 e)) ∙ call_next d

    -- a next with the entries after
    pub call_list : (action s ≡ 0 → ⊥) → (action s ≡ 1 → ⊥) → followed (take (third s) (drop 3 s)) ≡ call_of s copy a w
    call_list d d' =
        sym (ap (λ (b : Bool). followed (pick b copy (take (third s) (drop 3 s)))) (ne_eqb (action s) 1 d')) ∙ call_next d

-- the call that is made is the one that the first command asks for, whose numbers were read
module _ (s copy a w : List ℕ) {x t : ℕ} (at-action : x ≡ action s) (at_table : t ≡ mark_table s) where
  -- a next with the copy
  pub called_copy : (x ≡ 0 → ⊥) → x ≡ 1 → next t copy a w ≡ call_of s copy a w
  called_copy d e =
      ap (λ (n : ℕ). next n copy a w) at_table ∙ call_copy s copy a w (λ q. d (at-action ∙ q)) (sym at-action ∙ e)

  -- a next with the entries after
  pub called_list : {y : ℕ} → y ≡ third s → (x ≡ 0 → ⊥) → (x ≡ 1 → ⊥)
      → next t (take (3 + y - 3) (drop 3 s)) a w ≡ call_of s copy a w
  called_list {y} at-third d d' =
      let n : 3 + y - 3 ≡ third s = omega arith in
      (λ i. next (at_table i) (take (n i) (drop 3 s)) a w)
      ∙ call_list s copy a w (λ q. d (at-action ∙ q)) (λ q. d' (at-action ∙ q))

  -- a search that asks what was read
  pub made_search : {f : List ℕ} {ask : Ask} {place : ℕ} {log a' w' log' : List ℕ} {got : ℕ}
      → Made f (search ask a w) place log a' w' log' got
      → ask.table ≡ t → ask.ceiling.0 ≡ third s → ask.allowance ≡ allowance s
      → x ≡ 0 → Made f (call_of s copy a w) place log a' w' log' got
  made_search m named at-ceiling at-allowance e =
      made_as
      ((λ i. search (asking ((named ∙ at_table) i) (at-ceiling i) (at-allowance i)) a w)
      ∙ call_search s copy a w (sym at-action ∙ e))
      m
