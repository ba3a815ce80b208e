-- Laws of the calls that a script asks for: none if it is over, else one more; and the copy after a call.
use Prim.Native.Nat.{ℕ, zero, suc}
use mathlib.Core.Path.{◌≡◌, refl, ◌∙◌, ap}
use mathlib.Core.Bool.{Bool, true, false}
use mathlib.Core.List.{List, [], ◌∷◌}
use mathlib.Core.Option.{Option, some, none}
use native.Mathlib.Omega.{arith}
use borrow.Author.Tests.{eq-eqb, ne_eqb}
use lib.ListN.{take, drop}
use lib.Dec.{eqb}
use Rattle.lists.specs.Lists.{pick}
use Rattle.sequence.specs.Calls.{Call, Result, finder_at, found_length, copy_of, received}
use Rattle.script_commands.specs.Commands.{command_length, overb}
use Rattle.script.specs.Asked.{call_of}
use Rattle.script_call.specs.Log.{entries_of, Made}
use Rattle.script_player.specs.Played.{keep_copy, calls_of}

module _ (f s copy a w : List ℕ) where
  -- a script that is over asks for no calls
  pub calls_over : (room : ℕ) → overb s ≡ true → calls_of f room s copy a w ≡ []
  calls_over zero e = refl
  calls_over (suc room) e =
      let c : Call = call_of s copy a w in
      let r : Result = finder_at f c in
      let later : List Call = calls_of f room (drop (command_length s) s) (keep_copy (received r) copy) r.table r.work in
      ap (λ (b : Bool). pick b [] (c ∷ later)) e

  -- a script that is not, with room left, asks for one call and those of what is left of it
  pub calls_more : (room : ℕ) → overb s ≡ false
      → let c : Call = call_of s copy a w in
      let r : Result = finder_at f c in
      calls_of f (suc room) s copy a w ≡ c ∷ calls_of f room (drop (command_length s) s) (keep_copy (received r) copy) r.table r.work
  calls_more room e =
      let c : Call = call_of s copy a w in
      let r : Result = finder_at f c in
      let later : List Call = calls_of f room (drop (command_length s) s) (keep_copy (received r) copy) r.table r.work in
      ap (λ (b : Bool). pick b [] (c ∷ later)) e

-- the copy after a call, from the number of entries received
copy_kept : (o : Option ℕ) (t copy : List ℕ) (got : ℕ) → got ≡ entries_of o
    → pick (eqb got 0) copy (take got t) ≡ keep_copy (copy_of o t) copy
copy_kept none t copy got e = ap (λ (b : Bool). pick b copy (take got t)) (eq-eqb got 0 e)
copy_kept (some l) t copy got e =
    ap (λ (b : Bool). pick b copy (take got t)) (ne_eqb got 0 (λ z. omega arith)) ∙ ap (λ (n : ℕ). take n t) e

-- the copy after a call that is made
pub made_copy : {f : List ℕ} {c : Call} {place : ℕ} {log a' w' log' : List ℕ} {got : ℕ} (copy : List ℕ) → Made f c place log a' w' log' got
    → pick (eqb got 0) copy (take got a') ≡ keep_copy (received (finder_at f c)) copy
made_copy {f} {c} {got = got} copy m =
    ap (λ (t : List ℕ). pick (eqb got 0) copy (take got t)) m.answer
    ∙ copy_kept (found_length (finder_at f c).answer) (finder_at f c).table copy got m.entries
