-- Laws of commands: when the script is over, and what is known of a command that is there.
use Prim.Native.Nat.{ℕ, ◌+◌, ◌-◌, ◌≤◌}
use mathlib.Core.Path.{◌≡◌, refl, sym, ◌∙◌, ap}
use mathlib.Core.Bool.{Bool, true, false}
use mathlib.Core.List.{List}
use Rattle.std.specs.Prelude.{Some, None}
use native.Mathlib.Omega.{arith}
use borrow.Author.Tests.{ltb-false, ne_eqb}
use lib.ListN.{length, take, drop, length-drop}
use lib.Seq.{take_all}
use lib.Dec.{eqb, ltb}
use Rattle.lists.proofs.Fails.{or_false}
use Rattle.lists.specs.Lists.{pick}
use Rattle.script_commands.specs.Commands.{action, third, behind, command_length, overb, size_of}

-- what stands after a next with a list: the count and the entries
behind_list : (x y : ℕ) → (x ≡ 0 → ⊥) → (x ≡ 1 → ⊥) → y + 1 ≡ behind x y
behind_list x y d d' =
    sym (ap (λ (b : Bool). pick b 0 (y + 1)) (ne_eqb x 1 d'))
    ∙ sym (ap (λ (b : Bool). pick b 2 (pick (eqb x 1) 0 (y + 1))) (ne_eqb x 0 d))

-- what a test decides, known from the size that is told
decided : (b : Bool) (n : ℕ) → (pick b None (Some n) ≡ None → b ≡ true) × ((m : ℕ) → pick b None (Some n) ≡ Some m → (b ≡ false) × (m ≡ n))
decided true n = (λ e. refl, λ m e. (cc))
decided false n = (λ e. (cc), λ m e. (refl, (cc)))

module _ (s : List ℕ) where
  -- no size: the script is over
  pub size_over : size_of s ≡ None → overb s ≡ true
  size_over = (decided (overb s) (command_length s)).0

  -- a size: it is not, and that is the command's
  pub size_goes_on : (size : ℕ) → size_of s ≡ Some size → (overb s ≡ false) × (size ≡ command_length s)
  size_goes_on = (decided (overb s) (command_length s)).1

  -- a script that is not over: its first command is there, and its action is known
  module _ (e : overb s ≡ false) where
    pub command_there : command_length s ≤ length s
    command_there = ltb-false (length s) (command_length s) (or_false (ltb (length s) (command_length s)) (ltb 2 (action s)) e).0

    pub action_known : action s ≤ 2
    action_known = ltb-false 2 (action s) (or_false (ltb (length s) (command_length s)) (ltb 2 (action s)) e).1

    -- the list is there, if that is what it asks for
    pub list_there : (action s ≡ 0 → ⊥) → (action s ≡ 1 → ⊥) → 3 + third s ≤ length s
    list_there d d' = omega (arith, command_there, behind_list (action s) (third s) d d')

-- what is left of a script from a place on
pub rest_of : (s : List ℕ) (at : ℕ) → at ≤ length s → take (length s - at) (drop at s) ≡ drop at s
rest_of s at fits = take_all (length s - at) (drop at s) (rw length-drop (omega arith))
