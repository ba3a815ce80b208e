use Prim.Native.Nat.{ℕ}
use mathlib.Core.Path.{sym, ◌∙◌, ap}
use native.Mathlib.Omega.{arith}
use lib.ListN.{get_or}
use Rattle.grade_accepts.proofs.FlagLaws.{flags_repeat, flags_end}
use Rattle.grade_accepts.proofs.all_different.Goals as goal

pub returns-then-get-ne0-clause-tells : goal.returns-then-get-ne0-clause-tells
returns-then-get-ne0-clause-tells c =
    sym (flags_repeat c.loop-state.invariant.flags (omega arith) (λ e. c.if-get-ne0.true (c.get.ensures.value ∙ ap (λ (s : ℕ). get_or c.loop-state.work s 0) c.from-s.ensures ∙ e)))

pub returns-clause-tells : goal.returns-clause-tells
returns-clause-tells c = sym (flags_end c.loop-state.invariant.flags (omega arith))
