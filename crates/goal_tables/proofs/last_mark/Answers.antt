use Prim.Native.Nat.{ℕ}
use native.Mathlib.Omega.{arith}
use mathlib.Core.Path.{◌≡◌, sym, ◌∙◌, ap, subst}
use mathlib.Core.Logic.{inl, inr}
use Rattle.lists.proofs.Tests.{lt_or_ge}
use Rattle.model.specs.Model.{graph_in}
use Rattle.goal_tables.proofs.last_mark.Invariants.{Marked}
use Rattle.goal_tables.proofs.last_mark.Goals as goal

pub loop-k-preserved : goal.loop-k-preserved
loop-k-preserved c = λ r low high m.
    elim (lt_or_ge c.loop-k.k r) [
      | inl past ↦ c.loop-k.invariant r (omega arith) high m
      | inr here ↦
          let a = c.args in
          let e : r ≡ c.loop-k.k = omega arith in
          let told = c.is_marked.ensures ∙ ap (λ (x : ℕ). (graph_in a.file.now a.h).marked x) c.list_at-s.ensures in
          absurd (rw (sym told ∙ c.if-is_marked.false) at (subst (Marked a.file.now a.h a.work.now) e m))
    ]
