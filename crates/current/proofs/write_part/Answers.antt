use Prim.Native.Nat.{ℕ}
use mathlib.Core.List.{List, ◌∷◌}
use native.Mathlib.Omega.{arith}
use Rattle.current.proofs.CurrentLaws.{front_store}
use Rattle.current.proofs.write_part.Goals as goal

pub loop-i-preserved : goal.loop-i-preserved
loop-i-preserved c =
    let a = c.args in
    let xs : List ℕ = a.h.start ∷ a.work.now in
    front_store xs a.part.now _ a.from c.loop-i.i _ c.loop-i.invariant c.list_at.ensures (omega arith) (omega arith)
