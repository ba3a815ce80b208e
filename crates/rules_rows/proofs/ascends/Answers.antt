use native.Mathlib.Omega.{arith}
use Prim.Native.Nat.{◌+◌, ◌-◌}
use mathlib.Core.Path.{◌≡◌, sym, ◌∙◌}
use Rattle.format.specs.Bytes.{words}
use Rattle.format.proofs.Words.{words-length, ascending_end, part_rises, part_falls}
use Rattle.rules_rows.proofs.ascends.Goals as goal

pub returns-then-word : goal.returns-then-word
returns-then-word c =
    let k = c.loop-k.k in
    sym (c.loop-k.invariant ∙ part_falls c.args.part.now k (omega arith) (omega arith) (omega arith))

pub loop-k-preserved : goal.loop-k-preserved
loop-k-preserved c =
    let k = c.loop-k.k in
    let e : k + 1 - 1 ≡ k = omega arith in
    c.loop-k.invariant ∙ rw e (part_rises c.args.part.now k (omega arith) (omega arith) (omega arith))

pub returns : goal.returns
returns c =
    let part = c.args.part.now in
    sym (c.loop-k.invariant ∙ ascending_end (words part) (c.loop-k.k - 1) (omega (arith, words-length part)))
