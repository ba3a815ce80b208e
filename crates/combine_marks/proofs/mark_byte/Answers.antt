use Prim.Native.Nat.{ℕ, ◌+◌, ◌*◌, ◌%◌, ◌^◌, ◌≤◌}
use mathlib.Core.Path.{◌≡◌, sym, ap, ap₂, ◌∙◌}
use mathlib.Core.Bool.{Bool}
use native.Mathlib.Omega.{arith}
use native.Mathlib.Numerals.{add-one}
use native.Mathlib.Nat.{pow-le-pow_right}
use Rattle.lists.specs.Lists.{pick}
use Rattle.writer.specs.File.{worth}
use Rattle.writer.proofs.FileLaws.{worth-below}
use Rattle.combine_marks.proofs.mark_byte.Invariants.{set_at}
use Rattle.combine_marks.proofs.mark_byte.Goals as goal
use Rattle.combine_marks.proofs.mark_byte.Goals.{then-pair_mark, else-pair_mark, At-loop-j}

-- a weight is at most 256, and what the shift gives
weight : (j : ℕ) → j ≤ 8 → (2 ^ j ≤ 256) × (1 * 2 ^ j % 18446744073709551616 ≡ 2 ^ j)
weight j l =
    let most : 2 ^ j ≤ 2 ^ 8 = pow-le-pow_right (omega arith) l in
    (omega arith, omega arith)

-- one bit more
one_more : (set : ℕ → Bool) (j x : ℕ) (b : Bool) → x ≡ worth set j → b ≡ set j → x + pick b (2 ^ j) 0 ≡ worth set (j + 1)
one_more set j x b ex eb = ap₂ ◌+◌ ex (ap (λ (c : Bool). pick c (2 ^ j) 0) eb) ∙ ap (worth set) (sym (add-one j))

pub overflow_add-byte : goal.overflow_add-byte
overflow_add-byte c =
    let a = c.args in
    omega (arith, weight c.loop-j.j c.loop-j.auto.j-end, c.loop-j.invariant, worth-below (set_at a.property.now a.states a.b) c.loop-j.j)

pub loop-j-preserved : goal.loop-j-preserved
loop-j-preserved c =
    let a = c.args in
    let j = c.loop-j.j in
    let grown = one_more (set_at a.property.now a.states a.b) j c.loop-j.byte c.pair_mark.result c.loop-j.invariant c.pair_mark.ensures in
    elim c.if-pair_mark.branch [
      | then-pair_mark w ↦ w.byte-is ∙ ap (λ (x : ℕ). c.loop-j.byte + x) (weight j c.loop-j.auto.j-end).1 ∙ (rw w.if-pair_mark.true at grown)
      | else-pair_mark w ↦ let kept = rw w.if-pair_mark.false at grown in omega (arith, w.byte-is, kept)
    ]

pub returns : goal.returns
returns c =
    let a = c.args in
    let set : ℕ → Bool = set_at a.property.now a.states a.b in
    let all : c.loop-j.j ≡ 8 = omega arith in
    let same = c.loop-j.invariant ∙ ap (worth set) all in
    (same, omega (arith, worth-below set 8, same))
