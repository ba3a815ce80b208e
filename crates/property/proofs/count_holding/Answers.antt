use native.Mathlib.Omega.{arith}
use Prim.Native.Nat.{ℕ, ◌+◌, ◌≤◌, ◌<◌}
use mathlib.Core.Path.{◌≡◌, sym, ap, ◌∙◌}
use mathlib.Core.Bool.{Bool}
use mathlib.Core.List.{List}
use lib.ListN.{length, get_or, drop_of_length-le}
use Rattle.lists.specs.Lists.{keep, pick}
use Rattle.format.specs.Bytes.{words, bitb}
use Rattle.format.proofs.Words.{words-length, words_at}
use Rattle.lists.proofs.KeepLaws.{keep_from}
use Rattle.property.proofs.count_holding.Invariants.{holding_from}
use Rattle.property.proofs.count_holding.Goals as goal
use Rattle.property.proofs.count_holding.Goals.{then-mask_holds, else-mask_holds, After-mask_holds}

-- the test of a turn is that of the mask at place k, and tells how many are left behind it
turn : (c : After-mask_holds) →
    let at = c in
    let a = at.args in
    holding_from a.masks.now a.letter at.loop-k.k ≡ pick c.mask_holds.result 1 0 + holding_from a.masks.now a.letter (at.loop-k.k + 1)
turn c =
    let at = c in
    let a = at.args in
    let masks = a.masks.now in
    let k = at.loop-k.k in
    let less : k < length (words masks) = omega (arith, words-length masks, c.loop-k-test.true) in
    let same : bitb (get_or (words masks) k 0) a.letter ≡ c.mask_holds.result =
    ap (λ (m : ℕ). bitb m a.letter) (words_at masks k less ∙ sym c.word.ensures.0) ∙ sym c.mask_holds.ensures in
    keep_from (λ (m : ℕ). bitb m a.letter) (words masks) k less
    ∙ ap (λ (b : Bool). pick b 1 0 + holding_from masks a.letter (k + 1)) same

pub loop-k-preserved : goal.loop-k-preserved
loop-k-preserved c =
    let told = turn (goal.at.loop-k-preserved c).After-mask_holds in
    elim c.if-mask_holds.branch [
      | then-mask_holds w ↦ let one = rw w.if-mask_holds.true at told in (omega arith, omega arith, omega (arith, one))
      | else-mask_holds w ↦ let none = rw w.if-mask_holds.false at told in (omega arith, omega arith, omega (arith, none))
    ]

pub returns : goal.returns
returns c =
    let at = c in
    let a = at.args in
    let masks = a.masks.now in
    let past : length (words masks) ≤ at.loop-k.k = omega (arith, words-length masks, c.loop-k-test.false) in
    let nothing : holding_from masks a.letter at.loop-k.k ≡ 0 =
    ap (λ (ws : List ℕ). length (keep (λ (m : ℕ). bitb m a.letter) ws)) (drop_of_length-le (words masks) {i = at.loop-k.k} past) in
    omega (arith, nothing, at.loop-k.invariant.2)
