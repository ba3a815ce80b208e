use Prim.Native.Nat.{ℕ, ◌+◌, ◌*◌, ◌<◌}
use mathlib.Core.Path.{◌≡◌, sym, ap, subst, ◌∙◌}
use native.Mathlib.Omega.{arith}
use lib.ListN.{length, get_or}
use Rattle.format.specs.Bytes.{word, words, bitb}
use Rattle.format.proofs.Words.{words-length, words_at}
use Rattle.combine_row.proofs.BlockLaws.{held_room, wrote_held, wrote_passed, wrote_block}
use Rattle.combine_row.proofs.write_block.Goals as goal
use Rattle.combine_row.proofs.write_block.Goals.{After-mask_holds, After-word, In-loop-k, then-mask_holds, else-mask_holds}

-- the place of a turn lies within the masks and within the targets
within : (c : In-loop-k) →
    let a = c.args in
    let k = c.loop-k.k in
    (k < length (words a.masks.now)) × (k < length (words a.targets.now))
within c =
    let start = c in
    let a = start.args in
    omega (arith, words-length a.targets.now, start.requires.masks_len, c.loop-k-test.true)

-- the word that a turn looks at is the mask at place k
looked : (c : After-word) →
    let at_loop = c in
    let a = at_loop.args in
    c.word.result ≡ word a.masks.now (2 * at_loop.loop-k.k)
looked c =
    let a = c.args in
    subst (λ (n : ℕ). c.word.result ≡ word a.masks.now n) (omega arith) c.word.ensures.0

-- the test of a turn is that of the mask at place k
turn : (c : After-mask_holds) →
    let at_loop = c in
    let a = at_loop.args in
    bitb (get_or (words a.masks.now) at_loop.loop-k.k 0) a.letter ≡ c.mask_holds.result
turn c =
    let at_loop = c in
    let a = at_loop.args in
    ap (λ m. bitb m a.letter) (words_at a.masks.now at_loop.loop-k.k (within (goal.at.After-mask_holds c).In-loop-k).0 ∙ sym (looked (goal.at.After-mask_holds c).After-word))
    ∙ sym c.mask_holds.ensures

-- the number of a turn is base plus the target at place k, and fits
number : (c : After-mask_holds) (r : ℕ) →
    let a = c.args in
    let t = get_or (words a.targets.now) c.loop-k.k 0 in
    r ≡ word a.targets.now (2 * c.loop-k.k) → (r ≡ t) × (a.base + t < 65536)
number c r e =
    let less = (within (goal.at.After-mask_holds c).In-loop-k).1 in
    (e ∙ sym (words_at c.args.targets.now c.loop-k.k less), c.requires.targets_fit c.loop-k.k less)

pub word-requires : goal.word-requires
word-requires c = omega (arith, words-length c.args.masks.now, (within c).0)

pub overflow_add-base : goal.overflow_add-base
overflow_add-base c = omega (arith, number (goal.at.overflow_add-base c).After-mask_holds c.word-then-mask_holds.result c.word-then-mask_holds.ensures.0)

pub write_word-requires : goal.write_word-requires
write_word-requires c =
    let at_loop = c in
    let start = at_loop in
    let a = start.args in
    let inside = within (goal.at.write_word-requires c).In-loop-k in
    let held = turn (goal.at.write_word-requires c).After-mask_holds ∙ c.if-mask_holds.true in record {
      at_in_bounds = held_room a.letter a.base (words a.masks.now) (words a.targets.now) at_loop.loop-k.k inside.0 inside.1 held start.requires.targets_in_bounds at_loop.loop-k.invariant.wrote;
      x_bound = omega (arith, number (goal.at.write_word-requires c).After-mask_holds c.word-then-mask_holds.result c.word-then-mask_holds.ensures.0);
    }

pub loop-k-preserved : goal.loop-k-preserved
loop-k-preserved c =
    let at_loop = c in
    let a = at_loop.args in
    let ms = words a.masks.now in
    let ts = words a.targets.now in
    let k = at_loop.loop-k.k in
    let inside = within (goal.at.loop-k-preserved c).In-loop-k in
    let so_far = at_loop.loop-k.invariant in
    let at = (goal.at.loop-k-preserved c).After-mask_holds in
    elim c.if-mask_holds.branch [
      | then-mask_holds w ↦
          let x = a.base + w.word-then-mask_holds.result in
          let e = ap (λ t. a.base + t) (number at w.word-then-mask_holds.result w.word-then-mask_holds.ensures.0).0 in
          let written = wrote_held a.letter a.base ms ts k x inside.0 inside.1 (turn at ∙ w.if-mask_holds.true) e so_far.wrote w.write_word.ensures.wrote in
          rw w.out-is (record { wrote = written; same = w.write_word.ensures.same ∙ so_far.same })
      | else-mask_holds w ↦
          let passed = wrote_passed a.letter a.base ms ts k inside.0 inside.1 (turn at ∙ w.if-mask_holds.false) so_far.wrote in
          rw w.out-is (record { wrote = passed; same = so_far.same })
    ]

pub returns : goal.returns
returns c =
    let start = c in
    let a = start.args in
    let ms = words a.masks.now in
    let ts = words a.targets.now in
    let w = c.loop-k.invariant in record {
      wrote = wrote_block a.letter a.base ms ts c.loop-k.k (omega (arith, words-length a.targets.now, start.requires.masks_len, c.loop-k-test.false)) (omega (arith, words-length a.targets.now, c.loop-k-test.false)) w.wrote;
      same = w.same;
    }
