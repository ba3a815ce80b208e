-- What a turn of the loop of `read_input` reads stands after what was read before it.
use Rattle.std.proofs.Common.{◌≡◌, ℕ, ◌+◌, ◌-◌, ◌≤◌, List, ◌++◌, rules, length, take, sym, ap, ◌∙◌, subst, length-take-le}
use Rattle.std.proofs.Math.Seq.{take-append-add, take-append-le}
use Rattle.std.specs.Io.KnownBytes.{Consumes}
use Rattle.std.proofs.KnownBytes.{Consumes-trans}
use borrow.Rule.Slice.PartMut.{put_mid, post_of}
use Rattle.reading.proofs.read_input.Goals as goal

-- the first bytes of a list with a new middle part: those before it, then the first ones of the part
middle : (a k n : ℕ) (xs ys : List ℕ) → a ≤ length xs → n ≤ length ys → take (a + n) (put_mid a k xs ys) ≡ take a xs ++ take n ys
middle a k n xs ys within fits =
    ap (λ m. take (m + n) (put_mid a k xs ys)) (sym (length-take-le a xs within))
    ∙ take-append-add (take a xs) (ys ++ post_of a k xs) n
    ∙ ap (λ l. take a xs ++ l) (take-append-le n ys (post_of a k xs) fits)

pub loop-count-preserved : goal.loop-count-preserved
loop-count-preserved g c =
    let at = c.loop-count.count in
    let room = length c.loop-count.buffer - at in
    let part = c.read_once-reading.new.buffer in
    let n = c.read_once-reading.result.count in
    let front : take (at + n) (put_mid at room c.loop-count.buffer part) ≡ take at c.loop-count.buffer ++ take n part =
    middle at room n c.loop-count.buffer part c.loop-count.invariant.0 c.read_once-reading.ensures.within.0 in
    (search rules, search rules, subst (Consumes _ _) (sym front) (Consumes-trans _ _ _ _ _ c.loop-count.invariant.2 c.read_once-reading.ensures.bytes))
