-- The room that the line of a list takes.
use Prim.Native.Nat.{ℕ, ◌+◌, ◌*◌, ◌≤◌, ◌<◌}
use mathlib.Core.List.{List, [], ◌∷◌, ◌++◌}
use native.Mathlib.Omega.{arith}
use lib.ListN.{length, take, length-append, length-take, length-drop}
use Rattle.lists.proofs.Sorted.{all_take, all_drop, all_weaker, All}
use Rattle.lasso.specs.Graph.{stem, loop, edges, loop_start}
use Rattle.text.specs.Characters.{space}
use Rattle.text.specs.Decimal.{decimal}
use Rattle.text.proofs.DecimalLaws.{decimal_four}
use Rattle.lists.proofs.CollectLaws.{collect-length_le}
use Rattle.sheet_line.specs.Line.{space_after, space_before, line}
use Rattle.sheet_line.proofs.LineLaws.{stem_loop-length}

-- states of at most four digits
abbrev pub Small : ℕ → Type 0
Small s = s < 10000

-- each state of a stem takes at most five bytes
after_room : (ss : List ℕ) → All Small ss → length (space_after ss) ≤ length ss * 5
after_room ss a =
    collect-length_le (λ s. decimal s ++ space ∷ []) 5 ss
    (all_weaker Small (λ s. length (decimal s ++ space ∷ []) ≤ 5) ss (λ s h. omega (arith, decimal_four s h, length-append (decimal s) (space ∷ []))) a)

-- each state of a loop takes at most five bytes
before_room : (ss : List ℕ) → All Small ss → length (space_before ss) ≤ length ss * 5
before_room ss a =
    collect-length_le (λ s. space ∷ decimal s) 5 ss
    (all_weaker Small (λ s. length (space ∷ decimal s) ≤ 5) ss (λ s h. omega (arith, decimal_four s h)) a)

-- the line of a list takes at most five bytes for each of its entries, and two more
pub line_room : (xs : List ℕ) → All Small xs → length (line xs) ≤ length xs * 5 + 2
line_room xs a =
    let k : ℕ = loop_start xs in
    let n : ℕ = edges xs in
    let s = after_room (stem xs) (all_take Small k xs a) in
    let l = before_room (loop xs) (all_drop Small k (take n xs) (all_take Small n xs a)) in
    omega (arith, stem_loop-length (stem xs) (loop xs), s, l, length-take k xs, length-drop k (take n xs), length-take n xs)
