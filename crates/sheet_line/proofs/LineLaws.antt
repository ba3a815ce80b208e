-- The line of a list: how long it is, and how its parts follow one another.
use Prim.Native.Nat.{ℕ, zero, suc, ◌+◌, ◌-◌, ◌≤◌}
use mathlib.Core.Path.{◌≡◌, sym, ◌∙◌, ap}
use mathlib.Core.List.{List, [], ◌∷◌, ◌++◌, append_assoc, append-nil}
use native.Mathlib.Omega.{arith}
use lib.ListN.{length, take, drop, length-append, length-drop}
use lib.Seq.{take-append-le, drop-append-le, take-nil}
use Rattle.lasso.specs.Graph.{stem, loop, edges, loop_start}
use Rattle.lists.specs.Lists.{collect}
use Rattle.text.specs.Characters.{space, line_feed}
use Rattle.text.specs.Decimal.{decimal}
use Rattle.sheet_line.specs.Line.{bar, between, space_after, space_before, stem_loop, line}

-- the line of a list
pub stem_loop-length : (ss ls : List ℕ)
    → length (stem_loop ss ls) ≡ length (space_after ss) + 1 + length (space_before ls) + 1
stem_loop-length ss ls = simp length-append (omega arith)

-- the bar stands between
pub stem_loop_parts : (ss ls : List ℕ)
    → space_after ss ++ (bar ∷ []) ++ space_before ls ++ (line_feed ∷ []) ≡ stem_loop ss ls
stem_loop_parts ss ls = ap (λ (r : List ℕ). r ++ (line_feed ∷ [])) (append_assoc (space_after ss) (bar ∷ []) (space_before ls))

-- no text after each state, and a space before it
pub between_before : (ss : List ℕ) → between (space ∷ []) [] ss ≡ space_before ss
between_before ss = λ i. collect (λ s. append-nil (space ∷ decimal s) i) ss

-- a part of a list, cut at its end first or at its start first
drop-take : (k n : ℕ) (xs : List ℕ) → drop k (take n xs) ≡ take (n - k) (drop k xs)
drop-take zero n xs = let e : n - 0 ≡ n = omega arith in ap (λ (m : ℕ). take m xs) (sym e)
drop-take (suc k) zero xs = let e : 0 - suc k ≡ 0 = omega arith in ap (λ (m : ℕ). take m (drop (suc k) xs)) (sym e)
drop-take (suc k) (suc n) [] = sym (take-nil (suc n - suc k))
drop-take (suc k) (suc n) (x ∷ xs) =
    let e : n - k ≡ suc n - suc k = omega arith in drop-take k n xs ∙ ap (λ (m : ℕ). take m (drop k xs)) e

-- the loop, as a part of the list from its start on
loop_part : (xs : List ℕ) → loop xs ≡ take (edges xs - loop_start xs) (drop (loop_start xs) xs)
loop_part xs = drop-take (loop_start xs) (edges xs) xs

-- the line of a list that stands in front of a table, read off the table
pub line_read : (xs rest t : List ℕ) (k l : ℕ) → t ≡ xs ++ rest → k ≡ loop_start xs → l ≡ edges xs → k ≤ l → l ≤ length xs
    → stem_loop (take k t) (take (l - k) (drop k t)) ≡ line xs
line_read xs rest t k l at-t at-k at-l le fits =
    let front : take k t ≡ take k xs = ap (λ (r : List ℕ). take k r) at-t ∙ take-append-le k xs rest (omega arith) in
    let back : drop k t ≡ drop k xs ++ rest = ap (λ (r : List ℕ). drop k r) at-t ∙ drop-append-le k xs rest (omega arith) in
    let part : take (l - k) (drop k t) ≡ take (l - k) (drop k xs) =
    ap (λ (r : List ℕ). take (l - k) r) back ∙ take-append-le (l - k) (drop k xs) rest (rw length-drop (omega arith)) in
    ap (λ (r : List ℕ). stem_loop r (take (l - k) (drop k t))) front
    ∙ ap (λ (r : List ℕ). stem_loop (take k xs) r) part
    ∙ ap (λ (n : ℕ). stem_loop (take n xs) (take (l - n) (drop n xs))) at-k
    ∙ ap (λ (n : ℕ). stem_loop (take (loop_start xs) xs) (take (n - loop_start xs) (drop (loop_start xs) xs))) at-l
    ∙ ap (λ (r : List ℕ). stem_loop (stem xs) r) (sym (loop_part xs))
