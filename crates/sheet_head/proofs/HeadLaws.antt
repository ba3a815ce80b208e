-- The room that the lines before the lists take.
use Prim.Native.Nat.{ℕ, ◌+◌, ◌≤◌, ◌<◌}
use mathlib.Core.Path.{◌≡◌, ◌∙◌, ap}
use mathlib.Core.List.{[], ◌∷◌, ◌++◌}
use native.Mathlib.Omega.{arith}
use lib.ListN.{length, length-append}
use Rattle.text.specs.Characters.{space}
use Rattle.text.specs.Decimal.{decimal}
use Rattle.text.specs.Figure.{figure}
use Rattle.text.proofs.DecimalLaws.{decimal_four}
use Rattle.text.proofs.FigureLaws.{figure_room}
use Rattle.sheet_head.specs.Words.{model_word, rounds_word}
use Rattle.sheet_head.specs.Head.{head}

-- the lines with the numbers of states, edges and rounds
pub head-length : (n m rounds : ℕ)
    → length (head n m rounds) ≡ 6 + length (decimal n) + length (figure (space ∷ []) m) + length (figure rounds_word rounds)
head-length n m rounds =
    length-append (model_word ++ decimal n ++ figure (space ∷ []) m) (figure rounds_word rounds)
    ∙ ap (λ (k : ℕ). k + length (figure rounds_word rounds)) (length-append (model_word ++ decimal n) (figure (space ∷ []) m)
    ∙ ap (λ (k : ℕ). k + length (figure (space ∷ []) m)) (length-append model_word (decimal n)))

-- the lines with the numbers of states, edges and rounds
pub head_room : (n m rounds : ℕ) → n < 10000 → m < 10000 → rounds < 10000 → length (head n m rounds) ≤ 28
head_room n m rounds ln lm lr =
    omega (arith, head-length n m rounds, decimal_four n ln, figure_room (space ∷ []) m lm, figure_room rounds_word rounds lr)
