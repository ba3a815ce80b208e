-- Lines with one number: how long they are.
use Prim.Native.Nat.{ℕ, ◌+◌, ◌≤◌, ◌<◌}
use mathlib.Core.Path.{◌≡◌}
use mathlib.Core.List.{List}
use native.Mathlib.Omega.{arith}
use lib.ListN.{length, length-append}
use Rattle.text.specs.Decimal.{decimal}
use Rattle.text.specs.Figure.{figure}
use Rattle.text.proofs.DecimalLaws.{decimal_four}

-- a line with a word and a number: the word, the digits and the line feed
pub figure-length : (word : List ℕ) (n : ℕ) → length (figure word n) ≡ length word + length (decimal n) + 1
figure-length word n = simp length-append

-- a line with a word and a number of at most four digits
pub figure_room : (word : List ℕ) (n : ℕ) → n < 10000 → length (figure word n) ≤ length word + 5
figure_room word n less = omega (arith, figure-length word n, decimal_four n less)
