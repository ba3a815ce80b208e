-- The room that the lines of a roll's lists take.
use Prim.Native.Nat.{ℕ, ◌*◌, ◌≤◌, ◌<◌}
use mathlib.Core.Path.{◌≡◌}
use mathlib.Core.Bool.{Bool, true, false}
use mathlib.Core.List.{List}
use mathlib.Core.Option.{some}
use native.Mathlib.Omega.{arith}
use lib.ListN.{length, take, length-take}
use Rattle.lists.specs.Lists.{collect}
use Rattle.lasso.specs.Graph.{Graph, WellFormed}
use Rattle.lasso.specs.Roll.{least_length, roll}
use Rattle.lists.proofs.Sorted.{All, all_of_mem, all_weaker, all_take}
use Rattle.lasso.proofs.RollLaws.{least_length_range, lasso_states, roll_lasso, roll-length}
use Rattle.numbers.specs.Limits.{most_lists}
use Rattle.text.proofs.DecimalLaws.{decimal_two}
use Rattle.lists.proofs.CollectLaws.{collect-length_le}
use Rattle.text.proofs.FigureLaws.{figure-length}
use Rattle.sheet_line.specs.Line.{line}
use Rattle.sheet_line.proofs.RoomLaws.{Small, line_room}
use Rattle.sheet_lists.specs.Words.{end_word, more_word}
use Rattle.sheet_lists.specs.RollText.{closing_line}

-- the most that the line of a list of the roll takes
abbrev pub roll_line_room : ℕ
roll_line_room = 20487

-- the lines of the roll
pub roll_room : (g : Graph) → WellFormed g → (l : ℕ) → least_length g ≡ some l → g.size ≤ 4096
    → All (λ xs. length (line xs) ≤ roll_line_room) (roll g)
roll_room g wf l least few =
    all_of_mem (λ xs. length (line xs) ≤ roll_line_room) (roll g) (λ xs m.
    let states : All (λ x. x < g.size) xs = lasso_states g wf xs (roll_lasso g l least xs m).0 in
    let small : All Small xs = all_weaker (λ x. x < g.size) Small xs (λ x h. omega arith) states in
    omega (arith, line_room xs small, roll-length g l least xs m, least_length_range g l least))

-- the lines of the first n lists of the roll
pub lines_room : (n : ℕ) (rs : List (List ℕ)) → All (λ xs. length (line xs) ≤ roll_line_room) rs → length (collect line (take n rs)) ≤ n * roll_line_room
lines_room n rs a =
    omega (arith, collect-length_le line roll_line_room (take n rs) (all_take (λ xs. length (line xs) ≤ roll_line_room) n rs a), length-take n rs)

-- the closing line
pub closing_room : (more : Bool) (n : ℕ) → n ≤ most_lists → length (closing_line more n) ≤ 8
closing_room true n few = omega (arith, figure-length more_word n, decimal_two n (omega arith))
closing_room false n few = omega (arith, figure-length end_word n, decimal_two n (omega arith))
