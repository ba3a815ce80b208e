-- `mark_byte` meets its contract: the bits below j are added up, each with its weight.
use Prim.Native.Nat.{ℕ, ◌+◌, ◌*◌}
use mathlib.Core.Path.{◌≡◌}
use mathlib.Core.Bool.{Bool}
use mathlib.Core.List.{List}
use Rattle.writer.specs.File.{worth}
use Rattle.combine_graph.specs.Combined.{pair_mark}
use Rattle.combine_marks.proofs.mark_byte.Given as goal

-- whether bit j of the byte at a place is set
abbrev pub set_at : (p : List ℕ) (n b : ℕ) → ℕ → Bool
set_at p n b j = pair_mark p n (8 * b + j)

abbrev pub invariant-loop-j : goal.invariant-loop-j
invariant-loop-j l = l.byte ≡ worth (set_at l.property l.states l.b) l.j
