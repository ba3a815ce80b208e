use Prim.Native.Nat.{ℕ}
use mathlib.Core.Path.{sym, ap}
use mathlib.Core.List.{[], ◌∷◌}
use native.Mathlib.Omega.{arith}
use Rattle.lists.proofs.BelowLaws.{map-below-length, map-below_next}
use Rattle.text.proofs.WroteLaws.{adds_length, adds_none, adds_then, adds_as}
use Rattle.combine_graph.specs.Combined.{pair_mark_byte}
use Rattle.combine_marks.proofs.write_marks.Goals as goal

pub loop-b-init : goal.loop-b-init
loop-b-init c = adds_none c.args.out.now (omega (arith, c.requires.states_le_most_states.1))

pub write_byte-requires : goal.write_byte-requires
write_byte-requires c =
    let w = c.loop-b.invariant in
    let bytes = map-below-length (pair_mark_byte c.args.property.now c.args.states) c.loop-b.b in
    omega (arith, w.wrote.place, adds_length w, bytes, c.mark_bytes-count.ensures, c.requires.states_le_most_states.1)

pub loop-b-preserved : goal.loop-b-preserved
loop-b-preserved c =
    let bytes = map-below_next (pair_mark_byte c.args.property.now c.args.states) c.loop-b.b in
    adds_as (sym bytes)
    (adds_then c.loop-b.invariant (adds_as (ap (λ (x : ℕ). x ∷ []) c.mark_byte-byte.ensures.0) c.write_byte.ensures))
