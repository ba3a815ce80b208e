-- `pair_degree` meets its contract: the edges of the rule's state times those of the property's whose masks hold the letter.
use Prim.Native.Nat.{ℕ, ◌*◌, ◌/◌}
use mathlib.Core.Path.{◌≡◌, sym, ap, ap₂, ◌∙◌}
use mathlib.Core.List.{List}
use native.Mathlib.Omega.{arith}
use lib.ListN.{length}
use Rattle.lists.specs.Lists.{keep}
use Rattle.format.specs.Bytes.{bitb}
use Rattle.combine_graph.specs.Combined.{letter_of, combined}
use Rattle.combine_graph.proofs.CombinedLaws.{combined_degree, combined_degree_le}
use Rattle.combine_edges.proofs.pair_degree.Goals as goal
use Rattle.combine_edges.proofs.pair_degree.Goals.{After-count_holding}

-- the product is the number of edges
told : (c : After-count_holding) → let a = c.args in
    c.len-steps.result * c.count_holding.result ≡ length ((combined a.rule.now a.letters.now a.property.now).succs a.c)
told c =
    let letter : ℕ = letter_of c.args.letters.now (c.args.c / c.args.k.states) in
    let steps = c.len-steps.ensures ∙ ap length c.successors_of.ensures in
    let held = c.count_holding.ensures ∙ ap (λ (ms : List ℕ). length (keep (λ (m : ℕ). bitb m letter) ms)) c.mask_part.ensures in
    ap₂ ◌*◌ steps held ∙ sym (combined_degree c.requires.combinable c.args.c c.requires.c_bound)

pub overflow_mul-result : goal.overflow_mul-result
overflow_mul-result c = omega (arith, told c, combined_degree_le c.requires.combinable c.args.c c.requires.c_bound)

pub returns : goal.returns
returns c = (told c, omega (arith, told c, combined_degree_le c.requires.combinable c.args.c c.requires.c_bound))
