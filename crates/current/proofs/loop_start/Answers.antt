use Prim.Native.Nat.{ℕ, ◌≤◌, ◌<◌}
use mathlib.Core.Path.{◌≡◌, subst, sym, ◌∙◌}
use mathlib.Core.List.{List, ◌∷◌}
use native.Mathlib.Omega.{arith}
use lib.ListN.{length, get_or}
use Rattle.lasso.specs.Graph.{loop_start}
use Rattle.current.specs.Current.{list_in}
use Rattle.current.proofs.CurrentLaws.{loop_start_is}
use Rattle.current.proofs.loop_start.Goals as goal

-- a place that holds the last state, where none before does, is where the loop starts
found : (s : ℕ) (w : List ℕ) (t end last k : ℕ) → t ≤ length w → end ≡ t → last ≡ get_or (s ∷ w) end 0 → k ≤ end → get_or (s ∷ w) k 0 ≡ last
    → ((i : ℕ) → i < k → get_or (s ∷ w) i 0 ≡ last → ⊥) → (k ≡ loop_start (list_in s w t)) × (k ≤ t)
found s w t end last k fits e at le holds before = (
  subst (λ n. k ≡ loop_start (list_in s w n)) e
      (loop_start_is s w end k (omega arith) le (holds ∙ at) (λ i less q. before i less (q ∙ sym at))),
  omega arith,
)

pub returns-then-list_at-last : goal.returns-then-list_at-last
returns-then-list_at-last c =
    found _ _ _ c.number-end.result c.list_at-last.result _ c.requires c.number-end.ensures c.list_at-last.ensures
    (omega (arith, c.loop-k-test.true)) (omega (arith, c.list_at.ensures, c.if-list_at-last.true)) c.loop-k.invariant

pub returns : goal.returns
returns c =
    found _ _ _ c.number-end.result c.list_at-last.result _ c.requires c.number-end.ensures c.list_at-last.ensures
    (omega arith) (sym c.list_at-last.ensures) (λ i less. c.loop-k.invariant i (omega (arith, c.loop-k-test.false)))
