-- The starred examples hold: by computation, and for H with any allowance that suffices by the law of a search that finds.
use Prim.Native.Nat.{ℕ, ◌≤◌}
use native.Mathlib.Omega.{arith}
use mathlib.Core.Path.{◌≡◌, refl, ◌∙◌, ap}
use mathlib.Core.List.{List, [], ◌∷◌}
use mathlib.Core.Option.{some}
use lib.ListN.{replicate}
use Rattle.gate.specs.Gate.{asking}
use Rattle.outcomes.specs.Outcome.{Outcome, answered}
use Rattle.outcomes.proofs.OutcomeLaws.{call_answer}
use Rattle.search.specs.Search.{Searched, search_answer}
use Rattle.search.proofs.SearchLaws.{SearchIs, search_found}
use Rattle.sequence.specs.Calls.{of_search}
use Rattle.examples.specs.Examples.{file_h, lent_answer, row_h, given, expected, ExamplesHold}

-- a search of H with allowance 2 or more finds the list with its figures
H_found : (allowance : ℕ) → 2 ≤ allowance
    → SearchIs file_h (asking 0 4096 allowance) 8 42 (answered (Searched.found 3 2 2)) (some (0 ∷ 5 ∷ 6 ∷ 6 ∷ []))
H_found allowance h =
    search_found file_h refl (asking 0 4096 allowance) 8 42 (omega arith) (omega arith) (omega arith) h (0 ∷ 5 ∷ 6 ∷ 6 ∷ []) refl (omega arith)

-- so it gives what is expected
H_given : (allowance : ℕ) → 2 ≤ allowance → given (row_h allowance) ≡ expected (row_h allowance)
H_given allowance h =
    let s = H_found allowance h in
    let zeros : List ℕ = replicate 42 0 in
    ap
    (λ (o : Outcome Searched). record { answer = of_search o; table = search_answer file_h (asking 0 4096 allowance) lent_answer 42; work = zeros })
    s.outcome_is
    ∙ ap
    (λ (t : List ℕ). record { answer = of_search (answered (Searched.found 3 2 2)); table = t; work = zeros })
    (call_answer lent_answer s)

-- the starred examples
pub examples_hold : ExamplesHold
examples_hold = record { rows = refl; more_allowance = H_given; bytes = refl; two_tables = refl }
