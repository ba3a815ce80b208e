-- What the rounds say in terms of the model: all are done, none is stopped, the least length.
use Prim.Native.Nat.{ℕ, suc, ◌≤◌, min}
use mathlib.Core.Path.{◌≡◌, sym, ◌∙◌, ap}
use mathlib.Core.List.{List}
use mathlib.Core.Option.{Option, some}
use native.Mathlib.Omega.{arith}
use lib.ListN.{length}
use Rattle.lists.specs.Limit.{under}
use Rattle.lasso.specs.Graph.{Graph, WellFormed}
use Rattle.lasso.specs.Roll.{least_length}
use Rattle.lasso.specs.Rounds.{Record, candidates, best_length, after_rounds, after_allowed}
use Rattle.lasso.specs.declared.RoundRecord.{RoundRecord}
use Rattle.lasso.proofs.RoundLaws.{candidates-length_le, after_rounds_done, after_rounds-least_length}
use Rattle.lists.proofs.UnderLaws.{under_some}
use Rattle.lasso.proofs.CeilingLaws.{least_full}
use Rattle.model.specs.declared.Header.{Header}
use Rattle.model.specs.Model.{graph_in}
use Rattle.model.specs.Values.{Valid}
use Rattle.model.proofs.Laws.{valid_sizes}
use Rattle.begun.specs.Begun.{StoppedAfter, AllDone}

-- an allowance that suffices does all rounds: their number, and the least length of an accepting path, if it is not above
-- the ceiling
pub all_rounds_lem : {g : Graph} → WellFormed g → (rec : Record) (ceiling allowance : ℕ)
    → rec ≡ after_allowed g ceiling allowance → length (candidates g) ≤ allowance
    → (rec.done ≡ length (candidates g)) × (best_length rec ≡ under (suc ceiling) (least_length g))
all_rounds_lem {g} wf rec ceiling allowance e enough =
    let n : ℕ = length (candidates g) in
    let all : min allowance n ≡ n = omega arith in
    let q : rec ≡ after_rounds g ceiling n = e ∙ ap (λ (m : ℕ). after_rounds g ceiling m) all in (
      ap (λ (r : Record). r.done) q ∙ after_rounds_done g ceiling n,
      ap best_length q ∙ after_rounds-least_length wf ceiling,
    )

-- no file's model has so many candidates that the rounds are stopped with the greatest allowance
pub never_stopped : {f : List ℕ} {h : Header} {ceiling : ℕ} {r : RoundRecord} → Valid f h → StoppedAfter (graph_in f h) ceiling 65535 r → ⊥
never_stopped {f} {h} valid stop =
    let sizes = valid_sizes valid in omega (arith, stop.short, candidates-length_le (graph_in f h))

-- the least length that the rounds found within a ceiling is that of the whole model
pub begun_least : {g : Graph} {ceiling allowance rounds l : ℕ} → AllDone g ceiling allowance rounds (some l) → (least_length g ≡ some l) × (l ≤ ceiling)
begun_least {g} {ceiling} {allowance} {rounds} {l} all =
    let (there, low) = under_some (suc ceiling) (least_length g) l all.least_is in (there, omega arith)

-- under a ceiling of the number of states or more the rounds find the least length of the whole model, whatever it is
pub full_least : {f : List ℕ} {h : Header} {ceiling allowance rounds : ℕ} {least : Option ℕ} → Valid f h → h.states ≤ ceiling
    → AllDone (graph_in f h) ceiling allowance rounds least → least_length (graph_in f h) ≡ least
full_least {f} {h} {ceiling} valid full all =
    let sizes = valid_sizes valid in
    sym (least_full (graph_in f h) ceiling (omega arith)) ∙ all.least_is
