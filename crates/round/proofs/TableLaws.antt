-- Laws of the working table during a round: the distances from the start in region 0, and the start levels in region 2.
use Prim.Native.Nat.{ℕ, suc, ◌+◌, ◌*◌, ◌<◌}
use mathlib.Core.Path.{◌≡◌, sym, ◌∙◌, ap, ap₂}
use mathlib.Core.List.{List}
use mathlib.Core.Option.{some, none}
use native.Mathlib.Omega.{arith}
use Rattle.lasso.specs.Distance.{dist}
use Rattle.lists.specs.Least.{sum}
use Rattle.lasso.specs.Rounds.{round_length}
use Rattle.lists.proofs.UnderLaws.{under-sum}
use Rattle.lasso.proofs.Distance.{dist-below}
use Rattle.model.specs.declared.Header.{Header}
use Rattle.model.specs.Model.{graph_in}
use Rattle.model.proofs.Laws.{valid_sizes}
use Rattle.table.specs.Changes.{SameOutside}
use Rattle.frontier.specs.Regions.{entry, entry_of, value_of}
use Rattle.lists.specs.Limit.{under}
use Rattle.hits.specs.Hit.{hit_length}
use Rattle.walks.specs.Through.{DistancesWithin}
use Rattle.edge_search.specs.Promises.{FoundFrom, ExhaustedFrom}
use Rattle.frontier.specs.Buckets.{sources}
use Rattle.lists.proofs.UnderLaws.{under_some}
use Rattle.candidates.specs.Promises.{RoundsReady}
use Rattle.round.specs.Promises.{SumsFit, SumsPut}
use Rattle.spread.proofs.SearchLaws.{value_entry}
use Rattle.round.proofs.Laws.{entry_of_le, round_found}

-- after the distances from r are found, region 0 holds those from the start
ready_start : {f : List ℕ} {h : Header} {w w₁ : List ℕ} {r limit reached : ℕ} → RoundsReady f h w
    → DistancesWithin (graph_in f h) r limit w w₁ reached → (s : ℕ) → s < (graph_in f h).size
    → entry 0 (graph_in f h).size w₁ s ≡ entry_of (dist (graph_in f h) (graph_in f h).start s)
ready_start {f} {h} ready found s l =
    found.outside.same_before (0 * (graph_in f h).size + s) (omega arith) ∙ ready.start_distances.distances s l

-- the sums for the first s states stand in region 2, and all other entries are as before
pub record Added (n s : ℕ) (w w' : List ℕ) : Type 0 where
  pub others : SameOutside (2 * n) (2 * n + s) w w'
  pub sums : SumsPut n s w w'

-- a distance from the start and one from r, in regions 0 and 2, are small enough to be added
pub round_fits : {f : List ℕ} {h : Header} {w w₁ : List ℕ} {r limit reached : ℕ} → RoundsReady f h w
    → DistancesWithin (graph_in f h) r limit w w₁ reached → SumsFit h.states w₁
round_fits {f} {h} {w} {w₁} {r} {limit} ready found s l =
    let g = graph_in f h in
    let sizes = valid_sizes ready.valid in
    let from_start = ready_start ready found s (omega arith) in
    let from-r = found.distances s (omega arith) in
    let low = entry_of_le g.size (dist g g.start s) (λ v e. dist-below g g.start s v e) in
    let high = entry_of_le g.size (under (suc limit) (dist g r s)) (λ v e. dist-below g r s v (under_some (suc limit) (dist g r s) v e).0) in
    omega arith

-- the start levels of the search are the sums of both distances below the limit
round_sources : {f : List ℕ} {h : Header} {w w₁ : List ℕ} {r limit reached : ℕ} (w₂ : List ℕ) → RoundsReady f h w
    → DistancesWithin (graph_in f h) r limit w w₁ reached → SumsPut (graph_in f h).size (graph_in f h).size w₁ w₂ → (s : ℕ) → s < (graph_in f h).size
    → sources (graph_in f h).size limit w₂ s ≡ under limit (sum (dist (graph_in f h) (graph_in f h).start s) (dist (graph_in f h) r s))
round_sources {f} {h} {r = r} {limit} w₂ ready found sums s l =
    let g = graph_in f h in
    let a = dist g g.start s in
    let b = under (suc limit) (dist g r s) in
    let both = ap₂ (λ (x y : ℕ). sum (value_of x) (value_of y)) (ready_start ready found s l) (found.distances s l) in
    let plain : sum (value_of (entry_of a)) (value_of (entry_of b)) ≡ sum a b = ap₂ sum (value_entry a) (value_entry b) in
    ap (λ (x : ℕ). under limit (value_of x)) (sums s l)
    ∙ ap (under limit) (value_entry _ ∙ both ∙ plain)
    ∙ under-sum limit a (dist g r s)

-- the search from these start levels finds the round's length
round_length_lem : {f : List ℕ} {h : Header} {w w₁ : List ℕ} {r limit reached : ℕ} (w₂ : List ℕ) → RoundsReady f h w
    → DistancesWithin (graph_in f h) r limit w w₁ reached → SumsPut h.states h.states w₁ w₂
    → under (suc limit) (round_length (graph_in f h) r)
    ≡ under (suc limit) (hit_length (graph_in f h) (sources (graph_in f h).size limit w₂) r)
round_length_lem {f} {h} {r = r} {limit} w₂ ready found sums =
    sym (round_found (graph_in f h) limit r (sources (graph_in f h).size limit w₂)
    (round_sources w₂ ready found sums))

-- the length that the search finds is the round's
pub round_some : {f : List ℕ} {h : Header} {w w₁ w₂ w₃ : List ℕ} {r limit reached l : ℕ} → RoundsReady f h w
    → DistancesWithin (graph_in f h) r limit w w₁ reached → SumsPut h.states h.states w₁ w₂
    → FoundFrom (graph_in f h) (sources (graph_in f h).size limit w₂) limit r w₂ w₃ l
    → under (suc limit) (round_length (graph_in f h) r) ≡ some l
round_some {w₂ = w₂} ready found sums searched = round_length_lem w₂ ready found sums ∙ searched.length

-- if the search finds no length, the round has none up to the limit
pub round_nothing : {f : List ℕ} {h : Header} {w w₁ w₂ w₃ : List ℕ} {r limit reached count : ℕ} → RoundsReady f h w
    → DistancesWithin (graph_in f h) r limit w w₁ reached → SumsPut h.states h.states w₁ w₂
    → ExhaustedFrom (graph_in f h) (sources (graph_in f h).size limit w₂) limit r w₂ w₃ count
    → under (suc limit) (round_length (graph_in f h) r) ≡ none
round_nothing {w₂ = w₂} ready found sums searched = round_length_lem w₂ ready found sums ∙ searched.length
