-- Laws of the distances from the start in region 0 of the working table: they are put there, they say which states are
-- candidates, and a round keeps them.
use Prim.Native.Nat.{ℕ, suc, ◌+◌, ◌*◌, ◌≤◌, ◌<◌}
use mathlib.Core.Path.{◌≡◌, sym, ◌∙◌, ap}
use mathlib.Core.List.{List}
use native.Mathlib.Omega.{arith}
use lib.ListN.{length, get_or}
use Rattle.lasso.specs.Graph.{Graph}
use Rattle.lasso.specs.Distance.{dist}
use Rattle.lasso.proofs.Distance.{dist-below}
use Rattle.model.specs.declared.Header.{Header}
use Rattle.model.specs.Values.{Valid}
use Rattle.model.specs.Model.{graph_in}
use Rattle.table.specs.Changes.{Copied}
use Rattle.frontier.specs.Regions.{entry, entry_of}
use Rattle.lists.specs.Limit.{under}
use Rattle.walks.specs.Through.{DistancesWithin}
use Rattle.lists.proofs.UnderLaws.{under_all}
use Rattle.candidates.specs.Promises.{StartDistances, StartDistancesPut, RoundsReady}

-- an entry of region 0 stands at the state's own place
pub entry_zero : (n : ℕ) (w : List ℕ) (s : ℕ) → entry 0 n w s ≡ get_or w s 0
entry_zero n w s = let e : 0 * n + s ≡ s = omega arith in ap (λ (i : ℕ). get_or w i 0) e

-- the distances from the start, found in region 2 and copied to region 0
pub start_distances_put : {g : Graph} {n x count : ℕ} {w w₁ w' : List ℕ} → n ≡ g.size → x ≡ g.start
    → DistancesWithin g x n w w₁ count → Copied (2 * n) 0 n w₁ w' → StartDistancesPut g w w'
start_distances_put {g} {n} {x} {count} {w} {w₁} {w'} en ex found copied =
    record {
      same_length = copied.others.same_length ∙ found.outside.same_length;
      start_distances = record { distances = at };
      same_loops = λ i p q. copied.others.same_after i (omega arith) ∙ found.outside.same_before i (omega arith);
      same_after = λ i p. copied.others.same_after i (omega arith) ∙ found.outside.same_after i (omega arith);
    }
  where
    at : (t : ℕ) → t < g.size → entry 0 g.size w' t ≡ entry_of (dist g g.start t)
    at t l =
        let d : DistancesWithin g g.start g.size w w₁ count = rw (en, ex) at found in
        let all : under (suc g.size) (dist g g.start t) ≡ dist g g.start t =
        under_all (suc g.size) (dist g g.start t) (λ k e. omega (arith, dist-below g g.start t k e)) in
        let c : Copied (2 * g.size) 0 g.size w₁ w' = rw en at copied in
        let q : 0 * g.size + t ≡ 0 + t = omega arith in
        ap (λ (i : ℕ). get_or w' i 0) q ∙ c.copies t l ∙ d.distances t l ∙ ap entry_of all

-- the entry of region 0 for a state is that of its distance from the start
pub start_entry : {g : Graph} {w : List ℕ} → StartDistances g w → (s : ℕ) → s < g.size
    → get_or w s 0 ≡ entry_of (dist g g.start s)
start_entry {g} {w} d s l = sym (entry_zero g.size w s) ∙ d.distances s l

-- with the distances from the start the table is ready
pub ready_started : {f : List ℕ} {h : Header} {w w' : List ℕ} → Valid f h → 6 * h.states ≤ length w
    → StartDistancesPut (graph_in f h) w w' → RoundsReady f h w'
ready_started v room s =
    record { valid = v; room = omega (arith, s.same_length); start_distances = s.start_distances }
