-- The entry for a distance under a ceiling: from what the working table holds for a state, and in the table of all
-- states, which is written entry by entry to the front of the output.
use Prim.Native.Nat.{ℕ, suc, ◌+◌, ◌<◌}
use mathlib.Core.Path.{◌≡◌, sym, ◌∙◌, ap, subst}
use mathlib.Core.List.{List, ◌++◌}
use mathlib.Core.Option.{Option, some, none}
use native.Mathlib.Omega.{arith}
use native.Mathlib.Numerals.{add-one}
use lib.ListN.{length, get_or, set, drop}
use lib.Seq.{take_all, paste, paste-suc}
use Rattle.lists.specs.Limit.{under}
use Rattle.lasso.specs.Graph.{Graph}
use Rattle.lasso.specs.Distance.{dist}
use Rattle.lists.proofs.BelowLaws.{map-below_at, map-below-length}
use Rattle.model.specs.declared.Header.{Header}
use Rattle.model.specs.Values.{Valid}
use Rattle.model.specs.Model.{graph_in, graph_of}
use Rattle.model.proofs.Laws.{valid_sizes}
use Rattle.gate.proofs.GateLaws.{named_graph}
use Rattle.frontier.specs.Regions.{entry_of, value_of}
use Rattle.candidates.specs.Promises.{StartDistances, StartDistancesPut}
use Rattle.candidates.proofs.DistanceLaws.{entry_zero}
use Rattle.outcomes.specs.Tables.{written}
use Rattle.distances.specs.Distances.{entry_for, distance_entry, distance_table}

-- the entry from what the working table holds for a state
abbrev pub from_stored : ℕ → ℕ → ℕ
from_stored ceiling stored = entry_for (under (suc ceiling) (value_of stored))

-- what the working table holds for a distance gives the entry for it
stored_entry : (ceiling stored : ℕ) (a : Option ℕ) → stored ≡ entry_of a
    → from_stored ceiling stored ≡ entry_for (under (suc ceiling) a)
stored_entry ceiling stored none e = ap (from_stored ceiling) e
stored_entry ceiling stored (some d) e = ap (from_stored ceiling) e

-- with the distances from the start in region 0, the entry of a state comes from the one at its place
pub start_stored : {f : List ℕ} {h : Header} {w w' : List ℕ} → Valid f h → h.table ≡ 0 → StartDistancesPut (graph_in f h) w w'
    → (ceiling s : ℕ) → s < h.states → from_stored ceiling (get_or w' s 0) ≡ distance_entry (graph_of f 0) ceiling s
start_stored {f} {h} {w} {w'} v first put ceiling s l =
    let g : Graph = graph_of f 0 in
    let sizes = valid_sizes v in
    let there = subst (λ (x : Graph). StartDistances x w') (named_graph v first) put.start_distances in
    let at : get_or w' s 0 ≡ entry_of (dist g g.start s) =
    sym (entry_zero g.size w' s) ∙ there.distances s (omega (arith, sizes.states_are)) in
    stored_entry ceiling (get_or w' s 0) (dist g g.start s) at

-- the table has as many entries as there are states
pub table_length : (g : Graph) (ceiling : ℕ) → length (distance_table g ceiling) ≡ g.size
table_length g ceiling = map-below-length (distance_entry g ceiling) g.size

-- a state's entry stands at its own place
pub table_at_state : (g : Graph) (ceiling s : ℕ) → s < g.size
    → get_or (distance_table g ceiling) s 0 ≡ distance_entry g ceiling s
table_at_state g ceiling s l = map-below_at (distance_entry g ceiling) g.size s l

-- the entries of the states below s stand in front of the output, which is as before after them
abbrev pub Written : Graph → ℕ → List ℕ → List ℕ → ℕ → Type 0
Written g ceiling d d' s = d' ≡ paste d 0 (distance_table g ceiling) s

-- storing the entry of s writes one more
pub written_more : (g : Graph) (ceiling : ℕ) (d d' : List ℕ) (s v : ℕ) → s < g.size → s < length d
    → v ≡ distance_entry g ceiling s → Written g ceiling d d' s → Written g ceiling d (set d' s v) (s + 1)
written_more g ceiling d d' s v l room e before =
    let t : List ℕ = distance_table g ceiling in
    let at : 0 + s ≡ s = omega arith in
    ap (λ (r : List ℕ). set r s v) before
    ∙ ap (λ (x : ℕ). set (paste d 0 t s) s x) (e ∙ sym (table_at_state g ceiling s l))
    ∙ ap (λ (i : ℕ). set (paste d 0 t s) i (get_or t s 0)) (sym at)
    ∙ paste-suc d 0 t s 0 (omega arith) (omega (arith, table_length g ceiling))
    ∙ ap (λ (i : ℕ). paste d 0 t i) (sym (add-one s))

-- with the entries of all states the whole table is written
pub written_all : (g : Graph) (ceiling : ℕ) (d d' : List ℕ) (s : ℕ) → s ≡ g.size → Written g ceiling d d' s
    → d' ≡ written (some (distance_table g ceiling)) d
written_all g ceiling d d' s e all =
    let t : List ℕ = distance_table g ceiling in
    let long : length t ≡ s = table_length g ceiling ∙ sym e in
    let at : 0 + s ≡ length t = omega arith in
    all
    ∙ ap (λ (r : List ℕ). r ++ drop (0 + s) d) (take_all s t (omega arith))
    ∙ ap (λ (i : ℕ). t ++ drop i d) at
