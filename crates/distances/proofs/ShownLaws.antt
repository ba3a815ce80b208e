-- What the entries of a distance call say about paths is so.
use Prim.Native.Nat.{ℕ, suc, ◌+◌, ◌-◌, ◌≤◌, ◌<◌}
use mathlib.Core.Path.{◌≡◌, refl, sym, ◌∙◌, ap, subst}
use mathlib.Core.Logic.{◌↔◌, inl, inr}
use mathlib.Core.List.{List, ◌++◌}
use mathlib.Core.Option.{Option, some, none}
use native.Mathlib.Omega.{arith}
use lib.ListN.{length, get_or, drop, get_or-append}
use lib.Seq.{length_front, length-take-le, get_or-append-add, get_or-drop}
use Rattle.lists.specs.Least.{IsLeast}
use Rattle.lists.specs.Limit.{under}
use Rattle.lasso.specs.Graph.{Graph, WellFormed}
use Rattle.lasso.specs.Distance.{dist}
use Rattle.lists.proofs.Tests.{lt_or_ge}
use Rattle.lists.proofs.UnderLaws.{under_least}
use Rattle.lasso.proofs.ShownLaws.{distance_shown}
use Rattle.numbers.specs.Limits.{not_reached}
use Rattle.format.specs.Layout.{states}
use Rattle.format.specs.Rules.{first_broken}
use Rattle.model.specs.Model.{graph_of}
use Rattle.model.proofs.Laws.{accepted_well_formed}
use Rattle.outcomes.specs.Outcome.{answered}
use Rattle.distances.specs.Distances.{entry_for, distance_entry, distance_table, distance_reasons, distances_output}
use Rattle.distances.specs.Shown.{FromStart, EntryIs, DistancesSayOf, DistancesSay}
use Rattle.distances.proofs.EntryLaws.{table_length, table_at_state}
use Rattle.distances.proofs.DistancesLaws.{DistancesAre, clear_reasons, distances_written}

-- the numbers up to a ceiling that have a property
abbrev UpTo : (ℕ → Type 0) → ℕ → ℕ → Type 0
UpTo P ceiling n = P n × (n < suc ceiling)

module _ (P : ℕ → Type 0) (ceiling : ℕ) (low : ceiling ≤ 4096) where
  -- the entry for the least number up to the ceiling is d, not above the ceiling, exactly if d is the least of all
  entry_exactly : (a : Option ℕ) → IsLeast (UpTo P ceiling) a → (d : ℕ)
      → ((entry_for a ≡ d) × (d ≤ ceiling)) ↔ ((d ≤ ceiling) × IsLeast P (some d))
  entry_exactly none least d = (λ (e, le). absurd (omega arith), λ (le, (p, first)). absurd (least d (p, omega arith)))
  entry_exactly (some k) least d = (
    λ (e, le). (
      le,
      (
        subst P e least.0.0,
        λ n p. elim (lt_or_ge n (suc ceiling)) [
          | inl less ↦ omega (arith, least.1 n (p, less))
          | inr more ↦ omega arith
        ],
      ),
    ),
    λ (le, (p, first)). (omega (arith, least.1 d (p, omega arith), first k least.0.0), le),
  )

  -- it is 65,535 exactly if no number up to the ceiling has the property
  none_exactly : (a : Option ℕ) → IsLeast (UpTo P ceiling) a
      → (entry_for a ≡ not_reached) ↔ ((n : ℕ) → n ≤ ceiling → P n → ⊥)
  none_exactly none least = (λ e n le p. least n (p, omega arith), λ unreached. refl)
  none_exactly (some k) least =
      let (p, within) = least.0 in
      (λ e n le q. omega arith, λ unreached. absurd (unreached k (omega arith) p))

module _ (f : List ℕ) (ceiling : ℕ) (output : List ℕ) (workRoom : ℕ)
    (clear : first_broken (distance_reasons f ceiling (length output) workRoom) ≡ none) where
  -- the model of the file, and the entries of its states
  abbrev g : Graph
  g = graph_of f 0

  abbrev t : List ℕ
  t = distance_table g ceiling

  -- the distance of a state from the initial state, if there is one up to the ceiling
  abbrev near : ℕ → Option ℕ
  near s = under (suc ceiling) (dist g g.start s)

  -- the answer is the number of states, and the output holds their entries, with what lies past them as before
  call_is : DistancesAre f ceiling output workRoom (answered (states f)) (t ++ drop (length t) output)
  call_is = distances_written f ceiling output workRoom clear (states f) refl (t ++ drop (length t) output) refl

  output_is : distances_output f ceiling output workRoom ≡ t ++ drop (length t) output
  output_is = sym call_is.1

  -- the entry of a state stands at its place
  state_entry : (s : ℕ) → s < states f → get_or (distances_output f ceiling output workRoom) s 0 ≡ distance_entry g ceiling s
  state_entry s l =
      ap (λ (xs : List ℕ). get_or xs s 0) output_is
      ∙ get_or-append t (drop (length t) output) 0 s (omega (arith, table_length g ceiling))
      ∙ table_at_state g ceiling s l

  -- an entry after them is as before
  later_entry : (i : ℕ) → states f ≤ i → EntryIs f ceiling output workRoom i (get_or output i 0)
  later_entry i past =
      let long : length t ≡ g.size = table_length g ceiling in
      let at : i ≡ length t + (i - length t) = omega arith in
      ap (λ (xs : List ℕ). get_or xs i 0) output_is
      ∙ ap (λ (j : ℕ). get_or (t ++ drop (length t) output) j 0) at
      ∙ get_or-append-add t (drop (length t) output) (i - length t) 0
      ∙ get_or-drop (length t) output (i - length t) 0
      ∙ ap (λ (j : ℕ). get_or output j 0) (sym at)

  -- the length of the output is as before
  output_length : length (distances_output f ceiling output workRoom) ≡ length output
  output_length =
      let (accepted, low, room) = clear_reasons f ceiling (length output) workRoom clear in
      let long : length t ≡ g.size = table_length g ceiling in
      ap length output_is ∙ length_front output t (length t) (sym (length-take-le (length t) output (omega arith)))

  -- the distance under the ceiling is the least length up to the ceiling of a path from the initial state
  least_up_to : (s : ℕ) → IsLeast (UpTo (FromStart f s) ceiling) (near s)
  least_up_to s =
      let wf : WellFormed g = accepted_well_formed f 0 (clear_reasons f ceiling (length output) workRoom clear).0 in
      let shown = distance_shown g wf g.start s wf.start_state in
      under_least (FromStart f s) (suc ceiling) (dist g g.start s) shown

  -- so the call says what it is to say
  says : DistancesSayOf f ceiling output workRoom
  says =
      let low = (clear_reasons f ceiling (length output) workRoom clear).1 in
      record {
        answers = sym call_is.0;
        distance_exactly = λ s d l.
            let at = state_entry s l in
            let (to, back) = entry_exactly (FromStart f s) ceiling low (near s) (least_up_to s) d in
            (λ (e, le). to (sym at ∙ e, le), λ h. (at ∙ (back h).0, (back h).1));
        not_reached_exactly = λ s l.
            let at = state_entry s l in
            let (to, back) = none_exactly (FromStart f s) ceiling low (near s) (least_up_to s) in
            (λ e n le p. to (sym at ∙ e) n (omega arith) p, λ h. at ∙ back (λ n le p. h n (omega arith) p));
        later_same = later_entry;
        same_length = output_length;
      }

pub distances_say : DistancesSay
distances_say = says
