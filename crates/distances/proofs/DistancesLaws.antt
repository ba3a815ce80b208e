-- What a distance call answers and writes, case by case: refused by the first reason that holds, or the entries of all
-- states; and that its outcome loses nothing.
use Prim.Native.Nat.{ℕ, ◌≤◌, ◌<◌}
use mathlib.Core.Path.{◌≡◌, refl, sym, ◌∙◌, ap}
use mathlib.Core.Bool.{Bool}
use mathlib.Core.List.{List, [], ◌∷◌}
use mathlib.Core.Option.{Option, some, none}
use borrow.Author.Tests.{lt-ltb, le-ltb}
use lib.ListN.{length}
use lib.Dec.{ltb, nltb→le}
use Rattle.lists.specs.Lists.{some_if}
use Rattle.format.specs.Layout.{states}
use Rattle.format.specs.Rules.{Reason, first_broken, Accepted}
use Rattle.format.proofs.Reasons.{none_clear, clear_append, broken_append, append_clear}
use Rattle.model.specs.Model.{graph_of}
use Rattle.gate.specs.Gate.{common_rules, ceiling_reason}
use Rattle.gate.proofs.GateLaws.{ceiling_high, ceiling_low, clear_common}
use Rattle.outcomes.specs.Outcome.{Outcome, refused, answered}
use Rattle.outcomes.specs.Tables.{written}
use Rattle.outcomes.proofs.OutcomeLaws.{call_answer, call_broken, call_kept}
use Rattle.outcomes.proofs.ReadBack.{result_loses_nothing}
use Rattle.distances.specs.Distances.{DistancesLoseNothing, distance_table, distance_reasons, distances_outcome, distances_output}

-- the reason 15 of a distance call
abbrev room_reason : List ℕ → ℕ → Reason
room_reason f outputRoom = record { number = 15; holds = ltb outputRoom (states f) }

module _ (f : List ℕ) (ceiling outputRoom workRoom : ℕ) where
  -- a reason of 1 to 12 is the first
  pub reasons_common : (n : ℕ) → first_broken (common_rules f workRoom) ≡ some n
      → first_broken (distance_reasons f ceiling outputRoom workRoom) ≡ some n
  reasons_common n e = broken_append (common_rules f workRoom) (ceiling_reason ceiling ∷ room_reason f outputRoom ∷ []) n e

  -- after them a ceiling above 4,096 breaks 21
  pub reasons_high : first_broken (common_rules f workRoom) ≡ none → 4096 < ceiling
      → first_broken (distance_reasons f ceiling outputRoom workRoom) ≡ some 21
  reasons_high e high = ceiling_high (common_rules f workRoom) ceiling (room_reason f outputRoom ∷ []) e high

  -- with one up to 4,096, an output with fewer entries than there are states breaks 15
  pub reasons_short : first_broken (common_rules f workRoom) ≡ none → ceiling ≤ 4096 → outputRoom < states f
      → first_broken (distance_reasons f ceiling outputRoom workRoom) ≡ some 15
  reasons_short e low short =
      ceiling_low (common_rules f workRoom) ceiling (room_reason f outputRoom ∷ []) e low
      ∙ ap (λ (b : Bool). some_if b 15 none) (lt-ltb outputRoom (states f) short)

  -- and one with as many breaks nothing
  pub reasons_clear : first_broken (common_rules f workRoom) ≡ none → ceiling ≤ 4096 → states f ≤ outputRoom
      → first_broken (distance_reasons f ceiling outputRoom workRoom) ≡ none
  reasons_clear e low room =
      ceiling_low (common_rules f workRoom) ceiling (room_reason f outputRoom ∷ []) e low
      ∙ ap (λ (b : Bool). some_if b 15 none) (le-ltb outputRoom (states f) room)

  -- where no reason holds the file is accepted, the ceiling is up to 4,096 and the output has an entry for each state
  pub clear_reasons : first_broken (distance_reasons f ceiling outputRoom workRoom) ≡ none
      → Accepted f × (ceiling ≤ 4096) × (states f ≤ outputRoom)
  clear_reasons e =
      let own : List Reason = ceiling_reason ceiling ∷ room_reason f outputRoom ∷ [] in
      let common : first_broken (common_rules f workRoom) ≡ none = append_clear (common_rules f workRoom) own e in
      let (low, (room, end)) = none_clear own (sym (clear_append (common_rules f workRoom) own common) ∙ e) in
      ((clear_common f workRoom common).0, nltb→le 4096 ceiling low, nltb→le outputRoom (states f) room)

module _ (f : List ℕ) (ceiling : ℕ) (d : List ℕ) (workRoom : ℕ) where
  -- the answer is the call's, and so is the output afterwards
  abbrev pub DistancesAre : Outcome ℕ → List ℕ → Type 0
  DistancesAre o d' = (o ≡ distances_outcome f ceiling (length d) workRoom) × (d' ≡ distances_output f ceiling d workRoom)

  -- refused with the first reason that holds: the output is as before
  pub distances_refused : (n : ℕ) → first_broken (distance_reasons f ceiling (length d) workRoom) ≡ some n
      → DistancesAre (refused n) d
  distances_refused n e =
      let t : Option (List ℕ) = some (distance_table (graph_of f 0) ceiling) in
      let is = call_broken (distance_reasons f ceiling (length d) workRoom) (states f) t n e in
      (sym is.outcome_is, sym (call_answer d is))

  -- not refused: the number of states, and the entries of all states from entry 0 on
  pub distances_written : first_broken (distance_reasons f ceiling (length d) workRoom) ≡ none
      → (n : ℕ) → n ≡ states f → (d' : List ℕ) → d' ≡ written (some (distance_table (graph_of f 0) ceiling)) d
      → DistancesAre (answered n) d'
  distances_written e n q d' all =
      let t : Option (List ℕ) = some (distance_table (graph_of f 0) ceiling) in
      let is = call_kept (distance_reasons f ceiling (length d) workRoom) (states f) n t t e (sym q) refl in
      (sym is.outcome_is, all ∙ sym (call_answer d is))

-- equal outcomes of a distance call are of equal results
pub distances_lose_nothing : DistancesLoseNothing
distances_lose_nothing = result_loses_nothing (λ (entries : ℕ). entries) (λ a b e. e)
