-- The program's tables suffice for every file, and its ceiling is not too high: 12, 21, 14 and 15 never hold.
use Prim.Native.Nat.{ℕ, ◌*◌, ◌≤◌}
use mathlib.Core.Path.{◌≡◌, refl, sym, ◌∙◌, ap}
use mathlib.Core.List.{List, ◌∷◌, head?}
use mathlib.Core.Option.{Option, some, none}
use native.Mathlib.Omega.{arith}
use Rattle.lasso.specs.Roll.{least_length}
use Rattle.lasso.proofs.RollLaws.{least_length_range, roll_empty}
use Rattle.numbers.specs.Limits.{answer_entries, work_entries}
use Rattle.text.specs.Decimal.{decimal}
use Rattle.format.specs.Layout.{states}
use Rattle.model.specs.Model.{graph_of}
use Rattle.format.specs.Rules.{rules, first_broken, Accepted}
use Rattle.model.proofs.Laws.{accepted_facts}
use Rattle.gate.specs.Gate.{named_rules, ceiling_reason}
use Rattle.outcomes.specs.Tables.{list_reasons}
use Rattle.search.specs.Search.{searched, first_due}
use Rattle.search.proofs.SearchLaws.{search_none, search_found, roll_first}
use Rattle.format.proofs.Reasons.{broken_append, broken_number}
use Rattle.gate.proofs.GateLaws.{common_refused}
use Rattle.sheet_text.specs.SheetText.{sheet_ask}
use Rattle.outcomes.proofs.OutcomeLaws.{answered_none}
use Rattle.sheet_text.proofs.SheetLaws.{enough_rounds, whole_roll}
use Rattle.desk.specs.Desk.{input_refusal}
use Rattle.desk.specs.Sizes.{OnlyTheFileRefuses, RefusedUpToEleven, EmptyRefused}

module _ (f : List ℕ) (accepted : Accepted f) where
  -- the working table has six entries a state
  work_enough : 6 * states f ≤ work_entries
  work_enough = let facts = accepted_facts f accepted in omega (arith, facts.states_range)

  -- an accepted file is not refused
  accepted_kept : input_refusal f ≡ none
  accepted_kept = go (least_length (graph_of f 0)) refl
    where
      go : (o : Option ℕ) → least_length (graph_of f 0) ≡ o → input_refusal f ≡ none
      go none e =
          let none_left = whole_roll f accepted answer_entries work_entries work_enough ∙ (roll_empty (graph_of f 0)).1 e in
          let is = search_none f accepted sheet_ask answer_entries work_entries work_enough (omega arith) (omega arith) (enough_rounds f accepted answer_entries work_entries work_enough) none_left in
          answered_none (input_refusal f) (searched (graph_of f 0) sheet_ask) _ is.outcome_is
      go (some l) e =
          let facts = accepted_facts f accepted in
          let (xs, first, long) = roll_first (graph_of f 0) l e in
          let is = search_found f accepted sheet_ask answer_entries work_entries work_enough (omega arith) (omega arith) (enough_rounds f accepted answer_entries work_entries work_enough) xs
          (ap (λ (rs : List (List ℕ)). head? rs) (whole_roll f accepted answer_entries work_entries work_enough) ∙ first)
          (omega (arith, least_length_range (graph_of f 0) l e, facts.states_range)) in
          answered_none (input_refusal f) (searched (graph_of f 0) sheet_ask) _ is.outcome_is

-- a refused file is refused with its own number
input_refused : (f : List ℕ) (n : ℕ) → first_broken (rules f) ≡ some n → input_refusal f ≡ some n
input_refused f n e =
    broken_append (named_rules f 0 work_entries) (ceiling_reason sheet_ask.ceiling.0 ∷ list_reasons (graph_of f 0) (first_due (graph_of f 0) sheet_ask) answer_entries) n (common_refused f work_entries n e)

-- an input is refused exactly as its file is
pub only_the_file_refuses : OnlyTheFileRefuses
only_the_file_refuses f = go (first_broken (rules f)) refl
  where
    go : (o : Option ℕ) → first_broken (rules f) ≡ o → input_refusal f ≡ first_broken (rules f)
    go none e = accepted_kept f e ∙ sym e
    go (some n) e = input_refused f n e ∙ sym e

-- only 1 to 11 are printed after `refused`
pub refused_up_to_eleven : RefusedUpToEleven
refused_up_to_eleven f n e =
    broken_number (λ k. (1 ≤ k) × (k ≤ 11)) (rules f) (omega arith) n (sym (only_the_file_refuses f) ∙ e)

-- the empty input is refused with 1
pub empty_refused : EmptyRefused
unfolding decimal
empty_refused = refl
