-- A ceiling of N or more changes nothing: no round and no list is cut, and 21 does not hold.
use Prim.Native.Nat.{ℕ, zero, suc, ◌≤◌, ◌<◌}
use mathlib.Core.Path.{◌≡◌, refl, sym, ◌∙◌, ap}
use mathlib.Core.Logic.{inl, inr}
use mathlib.Core.List.{List, [], ◌∷◌, ◌++◌, head?}
use mathlib.Core.Option.{Option, some, none}
use native.Mathlib.Omega.{arith}
use lib.ListN.{length, get_or}
use Rattle.lists.specs.Lists.{pick}
use Rattle.lasso.specs.Graph.{Graph, WellFormed}
use Rattle.lasso.specs.Roll.{roll, roll_within}
use Rattle.lasso.specs.Rounds.{Record, candidates, with_round, finishedb, after_round, after_rounds}
use Rattle.lists.proofs.Tests.{lt_or_ge}
use Rattle.lasso.proofs.RoundLaws.{candidate_at_state}
use Rattle.lasso.proofs.CeilingLaws.{roll_full, round_full}
use Rattle.format.specs.Rules.{Reason, first_broken, Accepted}
use Rattle.format.proofs.Reasons.{broken_append, clear_append}
use Rattle.model.specs.Model.{graph_of}
use Rattle.model.proofs.Laws.{accepted_facts, accepted_well_formed}
use Rattle.gate.specs.declared.Ask.{Ask}
use Rattle.gate.specs.Gate.{named_rules, ceiling_reason}
use Rattle.gate.proofs.GateLaws.{clear_common, clear_named, ceiling_low}
use Rattle.outcomes.specs.Outcome.{outcome}
use Rattle.outcomes.specs.Tables.{list_reasons, unless_refused, written}
use Rattle.step.specs.Step.{Stepped, finished, advanced, stepped, step_reasons}
use Rattle.search.specs.Search.{Searched, stopped, stopsb, first_of, searched, first_due, graph_asked, search_reasons}
use Rattle.conditions.specs.FullCeiling.{whole_round, whole_rounds, whole_searched, whole_due, Full, SameAsWithout}

-- past the last entry stands what is given for none
get_d_past : (xs : List ℕ) (i d : ℕ) → length xs ≤ i → get_or xs i d ≡ d
get_d_past [] i d h = refl
get_d_past (x ∷ xs) zero d h = absurd (omega arith)
get_d_past (x ∷ xs) (suc i) d h = get_d_past xs i d (omega arith)

module _ {g : Graph} (wf : WellFormed g) (ceiling : ℕ) (full : g.size ≤ ceiling) where
  -- the candidate at a place, or 0 if there is none, is a state
  candidate_state : (place : ℕ) → get_or (candidates g) place 0 < g.size
  candidate_state place = elim (lt_or_ge place (length (candidates g))) [
    | inl low ↦ candidate_at_state g place low
    | inr past ↦ omega (arith, get_d_past (candidates g) place 0 past, wf.start_state)
  ]

  -- a round has the length that it has without a ceiling
  round_same : (rec : Record) → after_round g ceiling rec ≡ whole_round g rec
  round_same rec = ap (λ (o : Option ℕ). with_round rec o) (round_full wf ceiling _ full (candidate_state rec.done))

  -- and so have the rounds of a search
  rounds_same : (n : ℕ) → after_rounds g ceiling n ≡ whole_rounds g n
  rounds_same zero = refl
  rounds_same (suc n) = ap (after_round g ceiling) (rounds_same n) ∙ round_same (whole_rounds g n)

-- what two calls make of their first reasons is the same, if a refusal makes the same of both, and otherwise the reasons
-- after the common ones and what is due are the same
same_call : {A B : Type 0} (F : Option ℕ → A → B) (x x' : A) → ((n : ℕ) → F (some n) x ≡ F (some n) x')
    → (common rest rest' : List Reason)
    → (first_broken common ≡ none → (first_broken (common ++ rest) ≡ first_broken rest') × (x ≡ x'))
    → F (first_broken (common ++ rest)) x ≡ F (first_broken (common ++ rest')) x'
same_call {A} {B} F x x' refuses common rest rest' otherwise = go (first_broken common) refl
  where
    go : (o : Option ℕ) → first_broken common ≡ o → F (first_broken (common ++ rest)) x ≡ F (first_broken (common ++ rest')) x'
    go (some n) e =
        ap (λ (p : Option ℕ). F p x) (broken_append common rest n e)
        ∙ refuses n
        ∙ sym (ap (λ (p : Option ℕ). F p x') (broken_append common rest' n e))
    go none e =
        let (first, due) = otherwise e in
        ap (λ (p : Option ℕ). F p x) first
        ∙ ap (λ (y : A). F (first_broken rest') y) due
        ∙ sym (ap (λ (p : Option ℕ). F p x') (clear_append common rest' e))

module _ (f : List ℕ) (t ceiling : ℕ) (full : Full f ceiling) (workRoom : ℕ) (clear : first_broken (named_rules f t workRoom) ≡ none) where
  -- a file that 22 and 1 to 12 do not refuse is accepted
  accepted : Accepted f
  accepted = (clear_common f workRoom (clear_named f t workRoom clear).1).0

  wf : WellFormed (graph_of f t)
  wf = accepted_well_formed f t accepted

  -- so the ceiling covers its model
  covered : (graph_of f t).size ≤ ceiling
  covered = full.covers accepted

  -- a step answers the same
  stepped_same : (rec : Record)
      → stepped (graph_of f t) ceiling rec ≡ pick (finishedb (graph_of f t) rec) (finished rec) (advanced (whole_round (graph_of f t) rec))
  stepped_same rec =
      ap (λ (r : Record). pick (finishedb (graph_of f t) rec) (finished rec) (advanced r)) (round_same wf ceiling covered rec)

  -- the reasons of a step after the common ones do not hold
  step_reasons_lem : first_broken (step_reasons f t ceiling workRoom) ≡ first_broken []
  step_reasons_lem = ceiling_low (named_rules f t workRoom) ceiling [] clear full.low

module _ (f : List ℕ) (ask : Ask) (full : Full f ask.ceiling.0) (workRoom : ℕ) (clear : first_broken (named_rules f ask.table workRoom) ≡ none) where
  abbrev g : Graph
  g = graph_asked f ask

  roll_same : roll_within g ask.ceiling.0 ≡ roll g
  roll_same = roll_full g ask.ceiling.0 (covered f ask.table ask.ceiling.0 full workRoom clear)

  -- a search answers the same
  searched_same : searched g ask ≡ whole_searched g ask.allowance
  searched_same =
      ap (λ (r : Record). pick (stopsb g ask.allowance) (stopped r) (first_of (roll_within g ask.ceiling.0) (length (candidates g))))
      (rounds_same (wf f ask.table ask.ceiling.0 full workRoom clear) ask.ceiling.0 (covered f ask.table ask.ceiling.0 full workRoom clear) ask.allowance)
      ∙ ap (λ (rs : List (List ℕ)). pick (stopsb g ask.allowance) (stopped (whole_rounds g ask.allowance)) (first_of rs (length (candidates g)))) roll_same

  -- and the same list is due
  due_same : first_due g ask ≡ whole_due g ask.allowance
  due_same = ap (λ (rs : List (List ℕ)). pick (stopsb g ask.allowance) none (head? rs)) roll_same

  -- so the reasons after the common ones are the same
  search_reasons_lem : (answerRoom : ℕ) → first_broken (search_reasons f ask answerRoom workRoom) ≡ first_broken (list_reasons g (whole_due g ask.allowance) answerRoom)
  search_reasons_lem answerRoom =
      ceiling_low (named_rules f ask.table workRoom) ask.ceiling.0 (list_reasons g (first_due g ask) answerRoom) clear full.low
      ∙ ap (λ (due : Option (List ℕ)). first_broken (list_reasons g due answerRoom)) due_same

-- with a full ceiling all is as without one
pub same_as_without : SameAsWithout
same_as_without = record {
  step = λ f t ceiling rec workRoom full.
      same_call (λ (o : Option ℕ) (s : Stepped). outcome o s) _ _ (λ n. refl) (named_rules f t workRoom) (ceiling_reason ceiling ∷ []) []
      (λ clear. (step_reasons_lem f t ceiling full workRoom clear, stepped_same f t ceiling full workRoom clear rec));
  search = λ f ask answerRoom workRoom full.
      same_call (λ (o : Option ℕ) (s : Searched). outcome o s) _ _ (λ n. refl) (named_rules f ask.table workRoom)
      (ceiling_reason ask.ceiling.0 ∷ list_reasons (graph_asked f ask) (first_due (graph_asked f ask) ask) answerRoom) (list_reasons (graph_asked f ask) (whole_due (graph_asked f ask) ask.allowance) answerRoom)
      (λ clear. (search_reasons_lem f ask full workRoom clear answerRoom, searched_same f ask full workRoom clear));
  table = λ f ask a workRoom full.
      same_call (λ (o : Option ℕ) (due : Option (List ℕ)). written (unless_refused o due) a) _ _ (λ n. refl) (named_rules f ask.table workRoom)
      (ceiling_reason ask.ceiling.0 ∷ list_reasons (graph_asked f ask) (first_due (graph_asked f ask) ask) (length a)) (list_reasons (graph_asked f ask) (whole_due (graph_asked f ask) ask.allowance) (length a))
      (λ clear. (search_reasons_lem f ask full workRoom clear (length a), due_same f ask full workRoom clear));
  greatest = λ f. record { low = omega arith; covers = λ accepted. (accepted_facts f accepted).states_range.1 };
}
