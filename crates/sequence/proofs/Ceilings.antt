-- What the book says of a search under a ceiling: the roll within the ceiling decides.
use Prim.Native.Nat.{ℕ, ◌≤◌}
use native.Mathlib.Omega.{arith}
use mathlib.Core.Path.{◌≡◌, refl, sym, ◌∙◌, ap, subst}
use mathlib.Core.Logic.{inl, inr}
use mathlib.Core.Bool.{Bool, false}
use mathlib.Core.List.{List, [], ◌∷◌, head?}
use mathlib.Core.Option.{Option, some, none}
use borrow.Author.Tests.{le-ltb}
use lib.ListN.{length}
use Rattle.lists.specs.Lists.{pick}
use Rattle.lasso.specs.Graph.{Graph}
use Rattle.lasso.specs.Roll.{roll, roll_within}
use Rattle.lasso.specs.Rounds.{candidates, after_rounds}
use Rattle.lasso.specs.Ceiling.{RollAbove, CeilingSays}
use Rattle.lasso.proofs.CeilingLaws.{whole_or_none, ceiling_shown}
use Rattle.format.specs.Rules.{Accepted, first_broken}
use Rattle.format.proofs.Reasons.{append_clear}
use Rattle.model.proofs.Laws.{accepted_well_formed}
use Rattle.gate.specs.declared.Ask.{Ask}
use Rattle.gate.specs.Gate.{named_rules, ceiling_reason, work_of}
use Rattle.gate.proofs.GateLaws.{clear_common, clear_named}
use Rattle.outcomes.specs.Outcome.{answered, outcome}
use Rattle.outcomes.specs.Tables.{list_reasons, written, unless_refused}
use Rattle.search.specs.Search.{Searched, stopped, none_within, stopsb, first_of, first_due, graph_asked, search_reasons}
use Rattle.sequence.specs.Calls.{search, of_search}
use Rattle.sequence.specs.Book.{Page, page, after_search, unless_refused_ℕ}
use Rattle.sequence.specs.Ceilings.{NoneOnPage, FoundOnPage, BookSearches, BookOfCeilings}

-- "none within the ceiling" and "found" are different answers
none_found : {n L k rounds : ℕ} → of_search (answered (none_within n)) ≡ of_search (answered (Searched.found L k rounds)) → ⊥
none_found e = let z : ◌≡◌ {A = ℕ} 0 1 = cc in omega arith

module _ (f : List ℕ) (h : ℕ) (ask : Ask) (a w : List ℕ) (clear : first_broken (search_reasons f ask (length a) (length w)) ≡ none) (enough : length (candidates (graph_asked f ask)) ≤ ask.allowance) where
  abbrev g : Graph
  g = graph_asked f ask

  abbrev n : ℕ
  n = length (candidates g)

  -- the page for the first reason, whether the search is stopped, and the lists within the ceiling
  abbrev page_of : Option ℕ → Bool → List (List ℕ) → Page
  page_of first stops rs =
      let answer : Searched = pick stops (stopped (after_rounds g ask.ceiling.0 ask.allowance)) (first_of rs n) in
      record {
        result = record { answer = of_search (outcome first answer); table = written (unless_refused first (pick stops none (head? rs))) a; work = work_of f ask.table w };
        after = unless_refused_ℕ first h (after_search h answer);
      }

  -- neither refused nor stopped: the lists within the ceiling decide
  page_is : (rs : List (List ℕ)) → roll_within g ask.ceiling.0 ≡ rs → page f h (search ask a w) ≡ page_of none false rs
  page_is rs e =
      ap (λ (o : Option ℕ). page_of o (stopsb g ask.allowance) (roll_within g ask.ceiling.0)) clear
      ∙ ap (λ (b : Bool). page_of none b (roll_within g ask.ceiling.0)) (le-ltb ask.allowance n enough)
      ∙ ap (page_of none false) e

  -- there is none: so it is on the page
  none_on_page : roll_within g ask.ceiling.0 ≡ [] → NoneOnPage g a h (page f h (search ask a w))
  none_on_page e =
      subst (NoneOnPage g a h) (sym (page_is [] e)) (record { answer_is = refl; table_is = refl; h_same = refl })

  -- there is a first one: so it is on the page
  found_on_page : (xs : List ℕ) (rest : List (List ℕ)) → roll_within g ask.ceiling.0 ≡ xs ∷ rest → FoundOnPage g a (page f h (search ask a w))
  found_on_page xs rest e =
      subst (FoundOnPage g a) (sym (page_is (xs ∷ rest) e))
      (record { list = xs; first = first; answer_is = refl; table_is = refl; h_one = refl })
    where
      first : head? (roll g) ≡ some xs
      first = elim (whole_or_none g ask.ceiling.0) [
        | inl q ↦ ap (λ (zs : List (List ℕ)). head? zs) (sym q ∙ e)
        | inr q ↦
            let z : ◌≡◌ {A = Option (List ℕ)} (some xs) none = ap (λ (zs : List (List ℕ)). head? zs) (sym e ∙ q) in
            let o : ◌≡◌ {A = ℕ} 0 1 = cc in absurd (omega arith)
      ]

  -- it is not both
  not_both : NoneOnPage g a h (page f h (search ask a w)) → FoundOnPage g a (page f h (search ask a w)) → ⊥
  not_both p q = none_found (sym p.answer_is ∙ q.answer_is)

  -- by the lists within the ceiling
  searches : CeilingSays g ask.ceiling.0 → (rs : List (List ℕ)) → roll_within g ask.ceiling.0 ≡ rs
      → BookSearches g ask.ceiling.0 a h (page f h (search ask a w))
  searches says [] e =
      let there : RollAbove g ask.ceiling.0 = says.empty_by_roll.0 e in
      record {
        none_exactly = (λ p. there, λ p. none_on_page e);
        otherwise_found = (λ p. absurd (not_both (none_on_page e) p), λ p. absurd (p there));
      }
  searches says (xs ∷ rest) e =
      let found = found_on_page xs rest e in
      record {
        none_exactly = (λ p. absurd (not_both p found), λ p. none_on_page (says.empty_by_roll.1 p));
        otherwise_found = (λ p q. not_both (none_on_page (says.empty_by_roll.1 q)) p, λ p. found);
      }

-- the book's page for every search neither refused nor stopped
pub book_of_ceilings : BookOfCeilings
book_of_ceilings f h ask a w clear enough =
    let g : Graph = graph_asked f ask in
    let named = append_clear (named_rules f ask.table (length w)) (ceiling_reason ask.ceiling.0 ∷ list_reasons g (first_due g ask) (length a)) clear in
    let accepted : Accepted f = (clear_common f (length w) (clear_named f ask.table (length w) named).1).0 in
    searches f h ask a w clear enough (ceiling_shown g (accepted_well_formed f ask.table accepted) ask.ceiling.0) _ refl
