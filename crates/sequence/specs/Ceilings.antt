-- What the book says of a search under a ceiling.
use Rattle.std.specs.Prelude.{ℕ, ◌≤◌, ◌≡◌, ◌↔◌, length}
use mathlib.Core.List.{List, head?}
use Rattle.std.proofs.Math.Option.{some, none}
use Rattle.lasso.specs.Graph.{Graph, edges, loop_start}
use Rattle.lasso.specs.Roll.{roll}
use Rattle.lasso.specs.Rounds.{candidates}
use Rattle.lasso.specs.Ceiling.{RollAbove}
use Rattle.format.specs.Rules.{first_broken}
use Rattle.gate.specs.declared.Ask.{Ask}
use Rattle.outcomes.specs.Outcome.{answered}
use Rattle.outcomes.specs.Tables.{written}
use Rattle.search.specs.Search.{Searched, none_within, graph_asked, search_reasons}
use Rattle.sequence.specs.Calls.{search, of_search}
use Rattle.sequence.specs.Book.{Page, page}

-- the book's page for a search, which says "none within the ceiling": h is the same and nothing is written
pub record NoneOnPage (g : Graph) (a : List ℕ) (h : ℕ) (p : Page) : Type 0 where
  pub answer_is : p.result.answer ≡ of_search (answered (none_within (length (candidates g))))
  pub table_is : p.result.table ≡ a
  pub h_same : p.after ≡ h

-- which says "found": with the roll's first list, and h becomes 1
pub record FoundOnPage (g : Graph) (a : List ℕ) (p : Page) : Type 0 where
  pub list : List ℕ
  pub first : head? (roll g) ≡ some list
  pub answer_is : p.result.answer
      ≡ of_search (answered (Searched.found (edges list) (loop_start list) (length (candidates g))))
  pub table_is : p.result.table ≡ written (some list) a
  pub h_one : p.after ≡ 1

-- A search neither refused nor stopped: "none within the ceiling", h the same, exactly if the roll is empty or its lists are
-- longer than the ceiling; otherwise "found".
pub record BookSearches (g : Graph) (ceiling : ℕ) (a : List ℕ) (h : ℕ) (p : Page) : Type 0 where
  pub none_exactly : NoneOnPage g a h p ↔ RollAbove g ceiling
  pub otherwise_found : FoundOnPage g a p ↔ (RollAbove g ceiling → ⊥)

-- so it is with every search for which no reason holds and whose allowance is not below the number of candidates, by the
-- marks of the table that it names
abbrev pub BookOfCeilings : Type 0
BookOfCeilings =
    (f : List ℕ) (h : ℕ) (ask : Ask) (a w : List ℕ)
    → first_broken (search_reasons f ask (length a) (length w)) ≡ none
    → length (candidates (graph_asked f ask)) ≤ ask.allowance
    → BookSearches (graph_asked f ask) ask.ceiling.0 a h (page f h (search ask a w))
