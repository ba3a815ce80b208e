-- The book of condition 3: it is fed the file and the calls' arguments, and keeps one number h.
use Rattle.std.specs.Prelude.{ℕ, suc, Bool, List, [], ◌∷◌, ◌++◌, length, get_or, eqb}
use Rattle.std.proofs.Math.Option.{Option, some, none}
use Rattle.lists.specs.Lists.{pick}
use Rattle.lasso.specs.Roll.{roll}
use Rattle.model.specs.Model.{graph_of}
use Rattle.format.specs.Rules.{first_broken}
use Rattle.outcomes.specs.Outcome.{outcome}
use Rattle.outcomes.specs.Tables.{written, unless_refused}
use Rattle.search.specs.Search.{Searched, stopped, none_within, graph_asked, search_reasons, searched, first_due}
use Rattle.next.specs.Next.{due_reasons, followed}
use Rattle.gate.specs.Gate.{named_rules, work_of}
use Rattle.sequence.specs.Calls.{Call, search, next, of_search, of_next, Result}

-- what the book gives for a call: the result, and h afterwards
pub record Page : Type 0 where
  pub result : Result
  pub after : ℕ

-- no list of the roll is left: h is their number
abbrev pub nothing_left : List (List ℕ) → ℕ → Bool
nothing_left rs h = eqb h (length rs)

-- the list that a next gets in the book: none if none is left, otherwise the one at place h
abbrev pub list_at : List (List ℕ) → ℕ → Option (List ℕ)
list_at rs h = pick (nothing_left rs h) none (some (get_or rs h []))

-- h after a search not refused: 1 if it found the roll's first list
abbrev pub after_search : ℕ → Searched → ℕ
after_search h (stopped r) = h
after_search h (none_within rounds) = h
after_search h (Searched.found l k rounds) = 1

-- h after a next not refused: one more if it found a list
abbrev pub after_next : ℕ → Option (List ℕ) → ℕ
after_next h none = h
after_next h (some xs) = suc h

-- h the same if the call is refused
abbrev pub unless_refused_ℕ : Option ℕ → ℕ → ℕ → ℕ
unless_refused_ℕ none h h' = h'
unless_refused_ℕ (some n) h h' = h

-- the book's page for a call, by the mark table that it names: refused with the first reason in checking order; or for a search
-- "stopped", "none within the ceiling" (when: `BookOfCeilings`) or "found" with the roll's first list; or for a next, which
-- takes no ceiling, "no more" if h is the number of lists in the roll, else "found" with the list at place h
abbrev pub page : List ℕ → ℕ → Call → Page
page f h (search ask a w) =
    let first : Option ℕ = first_broken (search_reasons f ask (length a) (length w)) in
    record {
      result = record {
        answer = of_search (outcome first (searched (graph_asked f ask) ask));
        table = written (unless_refused first (first_due (graph_asked f ask) ask)) a;
        work = work_of f ask.table w;
      };
      after = unless_refused_ℕ first h (after_search h (searched (graph_asked f ask) ask));
    }
page f h (next t earlier a w) =
    let list : Option (List ℕ) = list_at (roll (graph_of f t)) h in
    let first : Option ℕ = first_broken (named_rules f t (length w) ++ due_reasons (graph_of f t) earlier list (length a)) in
    record {
      result = record {
        answer = of_next (outcome first (followed list));
        table = written (unless_refused first list) a;
        work = work_of f t w;
      };
      after = unless_refused_ℕ first h (after_next h list);
    }

-- the book's results for a sequence of calls, from h on
abbrev pub book_results : List ℕ → ℕ → List Call → List Result
book_results f h [] = []
book_results f h (c ∷ cs) = (page f h c).result ∷ book_results f (page f h c).after cs

-- h after a sequence of calls
abbrev pub book_end : List ℕ → ℕ → List Call → ℕ
book_end f h [] = h
book_end f h (c ∷ cs) = book_end f (page f h c).after cs
