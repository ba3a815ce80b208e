-- Laws of one call: its numbers in the log, the entries that it brings and the room that they have.
use Prim.Native.Nat.{ℕ, suc, ◌+◌, ◌≤◌}
use mathlib.Core.Path.{◌≡◌, refl, ◌∙◌, ap, subst}
use mathlib.Core.Bool.{Bool, true, false}
use mathlib.Core.List.Memᴰ
use mathlib.Core.List.{List, [], ◌∷◌, ◌++◌, head?, Memᴰ}
use mathlib.Core.Option.{Option, some, none}
use native.Mathlib.Omega.{arith}
use borrow.Author.Tests.{ltb-false}
use lib.ListN.{length, take, drop}
use Rattle.gate.specs.declared.Ask.{Ask}
use Rattle.lists.specs.Lists.{pick, some_if}
use Rattle.lasso.specs.Graph.{Graph, edges}
use Rattle.lasso.specs.Roll.{least_length, roll, roll_within}
use Rattle.lasso.specs.Rounds.{Record, candidates, after_rounds}
use Rattle.lasso.specs.Following.{following}
use Rattle.lasso.proofs.OrderLaws.{following_mem}
use Rattle.lasso.proofs.RollLaws.{roll_empty, roll_lasso}
use Rattle.lasso.proofs.CeilingLaws.{within_roll}
use Rattle.model.specs.Model.{graph_of}
use Rattle.format.specs.Rules.{Reason, first_broken}
use Rattle.outcomes.specs.Outcome.{answered, outcome}
use Rattle.outcomes.specs.Tables.{too_long, no_room, list_reasons}
use Rattle.search.specs.Search.{stopped, stopsb, first_of, searched, first_due, graph_asked, search_reasons, search_outcome}
use Rattle.next.specs.Next.{not_shortest, followed, due_reasons, next_reasons, next_outcome}
use Rattle.gate.specs.Gate.{named_rules, high_ceiling, ceiling_reason}
use Rattle.figures.specs.Kinds.{figures_in}
use Rattle.sequence.specs.Calls.{Call, search, next, Answer, of_search, of_next, answer_lent, finder_at, found_length}
use Rattle.script_call.specs.Log.{report_of, report_row, call_row, entries_of, Made}

-- so many entries have room in an answer table, and in a copy of 4,097 entries
abbrev Fits : ℕ → ℕ → Type 0
Fits n answerRoom = (n ≤ answerRoom) × (n ≤ 4097)

-- if no reason holds, neither the first does nor one after it
none_holds : (b : Bool) (n : ℕ) (o : Option ℕ) → some_if b n o ≡ none → (b ≡ false) × (o ≡ none)
none_holds true n o e = let z : ◌≡◌ {A = ℕ} 0 1 = cc in absurd (omega arith)
none_holds false n o e = (refl, e)

-- if no reason of two tables holds, none of the second does
clear_behind : (rs ss : List Reason) → first_broken (rs ++ ss) ≡ none → first_broken ss ≡ none
clear_behind [] ss e = e
clear_behind (r ∷ rs) ss e = clear_behind rs ss (none_holds r.holds r.number (first_broken (rs ++ ss)) e).1

-- a list of the roll for which neither 14 nor 15 holds has room
due_fits : (g : Graph) (xs : List ℕ) (answerRoom : ℕ) → first_broken (list_reasons g (some xs) answerRoom) ≡ none → Memᴰ xs (roll g)
    → Fits (suc (edges xs)) answerRoom
due_fits g xs answerRoom clear m = go (least_length g) refl
  where
    reasons : (too_long (least_length g) ≡ false) × (no_room (some (edges xs)) answerRoom ≡ false)
    reasons =
        let b : Bool = no_room (some (edges xs)) answerRoom in
        let (short, rest) = none_holds (too_long (least_length g)) 14 (some_if b 15 none) clear in
        (short, (none_holds b 15 none rest).0)

    go : (o : Option ℕ) → least_length g ≡ o → Fits (suc (edges xs)) answerRoom
    go none e = absurd (Memᴰ.not-nil (subst (λ (rs : List (List ℕ)). Memᴰ xs rs) ((roll_empty g).1 e) m))
    go (some l) e =
        let short : too_long (some l) ≡ false = subst (λ (o : Option ℕ). too_long o ≡ false) e reasons.0 in
        let room : edges xs + 1 ≤ answerRoom = ltb-false answerRoom (edges xs + 1) reasons.1 in
        let small : l ≤ 4096 = ltb-false 4096 l short in
        let long : edges xs ≡ l = (roll_lasso g l e xs m).1 in
        (omega arith, omega arith)

-- the first of the lists has room, if it is what a search brings
searched_fits : (rs : List (List ℕ)) (stops : Bool) (rec : Record) (rounds answerRoom : ℕ)
    → ((xs : List ℕ) → pick stops none (head? rs) ≡ some xs → Memᴰ xs rs → Fits (suc (edges xs)) answerRoom)
    → Fits (entries_of (found_length (of_search (answered (pick stops (stopped rec) (first_of rs rounds)))))) answerRoom
searched_fits rs true rec rounds answerRoom h = (omega arith, omega arith)
searched_fits [] false rec rounds answerRoom h = (omega arith, omega arith)
searched_fits (xs ∷ rs) false rec rounds answerRoom h = h xs refl (Memᴰ.head refl)

-- the list that a search brings has room
search_fits : (f : List ℕ) (ask : Ask) (answerRoom workRoom : ℕ)
    → Fits (entries_of (found_length (of_search (search_outcome f ask answerRoom workRoom)))) answerRoom
search_fits f ask answerRoom workRoom = go (first_broken (search_reasons f ask answerRoom workRoom)) refl
  where
    go : (o : Option ℕ) → first_broken (search_reasons f ask answerRoom workRoom) ≡ o
        → Fits (entries_of (found_length (of_search (outcome o (searched (graph_asked f ask) ask))))) answerRoom
    go (some n) e = (omega arith, omega arith)
    go none e =
        let g : Graph = graph_asked f ask in
        let c : ℕ = ask.ceiling.0 in
        let behind : first_broken (ceiling_reason c ∷ list_reasons g (first_due g ask) answerRoom) ≡ none
        = clear_behind (named_rules f ask.table workRoom) (ceiling_reason c ∷ list_reasons g (first_due g ask) answerRoom) e in
        let clear : first_broken (list_reasons g (first_due g ask) answerRoom) ≡ none
        = (none_holds (high_ceiling c) 21 (first_broken (list_reasons g (first_due g ask) answerRoom)) behind).1 in
        searched_fits (roll_within g c) (stopsb g ask.allowance) (after_rounds g c ask.allowance) (length (candidates g))
        answerRoom
        (λ xs q m.
        due_fits g xs answerRoom (subst (λ (due : Option (List ℕ)). first_broken (list_reasons g due answerRoom) ≡ none) q clear)
        (within_roll g c xs m))

-- the list that a next brings has room
next_fits : (f : List ℕ) (t : ℕ) (earlier : List ℕ) (answerRoom workRoom : ℕ)
    → Fits (entries_of (found_length (of_next (next_outcome f t earlier answerRoom workRoom)))) answerRoom
next_fits f t earlier answerRoom workRoom = go (first_broken (next_reasons f t earlier answerRoom workRoom)) refl
  where
    g : Graph
    g = graph_of f t

    clear : (due : Option (List ℕ)) → first_broken (named_rules f t workRoom ++ due_reasons g earlier due answerRoom) ≡ none
        → first_broken (list_reasons g due answerRoom) ≡ none
    clear due e =
        (none_holds (not_shortest g earlier) 13 (first_broken (list_reasons g due answerRoom))
        (clear_behind (named_rules f t workRoom) (due_reasons g earlier due answerRoom) e)
        ).1

    due_is : (due : Option (List ℕ)) → following earlier (roll g) ≡ due → first_broken (list_reasons g due answerRoom) ≡ none
        → Fits (entries_of (found_length (of_next (answered (followed due))))) answerRoom
    due_is none q e = (omega arith, omega arith)
    due_is (some xs) q e = due_fits g xs answerRoom e (following_mem earlier (roll g) xs q)

    go : (o : Option ℕ) → first_broken (next_reasons f t earlier answerRoom workRoom) ≡ o
        → Fits (entries_of (found_length (of_next (outcome o (followed (following earlier (roll g))))))) answerRoom
    go (some n) e = (omega arith, omega arith)
    go none e = due_is (following earlier (roll g)) refl (clear (following earlier (roll g)) e)

-- the list that a call brings has room
call_fits : (f : List ℕ) (c : Call) → Fits (entries_of (found_length (finder_at f c).answer)) (length (answer_lent c))
call_fits f (search ask a w) = search_fits f ask (length a) (length w)
call_fits f (next t earlier a w) = next_fits f t earlier (length a) (length w)

-- a call is made: its answer is the finder's, its numbers are in the log
pub call_made : (f : List ℕ) (c : Call) (place : ℕ) {log a' w' log' : List ℕ} {got : ℕ} (answer : Answer) {kind : ℕ} {figures : List ℕ}
    → answer ≡ (finder_at f c).answer → a' ≡ (finder_at f c).table → w' ≡ (finder_at f c).work → length a' ≡ length (answer_lent c)
    → kind ≡ (report_of answer).kind → figures ≡ figures_in (0 ∷ 0 ∷ 0 ∷ []) (report_of answer)
    → log' ≡ take place log ++ (kind ∷ figures) ++ drop (place + 4) log → got ≡ entries_of (found_length answer)
    → Made f c place log a' w' log' got
call_made f c place {log} {a'} {w'} {log'} {got} answer {kind} {figures} e at_a at-w same at-kind at-figures at-log at-got =
    let line : (kind ∷ figures) ≡ report_row (report_of answer) = cc in
    let row_is : (kind ∷ figures) ≡ call_row (finder_at f c) = line ∙ ap (λ (x : Answer). report_row (report_of x)) e in
    let got-is : got ≡ entries_of (found_length (finder_at f c).answer) = at-got ∙ ap (λ (x : Answer). entries_of (found_length x)) e in
    let (in_table, small) = call_fits f c in
    record {
      answer = at_a;
      work = at-w;
      log_row = at-log ∙ ap (λ (r : List ℕ). take place log ++ r ++ drop (place + 4) log) row_is;
      entries = got-is;
      in_answer = omega arith;
      in_copy = omega arith;
    }

-- a call told otherwise
pub made_as : {f : List ℕ} {c c' : Call} {place : ℕ} {log a' w' log' : List ℕ} {got : ℕ} → c ≡ c' → Made f c place log a' w' log' got
    → Made f c' place log a' w' log' got
made_as {f} {place = place} {log} {a'} {w'} {log'} {got} e m = subst (λ (x : Call). Made f x place log a' w' log' got) e m
