-- What a search on an accepted file with room in the working table answers and writes, case by case; and that its outcome
-- loses nothing.
use Prim.Native.Nat.{ℕ, suc, ◌+◌, ◌*◌, ◌≤◌, ◌<◌}
use mathlib.Core.Path.{◌≡◌, refl, sym, ◌∙◌, ap, subst}
use mathlib.Core.Bool.{Bool, true, false}
use mathlib.Core.List.{List, [], ◌∷◌, ◌++◌, head?, Memᴰ}
use mathlib.Core.Option.{Option, some, none}
use native.Mathlib.Omega.{arith}
use borrow.Author.Tests.{lt-ltb, le-ltb}
use lib.ListN.{length, take, drop}
use lib.Seq.{length-take-le}
use Rattle.lists.specs.Lists.{pick, some_if}
use Rattle.lasso.specs.Graph.{Graph, edges, loop_start}
use Rattle.lasso.specs.Roll.{least_length, roll, roll_within}
use Rattle.lasso.specs.Rounds.{Record, candidates, after_rounds}
use Rattle.lasso.proofs.RollLaws.{roll_empty, roll-length}
use Rattle.lasso.proofs.CeilingLaws.{roll_within_lem}
use Rattle.gate.specs.declared.Ask.{Ask}
use Rattle.model.specs.Model.{graph_of}
use Rattle.format.specs.Layout.{states, start_of}
use Rattle.format.specs.Rules.{first_broken, Accepted}
use Rattle.outcomes.specs.Outcome.{Outcome, refused, answered}
use Rattle.outcomes.specs.Tables.{no_room, length_due, list_reasons}
use Rattle.outcomes.proofs.OutcomeLaws.{CallIs, call_answer, call_broken, call_kept, never_too_long}
use Rattle.outcomes.proofs.ReadBack.{transitions, read_record, read_record_record_of, loses_nothing, result_loses_nothing}
use Rattle.gate.specs.Gate.{named_rules, ceiling_reason}
use Rattle.format.proofs.Reasons.{broken_append}
use Rattle.gate.proofs.GateLaws.{common_clear, named_one, ceiling_high, ceiling_low}
use Rattle.search.specs.declared.SearchAnswer.{SearchAnswer}
use Rattle.search.specs.declared.SearchAnswer.TheVariants as SearchAnswers
use Rattle.search.specs.Search.{Searched, stopped, none_within, searched_of, SearchLosesNothing, stopsb, first_of, searched, first_due, graph_asked, search_reasons, search_outcome, search_answer, WithEnough}

-- a search's outcome, and the list that it writes
abbrev pub SearchIs : List ℕ → Ask → ℕ → ℕ → Outcome Searched → Option (List ℕ) → Type 0
SearchIs f ask answerRoom workRoom o due =
    CallIs (search_reasons f ask answerRoom workRoom) (searched (graph_asked f ask) ask) (first_due (graph_asked f ask) ask) o due

-- a search for which a reason holds is refused with the first, and writes nothing
search_broken : (f : List ℕ) (ask : Ask) (answerRoom workRoom n : ℕ) → first_broken (search_reasons f ask answerRoom workRoom) ≡ some n
    → SearchIs f ask answerRoom workRoom (refused n) none
search_broken f ask answerRoom workRoom n e =
    call_broken (search_reasons f ask answerRoom workRoom) (searched (graph_asked f ask) ask) (first_due (graph_asked f ask) ask) n e

-- a search for which none holds: what it answers, and the list due
search_kept : (f : List ℕ) (ask : Ask) (answerRoom workRoom : ℕ) (s : Searched) (due : Option (List ℕ))
    → first_broken (search_reasons f ask answerRoom workRoom) ≡ none → searched (graph_asked f ask) ask ≡ s
    → first_due (graph_asked f ask) ask ≡ due → SearchIs f ask answerRoom workRoom (answered s) due
search_kept f ask answerRoom workRoom s due e p q =
    call_kept (search_reasons f ask answerRoom workRoom) (searched (graph_asked f ask) ask) s (first_due (graph_asked f ask) ask) due e p q

-- refused with a reason of 22 and 1 to 12
pub search_refused : (f : List ℕ) (ask : Ask) (answerRoom workRoom n : ℕ) → first_broken (named_rules f ask.table workRoom) ≡ some n
    → SearchIs f ask answerRoom workRoom (refused n) none
search_refused f ask answerRoom workRoom n e =
    search_broken f ask answerRoom workRoom n (broken_append (named_rules f ask.table workRoom) (ceiling_reason ask.ceiling.0 ∷ list_reasons (graph_asked f ask) (first_due (graph_asked f ask) ask) answerRoom) n e)

-- refused with 21
pub search_too_high : (f : List ℕ) (ask : Ask) (answerRoom workRoom : ℕ) → first_broken (named_rules f ask.table workRoom) ≡ none → 4096 < ask.ceiling.0
    → SearchIs f ask answerRoom workRoom (refused 21) none
search_too_high f ask answerRoom workRoom e high =
    search_broken f ask answerRoom workRoom 21 (ceiling_high (named_rules f ask.table workRoom) ask.ceiling.0 (list_reasons (graph_asked f ask) (first_due (graph_asked f ask) ask) answerRoom) e high)

-- the first of a list of lists decides between found and none
first_of-head : (rs : List (List ℕ)) (xs : List ℕ) (rounds : ℕ) → head? rs ≡ some xs
    → first_of rs rounds ≡ Searched.found (edges xs) (loop_start xs) rounds
first_of-head [] xs rounds e = let z : ◌≡◌ {A = ℕ} 0 1 = cc in absurd (omega arith)
first_of-head (r ∷ rs) xs rounds e =
    let q : r ≡ xs = cc in ap (λ (zs : List ℕ). Searched.found (edges zs) (loop_start zs) rounds) q

-- with a least length there is a first list, of that length
pub roll_first : (g : Graph) (l : ℕ) → least_length g ≡ some l → (xs : List ℕ) × (head? (roll g) ≡ some xs) × (length xs ≡ suc l)
roll_first g l e = go (roll g) refl
  where
    go : (rs : List (List ℕ)) → roll g ≡ rs → (xs : List ℕ) × (head? rs ≡ some xs) × (length xs ≡ suc l)
    go [] q = let n : least_length g ≡ none = (roll_empty g).0 q in let z : ◌≡◌ {A = ℕ} 0 1 = cc in absurd (omega arith)
    go (xs ∷ rs) q =
        (xs, refl, roll-length g l e xs (subst (λ (zs : List (List ℕ)). Memᴰ xs zs) (sym q) (Memᴰ.head refl)))

module _ (f : List ℕ) (accepted : Accepted f) (ask : Ask) (answerRoom workRoom : ℕ) (room : 6 * states f ≤ workRoom) (one : ask.table ≤ 1) (low : ask.ceiling.0 ≤ 4096) where
  -- the graph of the file, and its roll within the ceiling
  abbrev g : Graph
  g = graph_asked f ask

  abbrev rs : List (List ℕ)
  rs = roll_within g ask.ceiling.0

  -- only reason 15 is left to decide
  search_reasons_lem : first_broken (search_reasons f ask answerRoom workRoom) ≡ some_if (no_room (length_due (first_due g ask)) answerRoom) 15 none
  search_reasons_lem =
      ceiling_low (named_rules f ask.table workRoom) ask.ceiling.0 (list_reasons g (first_due g ask) answerRoom)
      (named_one f ask.table workRoom one ∙ common_clear f workRoom accepted room) low
      ∙ ap (λ (b : Bool). some_if b 14 (some_if (no_room (length_due (first_due g ask)) answerRoom) 15 none)) (never_too_long f ask.table accepted)

  -- the list due has room or not
  search_due : (due : Option (List ℕ)) (b : Bool) → first_due g ask ≡ due → no_room (length_due due) answerRoom ≡ b
      → first_broken (search_reasons f ask answerRoom workRoom) ≡ some_if b 15 none
  search_due due b q e =
      search_reasons_lem
      ∙ ap (λ (d : Option (List ℕ)). some_if (no_room (length_due d) answerRoom) 15 none) q
      ∙ ap (λ (x : Bool). some_if x 15 none) e

  -- the allowance is less than the number of candidates: stopped with the record after that many rounds
  pub search_stopped : ask.allowance < length (candidates g)
      → SearchIs f ask answerRoom workRoom (answered (stopped (after_rounds g ask.ceiling.0 ask.allowance))) none
  search_stopped less =
      let rec : Record = after_rounds g ask.ceiling.0 ask.allowance in
      let stops : stopsb g ask.allowance ≡ true = lt-ltb ask.allowance (length (candidates g)) less in
      let due : first_due g ask ≡ none = ap (λ (b : Bool). pick b none (head? rs)) stops in
      search_kept f ask answerRoom workRoom (stopped rec) none (search_due none false due refl)
      (ap (λ (b : Bool). pick b (stopped rec) (first_of rs (length (candidates g)))) stops) due

  -- the allowance suffices: the first of the roll within the ceiling decides
  pub search_goes_on : length (candidates g) ≤ ask.allowance
      → (searched g ask ≡ first_of rs (length (candidates g))) × (first_due g ask ≡ head? rs)
  search_goes_on enough =
      let rec : Record = after_rounds g ask.ceiling.0 ask.allowance in
      let goes : stopsb g ask.allowance ≡ false = le-ltb ask.allowance (length (candidates g)) enough in (
        ap (λ (b : Bool). pick b (stopped rec) (first_of rs (length (candidates g)))) goes,
        ap (λ (b : Bool). pick b none (head? rs)) goes,
      )

  -- no accepting path is within the ceiling: none, with the number of candidates
  pub search_none : length (candidates g) ≤ ask.allowance → rs ≡ []
      → SearchIs f ask answerRoom workRoom (answered (none_within (length (candidates g)))) none
  search_none enough no-list =
      let (answers, due) = search_goes_on enough in
      let nothing : first_due g ask ≡ none = due ∙ ap (λ (zs : List (List ℕ)). head? zs) no-list in
      search_kept f ask answerRoom workRoom (none_within (length (candidates g))) none (search_due none false nothing refl)
      (answers ∙ ap (λ (zs : List (List ℕ)). first_of zs (length (candidates g))) no-list) nothing

  -- the first of the roll has room: found, with its figures
  pub search_found : length (candidates g) ≤ ask.allowance → (xs : List ℕ) → head? rs ≡ some xs → edges xs + 1 ≤ answerRoom
      → SearchIs f ask answerRoom workRoom (answered (Searched.found (edges xs) (loop_start xs) (length (candidates g)))) (some xs)
  search_found enough xs first fits =
      let (answers, due) = search_goes_on enough in
      search_kept f ask answerRoom workRoom (Searched.found (edges xs) (loop_start xs) (length (candidates g))) (some xs)
      (search_due (some xs) false (due ∙ first) (le-ltb answerRoom (edges xs + 1) fits))
      (answers ∙ first_of-head rs xs (length (candidates g)) first) (due ∙ first)

  -- it has no room: refused with 15
  pub search_no_room : length (candidates g) ≤ ask.allowance → (l : ℕ) → least_length g ≡ some l → l ≤ ask.ceiling.0 → answerRoom < l + 1
      → SearchIs f ask answerRoom workRoom (refused 15) none
  search_no_room enough l least within less =
      let (xs, first, long) = roll_first g l least in
      let first' : head? rs ≡ some xs = ap (λ (zs : List (List ℕ)). head? zs) (roll_within_lem g l ask.ceiling.0 least within) ∙ first in
      let (answers, due) = search_goes_on enough in
      search_broken f ask answerRoom workRoom 15
      (search_due (some xs) true (due ∙ first') (lt-ltb answerRoom (edges xs + 1) (omega arith)))

-- the first of the roll, which stands in region 0 after the start, was written to the answer table: what a search that asks
-- enough answers and writes
pub first_written : (f : List ℕ) (t : ℕ) → Accepted f → t ≤ 1 → (workRoom : ℕ) → 6 * states f ≤ workRoom → (a a' w : List ℕ) (s l k rounds : ℕ)
    → s ≡ start_of f → l ≤ length w → least_length (graph_of f t) ≡ some l
    → head? (roll (graph_of f t)) ≡ some (start_of f ∷ take l w) → l < length a
    → k ≡ loop_start (s ∷ take l w) → rounds ≡ length (candidates (graph_of f t)) → a' ≡ (s ∷ take l w) ++ drop (l + 1) a
    → WithEnough t rounds l (λ ask. (answered (Searched.found l k rounds) ≡ search_outcome f ask (length a) workRoom) × (a' ≡ search_answer f ask a workRoom))
first_written f t accepted one workRoom room a a' w s l k rounds at_start fits least first free at-k all out ask asks =
    let g : Graph = graph_asked f ask in
    let g-is : graph_of f t ≡ g = ap (graph_of f) (sym asks.named) in
    let rounds_are : rounds ≡ length (candidates g) = subst (λ (x : Graph). rounds ≡ length (candidates x)) g-is all in
    let xs : List ℕ = s ∷ take l w in
    let long : length (take l w) ≡ l = length-take-le l w fits in
    let at-l : l ≡ edges xs = omega arith in
    let first' : head? (roll_within g ask.ceiling.0) ≡ some xs =
    ap (λ (zs : List (List ℕ)). head? zs) (roll_within_lem g l ask.ceiling.0 (subst (λ (x : Graph). least_length x ≡ some l) g-is least) asks.within)
    ∙ subst (λ (x : Graph). head? (roll x) ≡ some (start_of f ∷ take l w)) g-is first
    ∙ ap (λ (x : ℕ). some (x ∷ take l w)) (sym at_start) in
    let found = search_found f accepted ask (length a) workRoom room (omega (arith, asks.named)) asks.not_high (omega (arith, asks.allowed)) xs first' (omega arith) in
    let figures : answered (Searched.found l k rounds) ≡ answered (Searched.found (edges xs) (loop_start xs) (length (candidates g))) = cc in
    let entries : l + 1 ≡ length xs = omega arith in (
      figures ∙ sym found.outcome_is,
      out ∙ ap (λ (n : ℕ). xs ++ drop n a) entries ∙ sym (call_answer a found),
    )

-- the answer of a search that says this
abbrev read_search : Searched → SearchAnswer
read_search (stopped r) = SearchAnswers.Stopped (read_record r)
read_search (Searched.found l k rounds) = SearchAnswers.Found (transitions l) k rounds
read_search (none_within rounds) = SearchAnswers.NoneWithin rounds

-- a search's answer is read off what it says
read_search_searched_of : (a : SearchAnswer) → read_search (searched_of a) ≡ a
read_search_searched_of (SearchAnswers.Stopped r) = ap SearchAnswers.Stopped (read_record_record_of r)
read_search_searched_of (SearchAnswers.Found l k rounds) = refl
read_search_searched_of (SearchAnswers.NoneWithin rounds) = refl

-- equal outcomes of a search are of equal results
pub search_loses_nothing : SearchLosesNothing
search_loses_nothing = result_loses_nothing searched_of (loses_nothing searched_of read_search read_search_searched_of)
