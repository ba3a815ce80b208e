-- Condition 3: whatever the calls of a sequence on one accepted file, the finder's answers and tables are the book's, and
-- the lists received are the first h of the roll.
use Prim.Native.Nat.{ℕ, zero, suc, ◌≤◌, ◌<◌}
use native.Mathlib.Omega.{arith}
use mathlib.Core.Path.{◌≡◌, refl, sym, ◌∙◌, ap, subst}
use mathlib.Core.Logic.{◌⊎◌, inl, inr}
use mathlib.Core.Bool.{Bool, true, false}
use mathlib.Core.List.{List, [], ◌∷◌, ◌++◌, map, head?, Memᴰ}
use mathlib.Core.Option.{Option, some, none}
use lib.ListN.{length, take, get_elem?}
use lib.Dec.{T, ltb→lt}
use Rattle.lists.specs.Lists.{pick}
use Rattle.lists.proofs.ElemLaws.{get_elem_lt, get_elem_mem, take_get_elem}
use Rattle.lasso.specs.Graph.{Graph, edges}
use Rattle.lasso.specs.Roll.{roll, roll_within}
use Rattle.lasso.specs.Rounds.{Record, candidates, after_rounds}
use Rattle.lasso.specs.Following.{following}
use Rattle.lists.proofs.Sorted.{Sorted}
use Rattle.lasso.proofs.OrderLaws.{Before}
use Rattle.lasso.proofs.RollLaws.{roll_strict}
use Rattle.lasso.proofs.CeilingLaws.{whole_or_none}
use Rattle.model.specs.Model.{graph_of}
use Rattle.format.specs.Rules.{first_broken}
use Rattle.outcomes.specs.Outcome.{outcome}
use Rattle.outcomes.specs.Tables.{list_reasons, written, unless_refused}
use Rattle.search.specs.Search.{stopped, stopsb, first_of, searched, first_due, graph_asked, search_reasons}
use Rattle.next.specs.Next.{not_shortest, due_reasons, followed}
use Rattle.next.proofs.NextLaws.{thirteen_decides}
use Rattle.gate.specs.declared.Ask.{Ask}
use Rattle.gate.specs.Gate.{named_rules, ceiling_reason, work_of}
use Rattle.gate.proofs.GateLaws.{named_none}
use Rattle.sequence.specs.Calls.{Call, search, next, table_named, of_search, of_next, Result, finder_at, found_length, copy_of, received}
use Rattle.sequence.specs.Book.{list_at, page, after_search, after_next, unless_refused_ℕ, book_results, book_end}
use Rattle.sequence.specs.Claim.{last_received, Lent, ProperCall, Proper, add_received, lists_received, Condition3Holds}
use Rattle.sequence.proofs.Places.{list_at_get_elem, following_get_elem, roll_entries, within_entries, copy_written}
use Rattle.format.proofs.Reasons.{broken_append, clear_append}

-- the copy last received when h lists were: none, or the list at place h − 1
abbrev copy_at : List (List ℕ) → ℕ → Option (List ℕ)
copy_at rs zero = none
copy_at rs (suc i) = get_elem? rs i

-- Where a sequence stands between two calls: h lists of the roll were received since the last search that found one. They
-- are the first h, and the last of them is the copy.
record StandsBetween (rs : List (List ℕ)) (copy : Option (List ℕ)) (lists : List (List ℕ)) (h : ℕ) : Type 0 where
  at_copy : copy ≡ copy_at rs h
  at_lists : lists ≡ take h rs
  within : h ≤ length rs

-- where it stands after a call that brought the list given, or none
abbrev After : List (List ℕ) → Option (List ℕ) → List (List ℕ) → Call → Option (List ℕ) → ℕ → Type 0
After rs copy lists c list h = StandsBetween rs (last_received list copy) (add_received c list lists) h

-- what the lists of the roll are: one entry more than edges
abbrev EntriesCounted : List (List ℕ) → Type 0
EntriesCounted rs = (xs : List ℕ) → Memᴰ xs rs → suc (edges xs) ≡ length xs

-- the copy that a next brings is the list due, unless the call is refused
next_received : (rs : List (List ℕ)) → EntriesCounted rs → (h : ℕ) (first : Option ℕ) (a : List ℕ)
    → copy_of (found_length (of_next (outcome first (followed (get_elem? rs h))))) (written (unless_refused first (get_elem? rs h)) a)
    ≡ unless_refused first (get_elem? rs h)
next_received rs entries h (some n) a = refl
next_received rs entries h none a = go (get_elem? rs h) refl
  where
    go : (due : Option (List ℕ)) → get_elem? rs h ≡ due → copy_of (found_length (of_next (outcome none (followed due)))) (written due a) ≡ due
    go none e = refl
    go (some xs) e = ap (λ (zs : List ℕ). some zs) (copy_written xs a (entries xs (get_elem_mem rs h e)))

-- the copy that a search brings is the first list, unless it is refused or stopped
search_received : (rs : List (List ℕ)) → EntriesCounted rs → (first : Option ℕ) (stops : Bool) (rec : Record) (rounds : ℕ) (a : List ℕ)
    → copy_of (found_length (of_search (outcome first (pick stops (stopped rec) (first_of rs rounds)))))
    (written (unless_refused first (pick stops none (head? rs))) a)
    ≡ unless_refused first (pick stops none (head? rs))
search_received rs entries (some n) stops rec rounds a = refl
search_received rs entries none true rec rounds a = refl
search_received [] entries none false rec rounds a = refl
search_received (xs ∷ rs) entries none false rec rounds a =
    ap (λ (zs : List ℕ). some zs) (copy_written xs a (entries xs (Memᴰ.head refl)))

-- a search that is refused, stopped or finds none within the ceiling leaves all as it stands; one that finds the first list
-- begins anew
search_stands : (rs rs' : List (List ℕ)) → (rs' ≡ rs) ⊎ (rs' ≡ []) → {copy : Option (List ℕ)} {lists : List (List ℕ)} {h : ℕ}
    → StandsBetween rs copy lists h → (first : Option ℕ) (stops : Bool) (rec : Record) (ask : Ask) (rounds : ℕ) (a w : List ℕ)
    → After rs copy lists (search ask a w) (unless_refused first (pick stops none (head? rs')))
    (unless_refused_ℕ first h (after_search h (pick stops (stopped rec) (first_of rs' rounds))))
search_stands rs rs' cut s (some n) stops rec ask rounds a w = s
search_stands rs rs' cut s none true rec ask rounds a w = s
search_stands rs [] cut s none false rec ask rounds a w = s
search_stands rs (xs ∷ rest) (inl e) {copy} {lists} s none false rec ask rounds a w =
    subst (λ (zs : List (List ℕ)). After zs copy lists (search ask a w) (some xs) 1) e
    (record { at_copy = refl; at_lists = refl; within = omega arith })
search_stands rs (xs ∷ rest) (inr e) s none false rec ask rounds a w = absurd (not_nothing e)
  where
    not_nothing : xs ∷ rest ≡ [] → ⊥
    not_nothing q = let n : suc (length rest) ≡ 0 = ap length q in omega arith

-- a next that is refused or has no more leaves all as it stands; one that finds a list adds it
next_stands : (rs : List (List ℕ)) {copy : Option (List ℕ)} {lists : List (List ℕ)} {h : ℕ} → StandsBetween rs copy lists h
    → (first : Option ℕ) (t : ℕ) (earlier a w : List ℕ)
    → After rs copy lists (next t earlier a w) (unless_refused first (get_elem? rs h))
    (unless_refused_ℕ first h (after_next h (get_elem? rs h)))
next_stands rs s (some n) t earlier a w = s
next_stands rs {copy} {lists} {h} s none t earlier a w = go (get_elem? rs h) refl
  where
    go : (due : Option (List ℕ)) → get_elem? rs h ≡ due → After rs copy lists (next t earlier a w) due (after_next h due)
    go none e = s
    go (some xs) e =
        record {
          at_copy = sym e;
          at_lists = ap (λ (zs : List (List ℕ)). zs ++ xs ∷ []) s.at_lists ∙ sym (take_get_elem rs h e);
          within = omega (arith, get_elem_lt rs h e);
        }

-- what the first reason and the list due make of a next
abbrev next_gives : List ℕ → (t : ℕ) → List ℕ → List ℕ → Option ℕ → Option (List ℕ) → Result
next_gives f t a w first due =
    record { answer = of_next (outcome first (followed due)); table = written (unless_refused first due) a; work = work_of f t w }

-- the first reason of a next that holds, where the list due is given
abbrev first_with : List ℕ → (t : ℕ) → List ℕ → (answerRoom workRoom : ℕ) → Option (List ℕ) → Option ℕ
first_with f t earlier answerRoom workRoom due =
    first_broken (named_rules f t workRoom ++ due_reasons (graph_of f t) earlier due answerRoom)

-- what a next does whose list due is given
abbrev next_with : List ℕ → (t : ℕ) → List ℕ → List ℕ → List ℕ → Option (List ℕ) → Result
next_with f t earlier a w due = next_gives f t a w (first_with f t earlier (length a) (length w) due) due

-- a next is refused with one number, whatever list is due
abbrev RefusedAnyway : List ℕ → (t : ℕ) → List ℕ → (answerRoom workRoom : ℕ) → Type 0
RefusedAnyway f t earlier answerRoom workRoom =
    (n : ℕ) × ((due : Option (List ℕ)) → first_with f t earlier answerRoom workRoom due ≡ some n)

module _ (f : List ℕ) (t : ℕ) (earlier : List ℕ) (answerRoom workRoom : ℕ) where
  -- so it is with a next that 22 or one of 1 to 12 refuses
  gate_refuses : (n : ℕ) → first_broken (named_rules f t workRoom) ≡ some n → RefusedAnyway f t earlier answerRoom workRoom
  gate_refuses n e = (n, λ due. broken_append (named_rules f t workRoom) (due_reasons (graph_of f t) earlier due answerRoom) n e)

  -- lent a list that is no shortest accepting path, a next is refused with 13 or an earlier reason
  not_shortest_refused : T (not_shortest (graph_of f t) earlier) → RefusedAnyway f t earlier answerRoom workRoom
  not_shortest_refused apart = go (first_broken (named_rules f t workRoom)) refl
    where
      go : (o : Option ℕ) → first_broken (named_rules f t workRoom) ≡ o → RefusedAnyway f t earlier answerRoom workRoom
      go (some n) e = gate_refuses n e
      go none e = (
        13,
        λ due.
            clear_append (named_rules f t workRoom) (due_reasons (graph_of f t) earlier due answerRoom) e
            ∙ thirteen_decides (graph_of f t) earlier apart due answerRoom,
      )

-- then it makes no difference which list is due
refused_same : (f : List ℕ) (t : ℕ) (earlier a w : List ℕ) → RefusedAnyway f t earlier (length a) (length w) → (due due' : Option (List ℕ))
    → next_with f t earlier a w due ≡ next_with f t earlier a w due'
refused_same f t earlier a w (n, same) due due' =
    ap (λ (o : Option ℕ). next_gives f t a w o due) (same due) ∙ sym (ap (λ (o : Option ℕ). next_gives f t a w o due') (same due'))

-- lent the copy last received, the list due is the one at place h
copy_due : (rs : List (List ℕ)) (h : ℕ) (earlier : List ℕ) → Sorted Before rs → copy_at rs h ≡ some earlier
    → following earlier rs ≡ get_elem? rs h
copy_due rs zero earlier s e = let z : ◌≡◌ {A = ℕ} 0 1 = cc in absurd (omega arith)
copy_due rs (suc i) earlier s e = following_get_elem rs i s e

-- what the finder does at a next is on the book's page
next_page : (f : List ℕ) (t : ℕ) {copy : Option (List ℕ)} {lists : List (List ℕ)} {h : ℕ} → StandsBetween (roll (graph_of f t)) copy lists h
    → (earlier a w : List ℕ) → Lent f copy (next t earlier a w) → finder_at f (next t earlier a w) ≡ (page f h (next t earlier a w)).result
next_page f t {copy} {lists} {h} s earlier a w lent =
    let rs : List (List ℕ) = roll (graph_of f t) in
    elim lent [
      | inl e ↦
          ap (λ (due : Option (List ℕ)). next_with f t earlier a w due)
          (copy_due rs h earlier (roll_strict (graph_of f t)) (sym s.at_copy ∙ e) ∙ sym (list_at_get_elem rs h s.within))
      | inr apart ↦
          refused_same f t earlier a w (not_shortest_refused f t earlier (length a) (length w) apart) (following earlier rs) (list_at rs h)
    ]

-- what the finder does at a call is on the book's page
call_page : (f : List ℕ) {copy : Option (List ℕ)} {lists : List (List ℕ)} {h : ℕ} (c : Call)
    → StandsBetween (roll (graph_of f (table_named c))) copy lists h → Lent f copy c → finder_at f c ≡ (page f h c).result
call_page f (search ask a w) s lent = refl
call_page f (next t earlier a w) s lent = next_page f t s earlier a w lent

-- what stands before a call stands after it, for the list that the page brings and the page's h
page_stands : (f : List ℕ) {copy : Option (List ℕ)} {lists : List (List ℕ)} {h : ℕ} (c : Call)
    → StandsBetween (roll (graph_of f (table_named c))) copy lists h
    → After (roll (graph_of f (table_named c))) copy lists c (received (page f h c).result) (page f h c).after
page_stands f {copy} {lists} {h} (search ask a w) s =
    let g : Graph = graph_asked f ask in
    let rs : List (List ℕ) = roll_within g ask.ceiling.0 in
    let rec : Record = after_rounds g ask.ceiling.0 ask.allowance in
    let first : Option ℕ = first_broken (search_reasons f ask (length a) (length w)) in
    let brought = search_received rs (within_entries g ask.ceiling.0) first (stopsb g ask.allowance) rec (length (candidates g)) a in
    subst
    (λ (list : Option (List ℕ)). After (roll g) copy lists (search ask a w) list (page f h (search ask a w)).after)
    (sym brought)
    (search_stands (roll g) rs (whole_or_none g ask.ceiling.0) s first (stopsb g ask.allowance) rec ask (length (candidates g)) a w)
page_stands f {copy} {lists} {h} (next t earlier a w) s =
    let g : Graph = graph_of f t in
    let first : Option (List ℕ) → Option ℕ = first_with f t earlier (length a) (length w) in
    let after : Option (List ℕ) → ℕ = λ due. unless_refused_ℕ (first due) h (after_next h due) in
    let due : Option (List ℕ) = get_elem? (roll g) h in
    let stands : After (roll g) copy lists (next t earlier a w) (received (next_with f t earlier a w due)) (after due)
    = subst (λ (list : Option (List ℕ)). After (roll g) copy lists (next t earlier a w) list (after due))
    (sym (next_received (roll g) (roll_entries g) h (first due) a)) (next_stands (roll g) s (first due) t earlier a w) in
    subst
    (λ (list : Option (List ℕ)). After (roll g) copy lists (next t earlier a w) (received (next_with f t earlier a w list)) (after list))
    (sym (list_at_get_elem (roll g) h s.within)) stands

-- what a call does is on the book's page, and what stands before it stands after it
record OnPage (f : List ℕ) (rs : List (List ℕ)) (copy : Option (List ℕ)) (lists : List (List ℕ)) (h : ℕ) (c : Call) : Type 0 where
  same : finder_at f c ≡ (page f h c).result
  after : After rs copy lists c (received (page f h c).result) (page f h c).after

-- a call that 22 refuses is refused on the book's page too, and leaves all as it stands, whatever it is lent
refused_on_page : (f : List ℕ) (rs : List (List ℕ)) {copy : Option (List ℕ)} {lists : List (List ℕ)} {h : ℕ} → StandsBetween rs copy lists h
    → (c : Call) → 1 < table_named c → OnPage f rs copy lists h c
refused_on_page f rs {copy} {lists} {h} s (search ask a w) more =
    let g : Graph = graph_asked f ask in
    let first : first_broken (search_reasons f ask (length a) (length w)) ≡ some 22
    = broken_append (named_rules f ask.table (length w)) (ceiling_reason ask.ceiling.0 ∷ list_reasons g (first_due g ask) (length a)) 22
    (named_none f ask.table (length w) more) in
    record {
      same = refl;
      after = subst
          (λ (o : Option ℕ).
          After rs copy lists (search ask a w)
          (copy_of (found_length (of_search (outcome o (searched g ask)))) (written (unless_refused o (first_due g ask)) a))
          (unless_refused_ℕ o h (after_search h (searched g ask))))
          (sym first) s;
    }
refused_on_page f rs {copy} {lists} {h} s (next t earlier a w) more =
    let refused = gate_refuses f t earlier (length a) (length w) 22 (named_none f t (length w) more) in
    let due : Option (List ℕ) = list_at (roll (graph_of f t)) h in
    record {
      same = refused_same f t earlier a w refused (following earlier (roll (graph_of f t))) due;
      after = subst
          (λ (o : Option ℕ). After rs copy lists (next t earlier a w) (received (next_gives f t a w o due)) (unless_refused_ℕ o h (after_next h due)))
          (sym (refused.1 due)) s;
    }

-- every proper call is on the book's page
proper_on_page : (f : List ℕ) (t : ℕ) {copy : Option (List ℕ)} {lists : List (List ℕ)} {h : ℕ} → StandsBetween (roll (graph_of f t)) copy lists h
    → (c : Call) → ProperCall f t copy c → OnPage f (roll (graph_of f t)) copy lists h c
proper_on_page f t {copy} {lists} {h} s c proper =
    elim proper [
      | inl (named, lent) ↦
          subst
          (λ (n : ℕ). StandsBetween (roll (graph_of f n)) copy lists h → OnPage f (roll (graph_of f n)) copy lists h c)
          named
          (λ own. record { same = call_page f c own lent; after = page_stands f c own })
          s
      | inr absent ↦ refused_on_page f (roll (graph_of f t)) s c (ltb→lt 1 (table_named c) absent)
    ]

-- what a sequence of calls comes to from wherever it stands: the results are the book's, the lists received are the first
-- h of the roll, and h is never more than the number of its lists
record ComesTo (f : List ℕ) (t : ℕ) (lists : List (List ℕ)) (h : ℕ) (cs : List Call) : Type 0 where
  results : map (finder_at f) cs ≡ book_results f h cs
  at_lists : lists_received f lists cs ≡ take (book_end f h cs) (roll (graph_of f t))
  within : book_end f h cs ≤ length (roll (graph_of f t))

-- call by call, a sequence comes to that
sequence_comes_to : (f : List ℕ) (t : ℕ) {copy : Option (List ℕ)} {lists : List (List ℕ)} {h : ℕ}
    → StandsBetween (roll (graph_of f t)) copy lists h → (cs : List Call) → Proper f t copy cs → ComesTo f t lists h cs
sequence_comes_to f t s [] proper = record { results = refl; at_lists = s.at_lists; within = s.within }
sequence_comes_to f t {copy} {lists} {h} s (c ∷ cs) (call, proper) =
    let on = proper_on_page f t s c call in
    let after : After (roll (graph_of f t)) copy lists c (received (finder_at f c)) (page f h c).after
    = subst (λ (r : Result). After (roll (graph_of f t)) copy lists c (received r) (page f h c).after) (sym on.same) on.after in
    let rest = sequence_comes_to f t {copy = last_received (received (finder_at f c)) copy} after cs proper in
    record {
      results = ap (λ (r : Result). r ∷ map (finder_at f) cs) on.same ∙ ap (λ (rs : List Result). (page f h c).result ∷ rs) rest.results;
      at_lists = rest.at_lists;
      within = rest.within;
    }

-- at the start no list has been received
at_start : (rs : List (List ℕ)) → StandsBetween rs none [] 0
at_start rs = record { at_copy = refl; at_lists = refl; within = omega arith }

-- condition 3: for every sequence of calls on one accepted file that name one mark table, save those that 22 refuses, the
-- answers and tables are the book's, and the lists received from the last search that answered "found" onward are the first
-- h of the roll
pub condition_3 : Condition3Holds
condition_3 f accepted t cs proper =
    let all = sequence_comes_to f t (at_start (roll (graph_of f t))) cs proper in
    record { results = all.results; lists = all.at_lists }
