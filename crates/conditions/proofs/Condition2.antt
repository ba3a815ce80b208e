-- Condition 2 holds: a search for which no reason holds answers and writes what the contract says.
use Prim.Native.Nat.{ℕ, ◌+◌, ◌*◌, ◌≤◌, ◌<◌}
use mathlib.Core.Path.{◌≡◌, sym, ◌∙◌, ap, subst}
use mathlib.Core.Bool.{false}
use mathlib.Core.Logic.{inl, inr}
use mathlib.Core.List.Memᴰ
use mathlib.Core.List.{List, [], ◌∷◌, ◌++◌, head?, Memᴰ}
use mathlib.Core.Option.{Option, some}
use native.Mathlib.Omega.{arith}
use borrow.Author.Tests.{ltb-false}
use lib.ListN.{length, get_or, drop}
use lib.Dec.{T, eqb→eq}
use Rattle.lists.specs.Lists.{below}
use Rattle.lasso.specs.Graph.{Graph, WellFormed, edges, loopsb, acceptingb, loop_start}
use Rattle.lasso.specs.Roll.{roll, roll_within}
use Rattle.lasso.specs.Rounds.{Record, candidates}
use Rattle.lasso.specs.Ceiling.{PathWithin}
use Rattle.lasso.proofs.Lasso.{loop_start_lem}
use Rattle.lists.proofs.Sorted.{Sorted, all_mem}
use Rattle.lists.proofs.Tests.{parts, lt_or_ge, anyb_some, below_lt, head_mem}
use Rattle.lasso.proofs.OrderLaws.{Before}
use Rattle.lasso.proofs.RollLaws.{in_roll, roll_strict}
use Rattle.lasso.proofs.CeilingLaws.{RollCut, whole, no_path, longer, roll_cut, roll_within_lem, ceiling_shown}
use Rattle.lasso.proofs.RoundLaws.{after_rounds_done}
use Rattle.gate.specs.declared.Ask.{Ask}
use Rattle.format.specs.Layout.{states}
use Rattle.format.specs.Rules.{first_broken, rules, Accepted}
use Rattle.model.proofs.Laws.{accepted_well_formed}
use Rattle.outcomes.specs.Outcome.{answered}
use Rattle.outcomes.specs.Tables.{no_room, length_due, list_reasons}
use Rattle.outcomes.proofs.OutcomeLaws.{call_answer, answered_none}
use Rattle.search.specs.Search.{Searched, stopped, none_within, searched, first_due, graph_asked, search_reasons}
use Rattle.search.proofs.SearchLaws.{SearchIs, search_stopped, search_none, search_found, search_goes_on, roll_first}
use Rattle.gate.specs.Gate.{named_rules, ceiling_reason}
use Rattle.conditions.specs.Reasons.{NoneHolds}
use Rattle.conditions.specs.Condition2.{FirstShortest, Searches, SearchPasses, SearchPassesExactly, Condition2Holds}
use Rattle.gate.proofs.GateLaws.{room_reason}
use Rattle.conditions.proofs.FirstLaws.{none_holds_first_broken, clear_none, none_parts}

-- the first list of an ordered roll stands before every other one
head_before : (rs : List (List ℕ)) (xs ys : List ℕ) → Sorted Before rs → head? rs ≡ some xs → Memᴰ ys rs → (ys ≡ xs → ⊥)
    → Before xs ys
head_before [] xs ys s e m apart = let z : ◌≡◌ {A = ℕ} 0 1 = cc in absurd (omega arith)
head_before (r ∷ rs) xs ys s e m apart =
    let q : r ≡ xs = cc in
    elim (Memᴰ.cases_cons m) [
      | inl here ↦ absurd (apart (here ∙ q))
      | inr later ↦ subst (λ (zs : List ℕ). Before zs ys) q (all_mem (Before r) ys rs s.0 later)
    ]

-- the first of the roll is the first of the shortest accepting paths
pub roll_first_shortest : (g : Graph) → WellFormed g → (ceiling : ℕ) (xs : List ℕ) → head? (roll g) ≡ some xs → edges xs ≤ ceiling
    → FirstShortest g ceiling xs
roll_first_shortest g wf ceiling xs e within =
    let (accepting, shortest) = (in_roll g wf xs).0 (head_mem (roll g) xs e) in
    record {
      accepting = accepting;
      within = within;
      shortest = shortest;
      first = λ ys path same apart.
          let m : Memᴰ ys (roll g) = (in_roll g wf ys).1 (path, λ zs p. omega (arith, shortest zs p)) in
          head_before (roll g) xs ys (roll_strict g) e m apart;
    }

-- an accepting path is a closed walk with a mark from its loop start on, which is below its length
pub accepting_loops : (g : Graph) (xs : List ℕ) → T (acceptingb g xs) → (loop_start xs < edges xs) × T (loopsb g xs (loop_start xs))
accepting_loops g xs h =
    let (low, closes, only) = loop_start_lem g xs h in
    let some-k = anyb_some (loopsb g xs) (below (edges xs)) (search parts) in
    let at-k : T (loopsb g xs some-k.0) = some-k.2 in
    let last : get_or xs (edges xs) 0 ≡ get_or xs some-k.0 0 = search (parts, eqb→eq) in
    let same : some-k.0 ≡ loop_start xs = only some-k.0 (below_lt (edges xs) some-k.1) (sym last) in
    (low, subst (λ (k : ℕ). T (loopsb g xs k)) same at-k)

-- "none within the ceiling", "found" and "stopped" are different answers
none_found : {r L k rounds : ℕ} → answered (none_within r) ≡ answered (Searched.found L k rounds) → ⊥
none_found e = let z : ◌≡◌ {A = ℕ} 0 1 = cc in omega arith

stopped_found : {r : Record} {L k rounds : ℕ} → answered (stopped r) ≡ answered (Searched.found L k rounds) → ⊥
stopped_found e = let z : ◌≡◌ {A = ℕ} 0 1 = cc in omega arith

stopped_none : {r : Record} {rounds : ℕ} → answered (stopped r) ≡ answered (none_within rounds) → ⊥
stopped_none e = let z : ◌≡◌ {A = ℕ} 0 1 = cc in omega arith

module _ (f : List ℕ) (accepted : Accepted f) (ask : Ask) (a : List ℕ) (workRoom : ℕ) (room : 6 * states f ≤ workRoom) (one : ask.table ≤ 1) (low : ask.ceiling.0 ≤ 4096) where
  -- the allowance suffices, and no accepting path is within the ceiling
  searches_none : length (candidates (graph_asked f ask)) ≤ ask.allowance → roll_within (graph_asked f ask) ask.ceiling.0 ≡ [] → Searches f ask a workRoom
  searches_none enough e =
      let g : Graph = graph_asked f ask in
      let n : ℕ = length (candidates g) in
      let is = search_none f accepted ask (length a) workRoom room one low enough e in
      let no_path : PathWithin g ask.ceiling.0 → ⊥ = (ceiling_shown g (accepted_well_formed f ask.table accepted) ask.ceiling.0).empty_exactly.0 e in
      record {
        answers = inr (n, is.outcome_is);
        not_stopped = λ r q. stopped_none (sym q ∙ is.outcome_is);
        found_exactly = (λ p. absurd (none_found (sym is.outcome_is ∙ p.3)), λ p. absurd (no_path p));
        found_says = λ L k rounds q. absurd (none_found (sym is.outcome_is ∙ q));
        none_exactly = (λ p. no_path, λ p. (n, is.outcome_is));
        none_says = λ rounds q.
            let same : answered (none_within rounds) ≡ answered (none_within n) = sym q ∙ is.outcome_is in
            record { unwritten = call_answer a is; rounds_are = cc };
      }

  -- the allowance suffices, an accepting path is within the ceiling, and the answer table has room for the first of the roll
  searches_some : length (candidates (graph_asked f ask)) ≤ ask.allowance → (xs : List ℕ) → head? (roll (graph_asked f ask)) ≡ some xs
      → roll_within (graph_asked f ask) ask.ceiling.0 ≡ roll (graph_asked f ask) → edges xs ≤ ask.ceiling.0
      → edges xs + 1 ≤ length a → Searches f ask a workRoom
  searches_some enough xs first whole_roll within fits =
      let g : Graph = graph_asked f ask in
      let n : ℕ = length (candidates g) in
      let is = search_found f accepted ask (length a) workRoom room one low enough xs (ap (λ (rs : List (List ℕ)). head? rs) whole_roll ∙ first) fits in
      let best : FirstShortest g ask.ceiling.0 xs = roll_first_shortest g (accepted_well_formed f ask.table accepted) ask.ceiling.0 xs first within in
      let path : PathWithin g ask.ceiling.0 = (xs, best.accepting, within) in
      let (low, closed) = accepting_loops g xs best.accepting in
      record {
        answers = inl (edges xs, loop_start xs, n, is.outcome_is);
        not_stopped = λ r q. stopped_found (sym q ∙ is.outcome_is);
        found_exactly = (λ p. path, λ p. (edges xs, loop_start xs, n, is.outcome_is));
        found_says = λ L k rounds q.
            let same : answered (Searched.found L k rounds) ≡ answered (Searched.found (edges xs) (loop_start xs) n) = sym q ∙ is.outcome_is in
            let at-L : edges xs ≡ L = cc in
            let at-k : loop_start xs ≡ k = cc in
            let entries : length xs ≡ L + 1 = omega arith in
            record {
              list = xs;
              first_shortest = best;
              length_is = at-L;
              entries_are = entries;
              fits = omega arith;
              written = call_answer a is ∙ ap (λ (m : ℕ). xs ++ drop m a) entries;
              loop_start-below = omega arith;
              loops = subst (λ (j : ℕ). T (loopsb g xs j)) at-k closed;
              rounds_are = cc;
            };
        none_exactly = (λ p. absurd (none_found (sym p.1 ∙ is.outcome_is)), λ p. absurd (p path));
        none_says = λ rounds q. absurd (none_found (sym q ∙ is.outcome_is));
      }

-- no reason of a search holds: what that says
none_holds_says : (f : List ℕ) (ask : Ask) (answerRoom workRoom : ℕ) → NoneHolds (search_reasons f ask answerRoom workRoom)
    → SearchPasses f ask answerRoom workRoom
none_holds_says f ask answerRoom workRoom h =
    let g : Graph = graph_asked f ask in
    let (named, (ceiling, list)) = none_parts (named_rules f ask.table workRoom) (ceiling_reason ask.ceiling.0 ∷ list_reasons g (first_due g ask) answerRoom) h in
    let one : ask.table ≤ 1 = ltb-false 1 ask.table named.0 in
    let low : ask.ceiling.0 ≤ 4096 = ltb-false 4096 ask.ceiling.0 ceiling in
    let (file, table) = none_parts (rules f) (room_reason f workRoom) named.1 in
    let accepted : Accepted f = none_holds_first_broken (rules f) file in
    let room : 6 * states f ≤ workRoom = ltb-false workRoom (6 * states f) table.0 in
    record {
      names_one = one;
      accepted = accepted;
      room = room;
      ceiling_low = low;
      fits = λ enough l least within.
          let (xs, first, long) = roll_first g l least in
          let due : first_due g ask ≡ some xs =
          (search_goes_on f accepted ask answerRoom workRoom room one low enough).1 ∙ ap (λ (rs : List (List ℕ)). head? rs) (roll_within_lem g l ask.ceiling.0 least within) ∙ first in
          let free : no_room (some (edges xs)) answerRoom ≡ false = sym (ap (λ (d : Option (List ℕ)). no_room (length_due d) answerRoom) due) ∙ list.1.0 in
          omega (arith, ltb-false answerRoom (edges xs + 1) free);
    }

-- where that is so, no reason holds
passes_none : (f : List ℕ) (ask : Ask) (answerRoom workRoom : ℕ) → SearchPasses f ask answerRoom workRoom
    → NoneHolds (search_reasons f ask answerRoom workRoom)
passes_none f ask answerRoom workRoom passes =
    elim (lt_or_ge ask.allowance (length (candidates (graph_asked f ask)))) [
      | inl less ↦ not_refused (search_stopped f passes.accepted ask answerRoom workRoom passes.room passes.names_one passes.ceiling_low less)
      | inr enough ↦ by_roll enough (roll_cut (graph_asked f ask) ask.ceiling.0)
    ]
  where
    not_refused : {s : Searched} {due : Option (List ℕ)} → SearchIs f ask answerRoom workRoom (answered s) due
        → NoneHolds (search_reasons f ask answerRoom workRoom)
    not_refused {s} is =
        let reasons = search_reasons f ask answerRoom workRoom in
        clear_none reasons (answered_none (first_broken reasons) (searched (graph_asked f ask) ask) s is.outcome_is)

    none_there : length (candidates (graph_asked f ask)) ≤ ask.allowance → roll_within (graph_asked f ask) ask.ceiling.0 ≡ []
        → NoneHolds (search_reasons f ask answerRoom workRoom)
    none_there enough q = not_refused (search_none f passes.accepted ask answerRoom workRoom passes.room passes.names_one passes.ceiling_low enough q)

    by_roll : length (candidates (graph_asked f ask)) ≤ ask.allowance → RollCut (graph_asked f ask) ask.ceiling.0
        → NoneHolds (search_reasons f ask answerRoom workRoom)
    by_roll enough (no_path e q) = none_there enough q
    by_roll enough (longer l e high q) = none_there enough q
    by_roll enough (whole l e le q) =
        let (xs, first, long) = roll_first (graph_asked f ask) l e in
        not_refused (search_found f passes.accepted ask answerRoom workRoom passes.room passes.names_one passes.ceiling_low enough xs (ap (λ (rs : List (List ℕ)). head? rs) q ∙ first) (omega (arith, passes.fits enough l e le)))

-- when no reason of a search holds
pub passes_exactly : SearchPassesExactly
passes_exactly f ask answerRoom workRoom = (none_holds_says f ask answerRoom workRoom, passes_none f ask answerRoom workRoom)

-- condition 2
pub condition_2 : Condition2Holds
condition_2 f ask a workRoom h =
    let passes : SearchPasses f ask (length a) workRoom = none_holds_says f ask (length a) workRoom h in
    record {
      suffices = λ enough. by_roll passes enough (roll_cut (graph_asked f ask) ask.ceiling.0);
      short = λ less.
          let is = search_stopped f passes.accepted ask (length a) workRoom passes.room passes.names_one passes.ceiling_low less in
          record {
            stopped_with = is.outcome_is;
            rounds_done = after_rounds_done (graph_asked f ask) ask.ceiling.0 ask.allowance;
            not_found = λ p. stopped_found (sym is.outcome_is ∙ p.3);
            not_none = λ p. stopped_none (sym is.outcome_is ∙ p.1);
            unwritten = call_answer a is;
          };
    }
  where
    by_roll : SearchPasses f ask (length a) workRoom → length (candidates (graph_asked f ask)) ≤ ask.allowance
        → RollCut (graph_asked f ask) ask.ceiling.0 → Searches f ask a workRoom
    by_roll passes enough (no_path e q) = searches_none f passes.accepted ask a workRoom passes.room passes.names_one passes.ceiling_low enough q
    by_roll passes enough (longer l e high q) = searches_none f passes.accepted ask a workRoom passes.room passes.names_one passes.ceiling_low enough q
    by_roll passes enough (whole l e le q) =
        let (xs, first, long) = roll_first (graph_asked f ask) l e in
        searches_some f passes.accepted ask a workRoom passes.room passes.names_one passes.ceiling_low enough xs first q (omega arith) (omega (arith, passes.fits enough l e le))
