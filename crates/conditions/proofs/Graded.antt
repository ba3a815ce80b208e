-- What a grade says of a file's model is so; and what a search or a next finds is in the roll, and so is graded "shortest".
use Prim.Native.Nat.{ℕ, ◌+◌, ◌≤◌}
use mathlib.Core.Path.{◌≡◌, refl, sym, ◌∙◌, ap, subst}
use mathlib.Core.Bool.{Bool, true, false}
use mathlib.Core.List.{List, [], ◌∷◌, ◌++◌, head?, Memᴰ}
use mathlib.Core.Option.{Option, some, none}
use native.Mathlib.Omega.{arith}
use lib.ListN.{length, take, drop}
use lib.Seq.{take-append_seam}
use Rattle.lists.specs.Lists.{pick}
use Rattle.lasso.specs.Graph.{Graph, edges, loop_start}
use Rattle.lasso.specs.Roll.{roll, roll_within}
use Rattle.lasso.specs.Rounds.{Record, candidates, after_rounds}
use Rattle.lasso.specs.Following.{following}
use Rattle.lists.proofs.Tests.{head_mem}
use Rattle.lasso.proofs.OrderLaws.{following_mem}
use Rattle.lasso.proofs.RollLaws.{accepting_lasso, lasso_edges, in_roll}
use Rattle.lasso.proofs.CeilingLaws.{within_roll}
use Rattle.format.specs.Rules.{Reason, first_broken, Accepted}
use Rattle.gate.specs.Gate.{named_rules, ceiling_reason}
use Rattle.gate.proofs.GateLaws.{common_clear, clear_common, named_one, clear_named}
use Rattle.model.specs.Model.{graph_of}
use Rattle.model.proofs.Laws.{accepted_well_formed}
use Rattle.outcomes.specs.Outcome.{answered, outcome}
use Rattle.outcomes.specs.Tables.{list_reasons, unless_refused, written}
use Rattle.gate.specs.declared.Ask.{Ask}
use Rattle.search.specs.Search.{Searched, search_outcome, search_answer, stopped, first_of, first_due, stopsb, graph_asked, search_reasons}
use Rattle.next.specs.Next.{Followed, next_outcome, next_answer, followed, due_reasons, next_reasons}
use Rattle.paths.specs.Breaks.{first_break}
use Rattle.paths.proofs.BreakLaws.{breaks_shown}
use Rattle.grade.specs.Grade.{Said, accepting, shortest, verdict, Grade, grade_of, grade_outcome}
use Rattle.grade_verdicts.proofs.ShownLaws.{verdicts_shown}
use Rattle.conditions.specs.Graded.{IsGraded, GradesSay, GradedShortest, FoundIsShortest}
use Rattle.outcomes.proofs.OutcomeLaws.{answered_none}
use Rattle.conditions.proofs.FirstLaws.{none_holds_first_broken, clear_none, none_parts}

-- a call for which no reason holds, 22 and 1 to 12 among them, names mark table 0 or 1 and has an accepted file
passed_accepted : (f : List ℕ) (t workRoom : ℕ) (rest : List Reason) → first_broken (named_rules f t workRoom ++ rest) ≡ none → (t ≤ 1) × Accepted f
passed_accepted f t workRoom rest clear =
    let front = (none_parts (named_rules f t workRoom) rest (clear_none (named_rules f t workRoom ++ rest) clear)).0 in
    let (one, common) = clear_named f t workRoom (none_holds_first_broken (named_rules f t workRoom) front) in
    (one, (clear_common f workRoom common).0)

-- a list of the roll, with its loop start, is graded "shortest" and breaks nowhere
roll_graded : (f : List ℕ) (t : ℕ) → (t ≤ 1) × Accepted f → (xs : List ℕ) → Memᴰ xs (roll (graph_of f t)) → GradedShortest f t xs (loop_start xs)
roll_graded f t (one, accepted) xs m workRoom room =
    let g : Graph = graph_of f t in
    let wf = accepted_well_formed f t accepted in
    let is = ((verdicts_shown g wf).shortest_in_roll xs (loop_start xs)).1 (m, refl) in
    let unbroken = (breaks_shown g).accepting_none wf xs ((in_roll g wf xs).0 m).0 in
    ap (λ (o : Option ℕ). outcome o (grade_of g xs (loop_start xs))) (named_one f t workRoom one ∙ common_clear f workRoom accepted room)
    ∙ (λ i. answered (record { verdict = is i; place = unbroken i }))

-- What "found" (L, k) tells: the list that was written, whose length and loop start these are, is in the roll.
record FoundIn (rs : List (List ℕ)) (due : Option (List ℕ)) (L k : ℕ) : Type 0 where
  pub list : List ℕ
  pub due_is : due ≡ some list
  pub in_rs : Memᴰ list rs
  pub length_is : L ≡ edges list
  pub start_is : k ≡ loop_start list

-- so it is graded "shortest"
found_graded : (f : List ℕ) (t : ℕ) → (t ≤ 1) × Accepted f → (due : Option (List ℕ)) (a : List ℕ) (L k : ℕ) → FoundIn (roll (graph_of f t)) due L k
    → GradedShortest f t (take (L + 1) (written due a)) k
found_graded f t passed due a L k F workRoom room =
    let g : Graph = graph_of f t in
    let xs : List ℕ = F.list in
    let acc = ((in_roll g (accepted_well_formed f t passed.1) xs).0 F.in_rs).0 in
    let long : L + 1 ≡ length xs = omega (arith, F.length_is, lasso_edges g xs (accepting_lasso g xs acc)) in
    let taken : take (L + 1) (written due a) ≡ xs =
    ap (λ (d : Option (List ℕ)). take (L + 1) (written d a)) F.due_is ∙ ap (λ (n : ℕ). take n (xs ++ drop (length xs) a)) long ∙ take-append_seam xs (drop (length xs) a) in
    ap (λ (ys : List ℕ). grade_outcome f t ys k workRoom) taken ∙ ap (λ (j : ℕ). grade_outcome f t xs j workRoom) F.start_is
    ∙ roll_graded f t passed xs F.in_rs workRoom room

-- a search that answers "found" has found the first of the roll
search_found_in : (rs : List (List ℕ)) (b : Bool) (rec : Record) (n L k rounds : ℕ)
    → pick b (stopped rec) (first_of rs n) ≡ Searched.found L k rounds → FoundIn rs (pick b none (head? rs)) L k
search_found_in rs true rec n L k rounds e = let z : ◌≡◌ {A = ℕ} 0 1 = cc in absurd (omega arith)
search_found_in [] false rec n L k rounds e = let z : ◌≡◌ {A = ℕ} 0 1 = cc in absurd (omega arith)
search_found_in (xs ∷ rest) false rec n L k rounds e = record {
  list = xs;
  due_is = refl;
  in_rs = head_mem (xs ∷ rest) xs refl;
  length_is = cc;
  start_is = cc;
}

-- a list of the roll within a ceiling is one of the roll
found_whole : (g : Graph) (ceiling : ℕ) {due : Option (List ℕ)} {L k : ℕ} → FoundIn (roll_within g ceiling) due L k
    → FoundIn (roll g) due L k
found_whole g ceiling F = record {
  list = F.list;
  due_is = F.due_is;
  in_rs = within_roll g ceiling F.list F.in_rs;
  length_is = F.length_is;
  start_is = F.start_is;
}

-- a next that answers "found" has found a list of the roll
next_found_in : (rs : List (List ℕ)) (due : Option (List ℕ)) → ((xs : List ℕ) → due ≡ some xs → Memᴰ xs rs) → (L k : ℕ)
    → followed due ≡ Followed.found L k → FoundIn rs due L k
next_found_in rs none inside L k e = let z : ◌≡◌ {A = ℕ} 0 1 = cc in absurd (omega arith)
next_found_in rs (some xs) inside L k e = record {
  list = xs;
  due_is = refl;
  in_rs = inside xs refl;
  length_is = cc;
  start_is = cc;
}

-- what an answered call found
answered_is : {A : Type 0} (o : Option ℕ) (x y : A) → outcome o x ≡ answered y → x ≡ y
answered_is none x y e = cc
answered_is (some n) x y e = let z : ◌≡◌ {A = ℕ} 0 1 = cc in absurd (omega arith)

module _ (f : List ℕ) (t : ℕ) (xs : List ℕ) (k workRoom : ℕ) (clear : first_broken (named_rules f t workRoom) ≡ none) where
  -- where none of 22 and 1 to 12 holds the answer is the grade
  graded : grade_outcome f t xs k workRoom ≡ answered (grade_of (graph_of f t) xs k)
  graded = ap (λ (o : Option ℕ). outcome o (grade_of (graph_of f t) xs k)) clear

  -- so an answer is the verdict and the place of the model
  graded_is : (v : Said) (p : Option ℕ) → IsGraded f t xs k workRoom v p → grade_of (graph_of f t) xs k ≡ record { verdict = v; place = p }
  graded_is v p e = answered_is none (grade_of (graph_of f t) xs k) (record { verdict = v; place = p }) (sym graded ∙ e)

  graded_verdict : (v : Said) (p : Option ℕ) → IsGraded f t xs k workRoom v p → verdict (graph_of f t) xs k ≡ v
  graded_verdict v p e = ap (λ (a : Grade). a.verdict) (graded_is v p e)

  graded_place : (v : Said) (p : Option ℕ) → IsGraded f t xs k workRoom v p → first_break (graph_of f t) xs ≡ p
  graded_place v p e = ap (λ (a : Grade). a.place) (graded_is v p e)

  -- and what these are is answered
  is_graded : (v : Said) (p : Option ℕ) → verdict (graph_of f t) xs k ≡ v → first_break (graph_of f t) xs ≡ p → IsGraded f t xs k workRoom v p
  is_graded v p a b = graded ∙ (λ i. answered (record { verdict = a i; place = b i }))

pub grades_say : GradesSay
grades_say f t xs k workRoom none_holds =
    let g : Graph = graph_of f t in
    let clear = none_holds_first_broken (named_rules f t workRoom) none_holds in
    let wf = accepted_well_formed f t (clear_common f workRoom (clear_named f t workRoom clear).1).0 in
    let verdicts = verdicts_shown g wf in
    let places = breaks_shown g in
    let v-of = graded_verdict f t xs k workRoom clear in
    let p-of = graded_place f t xs k workRoom clear in
    let is = is_graded f t xs k workRoom clear in
    record {
      false_exactly = (
        λ (p, e). (verdicts.false_exactly xs k).0 (v-of Said.false _ e),
        λ n. (first_break g xs, is Said.false (first_break g xs) ((verdicts.false_exactly xs k).1 n) refl),
      );
      accepting_exactly = (
        λ e. (verdicts.accepting_exactly xs k).0 (v-of accepting none e),
        λ a. is accepting none ((verdicts.accepting_exactly xs k).1 a) (places.accepting_none wf xs a.0.0),
      );
      shortest_exactly = (
        λ e. (verdicts.shortest_exactly xs k).0 (v-of shortest none e),
        λ a. is shortest none ((verdicts.shortest_exactly xs k).1 a) (places.accepting_none wf xs a.0.0),
      );
      shortest_in_roll = (
        λ e. (verdicts.shortest_in_roll xs k).0 (v-of shortest none e),
        λ a. is shortest none ((verdicts.shortest_in_roll xs k).1 a) (places.accepting_none wf xs ((in_roll g wf xs).0 a.0).0),
      );
      place_exactly = λ j. (
        λ (v, e). (places.some_exactly xs j).0 (p-of v _ e),
        λ b. (verdict g xs k, is (verdict g xs k) (some j) refl ((places.some_exactly xs j).1 b)),
      );
      no_place_exactly = (
        λ (v, e). (places.none_exactly xs).0 (p-of v none e),
        λ h. (verdict g xs k, is (verdict g xs k) none refl ((places.none_exactly xs).1 h)),
      );
    }

-- what search finds is graded "shortest", and breaks nowhere
search_graded : (f : List ℕ) (ask : Ask) (a : List ℕ) (workRoom L k rounds : ℕ)
    → search_outcome f ask (length a) workRoom ≡ answered (Searched.found L k rounds)
    → GradedShortest f ask.table (take (L + 1) (search_answer f ask a workRoom)) k
search_graded f ask a workRoom L k rounds e =
    let g : Graph = graph_asked f ask in
    let due : Option (List ℕ) = first_due g ask in
    let reasons : List Reason = search_reasons f ask (length a) workRoom in
    let clear = answered_none (first_broken reasons) _ _ e in
    let passed = passed_accepted f ask.table workRoom (ceiling_reason ask.ceiling.0 ∷ list_reasons g due (length a)) clear in
    let within = search_found_in (roll_within g ask.ceiling.0) (stopsb g ask.allowance) (after_rounds g ask.ceiling.0 ask.allowance) (length (candidates g)) L k rounds (answered_is (first_broken reasons) _ _ e) in
    let found : FoundIn (roll g) due L k = found_whole g ask.ceiling.0 within in
    subst (λ (o : Option ℕ). GradedShortest f ask.table (take (L + 1) (written (unless_refused o due) a)) k) (sym clear) (found_graded f ask.table passed due a L k found)

-- and so is what next finds
next_graded : (f : List ℕ) (t : ℕ) (earlier a : List ℕ) (workRoom L k : ℕ)
    → next_outcome f t earlier (length a) workRoom ≡ answered (Followed.found L k)
    → GradedShortest f t (take (L + 1) (next_answer f t earlier a workRoom)) k
next_graded f t earlier a workRoom L k e =
    let g : Graph = graph_of f t in
    let due : Option (List ℕ) = following earlier (roll g) in
    let reasons : List Reason = next_reasons f t earlier (length a) workRoom in
    let clear = answered_none (first_broken reasons) _ _ e in
    let passed = passed_accepted f t workRoom (due_reasons g earlier due (length a)) clear in
    let found = next_found_in (roll g) due (following_mem earlier (roll g)) L k (answered_is (first_broken reasons) _ _ e) in
    subst (λ (o : Option ℕ). GradedShortest f t (take (L + 1) (written (unless_refused o due) a)) k) (sym clear) (found_graded f t passed due a L k found)

pub found_is_shortest : FoundIsShortest
found_is_shortest = record { search = search_graded; next = next_graded }
