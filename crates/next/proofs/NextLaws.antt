-- What "next" answers and writes, case by case; and that its outcome loses nothing.
use Prim.Native.Nat.{ℕ, ◌+◌, ◌*◌, ◌≤◌, ◌<◌}
use mathlib.Core.Path.{◌≡◌, refl, sym, ◌∙◌, ap, subst}
use mathlib.Core.Bool.{Bool, true, false, not}
use mathlib.Core.List.{List, ◌∷◌, ◌++◌, Memᴰ}
use mathlib.Core.Option.{Option, some, none}
use native.Mathlib.Omega.{arith}
use borrow.Author.Tests.{lt-ltb, le-ltb}
use lib.ListN.{length, take, drop}
use lib.Seq.{length-take-le}
use lib.Dec.{T, eqb, eqb→eq, not_T}
use Rattle.lists.specs.Lists.{anyb, some_if}
use Rattle.lasso.specs.Graph.{Graph, WellFormed, edges, lassob, loop_start}
use Rattle.lasso.specs.Roll.{least_length, roll}
use Rattle.lasso.specs.Following.{sameb, following}
use Rattle.lists.proofs.Tests.{parts, join, T_true, T_false, eq→eqb, anyb_some, some_anyb}
use Rattle.lasso.proofs.OrderLaws.{sameb→eq, sameb_refl}
use Rattle.lasso.proofs.RollLaws.{roll_empty, roll_lasso, lasso_in_roll}
use Rattle.model.specs.Model.{graph_of}
use Rattle.format.specs.Layout.{states}
use Rattle.format.specs.Rules.{first_broken, Accepted}
use Rattle.outcomes.specs.Outcome.{Outcome, refused, answered}
use Rattle.outcomes.specs.Tables.{no_room, length_due, list_reasons}
use Rattle.outcomes.proofs.OutcomeLaws.{CallIs, call_answer, call_broken, call_kept, never_too_long}
use Rattle.outcomes.proofs.ReadBack.{transitions, loses_nothing, result_loses_nothing}
use Rattle.gate.specs.Gate.{named_rules}
use Rattle.format.proofs.Reasons.{broken_append, clear_append}
use Rattle.gate.proofs.GateLaws.{common_clear, named_one}
use Rattle.paths.proofs.LoopTests.{lasso_of}
use Rattle.std.specs.Prelude as code
use Rattle.std.specs.Prelude.{None, Some}
use Rattle.next.specs.declared.NextList.{NextList}
use Rattle.next.specs.Next.{Followed, no_more, followed_of, NextLosesNothing, not_shortest, followed, due_reasons, next_reasons, next_outcome, next_answer}

-- a list of the roll is a shortest accepting path
pub shortest_mem : (g : Graph) (xs : List ℕ) → Memᴰ xs (roll g) → not_shortest g xs ≡ false
shortest_mem g xs m = ap not (T_true (anyb (sameb xs) (roll g)) (some_anyb (sameb xs) m (sameb_refl xs)))

-- a list that is not in the roll is none
pub not_shortest_apart : (g : Graph) (xs : List ℕ) → (Memᴰ xs (roll g) → ⊥) → not_shortest g xs ≡ true
not_shortest_apart g xs d = ap not (T_false (anyb (sameb xs) (roll g)) (not_T (anyb (sameb xs) (roll g)) found))
  where
    found : T (anyb (sameb xs) (roll g)) → ⊥
    found h =
        let (ys, m, same) = anyb_some (sameb xs) (roll g) h in
        d (subst (λ (zs : List ℕ). Memᴰ zs (roll g)) (sym (sameb→eq xs ys same)) m)

-- without an accepting path no list is one
pub not_shortest_none : (g : Graph) (xs : List ℕ) → least_length g ≡ none → not_shortest g xs ≡ true
not_shortest_none g xs e = ap (λ (rs : List (List ℕ)). not (anyb (sameb xs) rs)) ((roll_empty g).1 e)

module _ (g : Graph) (wf : WellFormed g) (l : ℕ) (least : least_length g ≡ some l) (xs : List ℕ) where
  -- a lasso of the least length is in the roll
  pub lasso_of_mem : lasso_of g xs l ≡ true → Memᴰ xs (roll g)
  lasso_of_mem e =
      let h : T (lasso_of g xs l) = rw e tt in
      let lasso : T (lassob g xs) = search parts in
      let long : edges xs ≡ l = search (parts, eqb→eq) in
      lasso_in_roll g wf l least xs lasso long

  -- a list that is no lasso of the least length is no shortest accepting path
  pub not_shortest_lasso : lasso_of g xs l ≡ false → not_shortest g xs ≡ true
  not_shortest_lasso e = not_shortest_apart g xs apart
    where
      apart : Memᴰ xs (roll g) → ⊥
      apart m =
          let (lasso, long) = roll_lasso g l least xs m in
          let exact : T (eqb (edges xs) l) = eq→eqb (edges xs) l long in
          let h : T (lasso_of g xs l) = search join in
          rw e at h

-- 13 decides: if the earlier list is no shortest accepting path, the reasons after it do not count
pub thirteen_decides : (g : Graph) (earlier : List ℕ) → T (not_shortest g earlier) → (due : Option (List ℕ)) (answerRoom : ℕ)
    → first_broken (due_reasons g earlier due answerRoom) ≡ some 13
thirteen_decides g earlier holds due answerRoom =
    ap (λ (b : Bool). some_if b 13 (first_broken (list_reasons g due answerRoom))) (T_true (not_shortest g earlier) holds)

-- the outcome of "next", and the list that it writes
abbrev pub NextIs : List ℕ → (t : ℕ) → List ℕ → ℕ → ℕ → Outcome Followed → Option (List ℕ) → Type 0
NextIs f t earlier answerRoom workRoom o due =
    CallIs (next_reasons f t earlier answerRoom workRoom) (followed (following earlier (roll (graph_of f t)))) (following earlier (roll (graph_of f t))) o due

-- a reason holds: refused with the first, and nothing is written
next_broken : (f : List ℕ) (t : ℕ) (earlier : List ℕ) (answerRoom workRoom n : ℕ) → first_broken (next_reasons f t earlier answerRoom workRoom) ≡ some n
    → NextIs f t earlier answerRoom workRoom (refused n) none
next_broken f t earlier answerRoom workRoom n e =
    let due : Option (List ℕ) = following earlier (roll (graph_of f t)) in
    call_broken (next_reasons f t earlier answerRoom workRoom) (followed due) due n e

-- no reason holds: the list that follows decides
next_kept : (f : List ℕ) (t : ℕ) (earlier : List ℕ) (answerRoom workRoom : ℕ) (due : Option (List ℕ))
    → first_broken (next_reasons f t earlier answerRoom workRoom) ≡ none → following earlier (roll (graph_of f t)) ≡ due
    → NextIs f t earlier answerRoom workRoom (answered (followed due)) due
next_kept f t earlier answerRoom workRoom due e q =
    let follows : Option (List ℕ) = following earlier (roll (graph_of f t)) in
    call_kept (next_reasons f t earlier answerRoom workRoom) (followed follows) (followed due) follows due e (ap followed q) q

-- refused with a reason of 22 and 1 to 12
pub next_refused : (f : List ℕ) (t : ℕ) (earlier : List ℕ) (answerRoom workRoom n : ℕ) → first_broken (named_rules f t workRoom) ≡ some n
    → NextIs f t earlier answerRoom workRoom (refused n) none
next_refused f t earlier answerRoom workRoom n e =
    next_broken f t earlier answerRoom workRoom n (broken_append (named_rules f t workRoom) (due_reasons (graph_of f t) earlier (following earlier (roll (graph_of f t))) answerRoom) n e)

module _ (f : List ℕ) (t : ℕ) (accepted : Accepted f) (one : t ≤ 1) (earlier : List ℕ) (answerRoom workRoom : ℕ) (room : 6 * states f ≤ workRoom) where
  -- the graph of the file
  abbrev g : Graph
  g = graph_of f t

  -- the reasons 13 and 15 are left to decide
  next_reasons_lem : first_broken (next_reasons f t earlier answerRoom workRoom)
      ≡ some_if (not_shortest g earlier) 13 (some_if (no_room (length_due (following earlier (roll g))) answerRoom) 15 none)
  next_reasons_lem =
      clear_append (named_rules f t workRoom) (due_reasons (graph_of f t) earlier (following earlier (roll g)) answerRoom) (named_one f t workRoom one ∙ common_clear f workRoom accepted room)
      ∙ ap (λ (b : Bool). some_if (not_shortest g earlier) 13 (some_if b 14 (some_if (no_room (length_due (following earlier (roll g))) answerRoom) 15 none))) (never_too_long f t accepted)

  -- the earlier list is no shortest accepting path: refused with 13
  pub next_not_shortest : not_shortest g earlier ≡ true → NextIs f t earlier answerRoom workRoom (refused 13) none
  next_not_shortest e =
      next_broken f t earlier answerRoom workRoom 13
      (next_reasons_lem ∙ ap (λ (b : Bool). some_if b 13 (some_if (no_room (length_due (following earlier (roll g))) answerRoom) 15 none)) e)

  -- the earlier list is in the roll: the list due has room or not
  next_due : Memᴰ earlier (roll g) → (due : Option (List ℕ)) (b : Bool) → following earlier (roll g) ≡ due
      → no_room (length_due due) answerRoom ≡ b → first_broken (next_reasons f t earlier answerRoom workRoom) ≡ some_if b 15 none
  next_due m due b q e =
      next_reasons_lem
      ∙ ap (λ (x : Bool). some_if x 13 (some_if (no_room (length_due (following earlier (roll g))) answerRoom) 15 none)) (shortest_mem g earlier m)
      ∙ ap (λ (d : Option (List ℕ)). some_if (no_room (length_due d) answerRoom) 15 none) q
      ∙ ap (λ (x : Bool). some_if x 15 none) e

  module _ (m : Memᴰ earlier (roll g)) where
    -- it is the last of the roll: no more
    pub next_no_more : following earlier (roll g) ≡ none → NextIs f t earlier answerRoom workRoom (answered no_more) none
    next_no_more last = next_kept f t earlier answerRoom workRoom none (next_due m none false last refl) last

    -- another follows and has no room: refused with 15
    pub next_no_room : (xs : List ℕ) → following earlier (roll g) ≡ some xs → answerRoom < edges xs + 1
        → NextIs f t earlier answerRoom workRoom (refused 15) none
    next_no_room xs follows less =
        next_broken f t earlier answerRoom workRoom 15 (next_due m (some xs) true follows (lt-ltb answerRoom (edges xs + 1) less))

    -- it has room: found, with its figures
    pub next_found : (xs : List ℕ) → following earlier (roll g) ≡ some xs → edges xs + 1 ≤ answerRoom
        → NextIs f t earlier answerRoom workRoom (answered (Followed.found (edges xs) (loop_start xs))) (some xs)
    next_found xs follows fits =
        next_kept f t earlier answerRoom workRoom (some xs) (next_due m (some xs) false follows (le-ltb answerRoom (edges xs + 1) fits)) follows

-- the list that follows, which stands in region 0 after the start, was written to the answer table: what "next" answers
-- and writes
pub following-written : (f : List ℕ) (t : ℕ) → Accepted f → t ≤ 1 → (workRoom : ℕ) → 6 * states f ≤ workRoom → (earlier a a' w : List ℕ) (s l k : ℕ)
    → Memᴰ earlier (roll (graph_of f t)) → s ≡ (graph_of f t).start → l ≤ length w
    → following earlier (roll (graph_of f t)) ≡ some ((graph_of f t).start ∷ take l w) → l < length a
    → k ≡ loop_start (s ∷ take l w) → a' ≡ (s ∷ take l w) ++ drop (l + 1) a
    → (answered (Followed.found l k) ≡ next_outcome f t earlier (length a) workRoom) × (a' ≡ next_answer f t earlier a workRoom)
following-written f t accepted one workRoom room earlier a a' w s l k m at_start fits follows free at-k out =
    let g : Graph = graph_of f t in
    let xs : List ℕ = s ∷ take l w in
    let long : length (take l w) ≡ l = length-take-le l w fits in
    let at-l : l ≡ edges xs = omega arith in
    let follows' : following earlier (roll g) ≡ some xs = subst (λ (x : ℕ). following earlier (roll g) ≡ some (x ∷ take l w)) (sym at_start) follows in
    let found = next_found f t accepted one earlier (length a) workRoom room m xs follows' (omega arith) in
    let figures : answered (Followed.found l k) ≡ answered (Followed.found (edges xs) (loop_start xs)) = cc in
    let entries : l + 1 ≡ length xs = omega arith in (
      figures ∙ sym found.outcome_is,
      out ∙ ap (λ (n : ℕ). xs ++ drop n a) entries ∙ sym (call_answer a found),
    )

-- the answer of a next that says this
abbrev read_next : Followed → code.Option NextList
read_next (Followed.found l k) = Some (record { length = transitions l; loop_start = k })
read_next no_more = None

-- a next's answer is read off what it says
read_next_followed_of : (a : code.Option NextList) → read_next (followed_of a) ≡ a
read_next_followed_of (Some listed) = refl
read_next_followed_of None = refl

-- equal outcomes of a next are of equal results
pub next_loses_nothing : NextLosesNothing
next_loses_nothing = result_loses_nothing followed_of (loses_nothing followed_of read_next read_next_followed_of)
