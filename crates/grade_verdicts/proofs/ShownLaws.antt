-- What each verdict says is so.
use Prim.Native.Nat.{ℕ, ◌<◌}
use mathlib.Core.Path.{◌≡◌, refl, sym, ap, subst}
use mathlib.Core.Logic.{◌↔◌}
use mathlib.Core.Bool.{Bool, true, false, not}
use mathlib.Core.List.{List}
use mathlib.Core.Option.{Option, some, none}
use native.Mathlib.Omega.{arith}
use lib.ListN.{length, get_or, take}
use lib.Dec.{T, eqb, leb, ltb, eqb→eq, le→leb, ltb→lt, lt→ltb, T_not, not_T}
use Rattle.lists.specs.Lists.{pick, anyb, below, differentb}
use Rattle.lasso.specs.Graph.{Graph, WellFormed, edges, pathb, loopsb, lassob, acceptingb, loop_start}
use Rattle.lasso.specs.Roll.{least_length}
use Rattle.lasso.specs.Shown.{HasLength, OfLeastLength}
use Rattle.lists.proofs.Tests.{parts, join, eq→eqb, some_anyb, lt_below}
use Rattle.lists.proofs.Least.{IsLeast}
use Rattle.lasso.proofs.Lasso.{loop_start_lem}
use Rattle.lasso.proofs.ShownLaws.{to_be_shown}
use Rattle.lasso.proofs.RollLaws.{Shortest, accepting_lasso, lasso_edges, least_length_least, in_roll}
use Rattle.grade_verdicts.specs.Verdict.{accepts_at, leastb, Said, accepting, shortest, verdict}
use Rattle.grade_verdicts.specs.Shown.{AcceptingAt, VerdictsShown}

module _ (g : Graph) (wf : WellFormed g) (xs : List ℕ) (k : ℕ) where
  -- a list that is accepted at k is an accepting path, and k is its loop start
  accepts_accepting : T (accepts_at g xs k) → AcceptingAt g xs k
  accepts_accepting h =
      let low : k < edges xs = search (parts, ltb→lt) in
      let starts : T (eqb (get_or xs 0 0) g.start) = search parts in
      let path : T (pathb g xs) = search parts in
      let loops : T (loopsb g xs k) = search parts in
      let different : T (differentb (take (edges xs) xs)) = search parts in
      let some-edge : T (leb 1 (edges xs)) = le→leb 1 (edges xs) (omega arith) in
      let somewhere : T (anyb (loopsb g xs) (below (edges xs))) = some_anyb (loopsb g xs) (lt_below (edges xs) k low) loops in
      let lasso : T (lassob g xs) = search join in
      let acc : T (acceptingb g xs) = search join in
      let (first-low, closes, unique) = loop_start_lem g xs acc in
      let same : get_or xs (edges xs) 0 ≡ get_or xs k 0 = search (parts, eqb→eq) in
      (acc, unique k low (sym same))

  -- an accepting path is accepted at its loop start
  accepting_accepts : AcceptingAt g xs k → T (accepts_at g xs k)
  accepting_accepts (acc, e) =
      let lasso : T (lassob g xs) = accepting_lasso g xs acc in
      let (first-low, closes, unique) = loop_start_lem g xs acc in
      let some-entries : T (leb 2 (length xs)) = le→leb 2 (length xs) (omega (arith, lasso_edges g xs lasso)) in
      let low : T (ltb k (edges xs)) = lt→ltb k (edges xs) (omega arith) in
      let starts : T (eqb (get_or xs 0 0) g.start) = search parts in
      let path : T (pathb g xs) = search parts in
      let loops : T (loopsb g xs k) = subst (λ (m : ℕ). T (loopsb g xs m)) (sym e) ((to_be_shown g wf).loop_there xs acc) in
      let different : T (differentb (take (edges xs) xs)) = search parts in
      search join

  -- an accepting path has the least length exactly if none has fewer transitions
  least_exactly : T (acceptingb g xs) → T (leastb (least_length g) (edges xs)) ↔ Shortest g xs
  least_exactly acc = go (least_length g) (least_length_least g wf)
    where
      go : (a : Option ℕ) → IsLeast (HasLength (acceptingb g)) a → T (leastb a (edges xs)) ↔ Shortest g xs
      go none least = absurd (least (edges xs) (xs, acc, refl))
      go (some l) least = (
        λ t ys a. omega (arith, eqb→eq (edges xs) l t, least.1 (edges ys) (ys, a, refl)),
        λ s. let (ys, a, e) = least.0 in eq→eqb (edges xs) l (omega (arith, s ys a, least.1 (edges xs) (xs, acc, refl))),
      )

  -- an accepting path that has not the least length is longer than another
  longer_exactly : T (acceptingb g xs) → T (not (leastb (least_length g) (edges xs))) ↔ ((ys : List ℕ) × T (acceptingb g ys) × (edges ys < edges xs))
  longer_exactly acc = go (least_length g) (least_length_least g wf)
    where
      go : (a : Option ℕ) → IsLeast (HasLength (acceptingb g)) a
          → T (not (leastb a (edges xs))) ↔ ((ys : List ℕ) × T (acceptingb g ys) × (edges ys < edges xs))
      go none least = absurd (least (edges xs) (xs, acc, refl))
      go (some l) least = (
        λ t.
            let (ys, a, e) = least.0 in
            let apart : (edges xs ≡ l → ⊥) = λ q. T_not (eqb (edges xs) l) t (eq→eqb (edges xs) l q) in
            (ys, a, omega (arith, apart, least.1 (edges xs) (xs, acc, refl))),
        λ (ys, a, less). not_T (eqb (edges xs) l) (λ t. omega (arith, eqb→eq (edges xs) l t, least.1 (edges ys) (ys, a, refl))),
      )

-- the verdict by its two tests
abbrev said_by : Bool → Bool → Said
said_by accepts least = pick accepts (pick least shortest accepting) Said.false

-- a number for each verdict, by which they differ
abbrev rank : Said → ℕ
rank Said.false = 0
rank accepting = 1
rank shortest = 2

-- "false" exactly if the first test fails
said_by_false : (a l : Bool) → (said_by a l ≡ Said.false) ↔ T (not a)
said_by_false true true = (λ e. absurd (omega (arith, ap rank e)), λ t. absurd t)
said_by_false true false = (λ e. absurd (omega (arith, ap rank e)), λ t. absurd t)
said_by_false false l = (λ e. tt, λ t. refl)

-- "shortest" exactly if both tests pass
said_by_shortest : (a l : Bool) → (said_by a l ≡ shortest) ↔ (T a × T l)
said_by_shortest true true = (λ e. (tt, tt), λ t. refl)
said_by_shortest true false = (λ e. absurd (omega (arith, ap rank e)), λ t. absurd t.1)
said_by_shortest false l = (λ e. absurd (omega (arith, ap rank e)), λ t. absurd t.0)

-- "accepting" exactly if the first passes and the second fails
said_by_accepting : (a l : Bool) → (said_by a l ≡ accepting) ↔ (T a × T (not l))
said_by_accepting true true = (λ e. absurd (omega (arith, ap rank e)), λ t. absurd t.1)
said_by_accepting true false = (λ e. (tt, tt), λ t. refl)
said_by_accepting false l = (λ e. absurd (omega (arith, ap rank e)), λ t. absurd t.0)

module _ (g : Graph) (wf : WellFormed g) (xs : List ℕ) (k : ℕ) where
  -- the two tests of the verdict
  abbrev accepts : Bool
  accepts = accepts_at g xs k

  abbrev least : Bool
  least = leastb (least_length g) (edges xs)

  -- a list that is not accepted is "false"
  not_accepted : (T (accepts_at g xs k) → ⊥) → verdict g xs k ≡ Said.false
  not_accepted h = (said_by_false accepts least).1 (not_T accepts h)

  -- "shortest" exactly if it is an accepting path with that k that no accepting path is shorter than
  shortest_iff : (verdict g xs k ≡ shortest) ↔ (OfLeastLength (acceptingb g) xs × (k ≡ loop_start xs))
  shortest_iff = (
    λ e.
        let (a, l) = (said_by_shortest accepts least).0 e in
        let (acc, at) = accepts_accepting g wf xs k a in
        ((acc, (least_exactly g wf xs k acc).0 l), at),
    λ ((acc, s), at). (said_by_shortest accepts least).1 (accepting_accepts g wf xs k (acc, at), (least_exactly g wf xs k acc).1 s),
  )

  -- "accepting" exactly if one with fewer transitions exists
  accepting_iff : (verdict g xs k ≡ accepting) ↔ (AcceptingAt g xs k × ((ys : List ℕ) × T (acceptingb g ys) × (edges ys < edges xs)))
  accepting_iff = (
    λ e.
        let (a, l) = (said_by_accepting accepts least).0 e in
        let (acc, at) = accepts_accepting g wf xs k a in
        ((acc, at), (longer_exactly g wf xs k acc).0 l),
    λ ((acc, at), longer). (said_by_accepting accepts least).1 (accepting_accepts g wf xs k (acc, at), (longer_exactly g wf xs k acc).1 longer),
  )

pub verdicts_shown : VerdictsShown
verdicts_shown g wf = record {
  accepts_exactly = λ xs k. (accepts_accepting g wf xs k, accepting_accepts g wf xs k);
  false_exactly = λ xs k. (
    λ e a. T_not (accepts_at g xs k) ((said_by_false (accepts_at g xs k) (leastb (least_length g) (edges xs))).0 e) (accepting_accepts g wf xs k a),
    λ n. not_accepted g wf xs k (λ t. n (accepts_accepting g wf xs k t)),
  );
  shortest_exactly = λ xs k. shortest_iff g wf xs k;
  shortest_in_roll = λ xs k. (
    λ e. let (s, at) = (shortest_iff g wf xs k).0 e in ((in_roll g wf xs).1 s, at),
    λ (m, at). (shortest_iff g wf xs k).1 ((in_roll g wf xs).0 m, at),
  );
  accepting_exactly = λ xs k. accepting_iff g wf xs k;
  short_false = λ xs k less. not_accepted g wf xs k
      (λ t. let (acc, at) = accepts_accepting g wf xs k t in omega (arith, lasso_edges g xs (accepting_lasso g xs acc)));
  late_false = λ xs k late. not_accepted g wf xs k
      (λ t. let low : k < edges xs = search (parts, ltb→lt) in omega arith);
}
