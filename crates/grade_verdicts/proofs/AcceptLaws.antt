-- The verdict, test by test: which lists are not accepted at k, when the length is the least, and the verdict by both.
use Prim.Native.Nat.{ℕ, ◌+◌, ◌≤◌, ◌<◌}
use mathlib.Core.Path.{◌≡◌, ◌∙◌, ap}
use mathlib.Core.Bool.{Bool, true, false}
use mathlib.Core.List.{List}
use mathlib.Core.Option.{Option, some, none}
use native.Mathlib.Omega.{arith}
use borrow.Author.Tests.{eq-eqb, ne_eqb}
use lib.ListN.{length, get_or, take}
use lib.Dec.{T, eqb, leb, ltb, eqb→eq, leb→le, le→leb, ltb→lt, lt→ltb, not_T}
use Rattle.lists.specs.Lists.{pick, differentb}
use Rattle.lasso.specs.Graph.{Graph, edges, pathb, loopsb}
use Rattle.lasso.specs.Roll.{least_length}
use Rattle.lists.proofs.Tests.{parts, join, same_tests, T_false, eq→eqb}
use Rattle.grade_verdicts.specs.Verdict.{accepts_at, leastb, Said, accepting, shortest, verdict}

-- without an accepting path no length is the least
pub least_none : (a : Option ℕ) (l : ℕ) → a ≡ none → leastb a l ≡ false
least_none a l e = ap (λ (b : Option ℕ). leastb b l) e

module _ (a : Option ℕ) (l : ℕ) (e : a ≡ some l) (xs : List ℕ) where
  -- a list with one entry more than the least length has it
  pub least_same : length xs ≡ l + 1 → leastb a (edges xs) ≡ true
  least_same long = ap (λ (b : Option ℕ). leastb b (edges xs)) e ∙ eq-eqb (edges xs) l (omega arith)

  -- a list of another number of entries has not
  pub least_other : 2 ≤ length xs → (length xs ≡ l + 1 → ⊥) → leastb a (edges xs) ≡ false
  least_other some-edge apart = ap (λ (b : Option ℕ). leastb b (edges xs)) e ∙ ne_eqb (edges xs) l (λ q. apart (omega arith))

module _ (g : Graph) (xs : List ℕ) (k : ℕ) where
  -- a list that is not so is not accepted
  pub refuted : (T (accepts_at g xs k) → ⊥) → accepts_at g xs k ≡ false
  refuted h = T_false (accepts_at g xs k) (not_T (accepts_at g xs k) h)

  -- nor is one with a k that is not below its length
  pub accepts_late : edges xs ≤ k → accepts_at g xs k ≡ false
  accepts_late late = refuted (λ h. let low : k < edges xs = search (parts, ltb→lt) in omega arith)

  -- nor one that starts elsewhere
  pub accepts_elsewhere : (get_or xs 0 0 ≡ g.start → ⊥) → accepts_at g xs k ≡ false
  accepts_elsewhere apart = refuted (λ h. apart (search (parts, eqb→eq)))

  -- nor one that repeats a state before its end
  pub accepts_repeat : differentb (take (edges xs) xs) ≡ false → accepts_at g xs k ≡ false
  accepts_repeat e =
      refuted (λ h. let different : T (differentb (take (edges xs) xs)) = search parts in rw e at different)

  -- one that passes these tests is accepted if it closes there with a mark
  pub accepts_closes : 2 ≤ length xs → k < edges xs → get_or xs 0 0 ≡ g.start → T (pathb g xs)
      → differentb (take (edges xs) xs) ≡ true → loopsb g xs k ≡ accepts_at g xs k
  accepts_closes some-entries low starts path different =
      same_tests (loopsb g xs k) (accepts_at g xs k) to (λ h. search parts)
    where
      to : T (loopsb g xs k) → T (accepts_at g xs k)
      to loops =
          let entries : T (leb 2 (length xs)) = le→leb 2 (length xs) some-entries in
          let before : T (ltb k (edges xs)) = lt→ltb k (edges xs) low in
          let first : T (eqb (get_or xs 0 0) g.start) = eq→eqb (get_or xs 0 0) g.start starts in
          let all : T (differentb (take (edges xs) xs)) = rw different tt in
          search join

-- a list that is not accepted is "false"
pub verdict_false : (g : Graph) (xs : List ℕ) (k : ℕ) → accepts_at g xs k ≡ false → verdict g xs k ≡ Said.false
verdict_false g xs k e = ap (λ (b : Bool). pick b (pick (leastb (least_length g) (edges xs)) shortest accepting) Said.false) e

-- one that is accepted is "shortest" or "accepting", by its length
pub verdict_accepted : (g : Graph) (xs : List ℕ) (k : ℕ) → accepts_at g xs k ≡ true → (b : Bool)
    → leastb (least_length g) (edges xs) ≡ b → verdict g xs k ≡ pick b shortest accepting
verdict_accepted g xs k e b q =
    ap (λ (c : Bool). pick c (pick (leastb (least_length g) (edges xs)) shortest accepting) Said.false) e
    ∙ ap (λ (c : Bool). pick c shortest accepting) q

-- a list that is accepted has two entries
pub accepts_entries : (g : Graph) (xs : List ℕ) (k : ℕ) → accepts_at g xs k ≡ true → 2 ≤ length xs
accepts_entries g xs k e = let h : T (accepts_at g xs k) = rw e tt in search (parts, leb→le)
