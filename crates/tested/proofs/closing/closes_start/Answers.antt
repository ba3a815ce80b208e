use Prim.Native.Nat.{ℕ, ◌+◌, ◌-◌, ◌<◌}
use mathlib.Core.Path.{◌≡◌, ◌∙◌}
use mathlib.Core.List.{◌∷◌}
use native.Mathlib.Omega.{arith}
use borrow.Author.Count.{below_more}
use lib.ListN.{get_or}
use Rattle.frontier.specs.Regions.{entry}
use Rattle.follow.proofs.FollowTests.{read_one}
use Rattle.tested.proofs.ClosingTests.{read_two}
use Rattle.tested.proofs.closing.closes_start.Invariants.{StartUnreached}
use Rattle.tested.proofs.closing.closes_start.Goals as goal
use Rattle.tested.proofs.closing.closes_start.Goals.{After-get, else-get-eq1-via-then-get-eq1+then-level-ne0+else-level-left, else-get-eq1-via-then-get-eq1+else-level-ne0, else-get-eq1-via-else-get-eq1}

-- the level read is the entry of region 2 for the state at the place
two : (c : After-get) → let a = c.args in c.get-level.result ≡ entry 2 a.h.states a.work.now (get_or (a.h.start ∷ a.work.now) c.loop-k.k 0)
two c = c.get-level.ensures.value ∙ read_two c.args.h.states c.args.work.now c.list_at-s.result _ c.list_at-s.ensures

-- what is read of the stems is the entry of region 1 for the state at the place
one : (c : After-get) → let a = c.args in c.get.result ≡ entry 1 a.h.states a.work.now (get_or (a.h.start ∷ a.work.now) c.loop-k.k 0)
one c = c.get.ensures.value ∙ read_one c.args.h.states c.args.work.now c.list_at-s.result _ c.list_at-s.ensures

pub returns-then-level-left : goal.returns-then-level-left
returns-then-level-left c =
    let at = (goal.at.returns-then-level-left c).After-get in
    (c.loop-k.k, c.get-level.result - 1, omega arith, omega (arith, one at), omega (arith, two at), omega arith)

pub loop-k-preserved : goal.loop-k-preserved
loop-k-preserved c =
    let at = (goal.at.loop-k-preserved c).After-get in
    let a = c.args in
    let first = one at in
    let second = two at in
    below_more (StartUnreached a.h.states a.h.start a.work.now a.left) c.loop-k.k c.loop-k.invariant (λ i p q r. elim c.else-get-eq1.branch [
      | else-get-eq1-via-then-get-eq1+then-level-ne0+else-level-left v ↦ omega (arith, v.if-level-left.false)
      | else-get-eq1-via-then-get-eq1+else-level-ne0 v ↦ omega (arith, v.if-level-ne0.false)
      | else-get-eq1-via-else-get-eq1 v ↦ omega (arith, v.if-get-eq1.false)
    ])

pub returns-else-get-eq1 : goal.returns-else-get-eq1
returns-else-get-eq1 c =
    let at = (goal.at.returns-else-get-eq1 c).After-get in
    let a = c.args in
    let first = one at in
    let second = two at in
    let none : (x : ℕ) → x < c.loop-k.k + 1 → StartUnreached a.h.states a.h.start a.work.now a.left x =
    below_more (StartUnreached a.h.states a.h.start a.work.now a.left) c.loop-k.k c.loop-k.invariant (λ i p q r. elim c.else-get-eq1.branch [
      | else-get-eq1-via-then-get-eq1+then-level-ne0+else-level-left v ↦ omega (arith, v.if-level-left.false)
      | else-get-eq1-via-then-get-eq1+else-level-ne0 v ↦ omega (arith, v.if-level-ne0.false)
      | else-get-eq1-via-else-get-eq1 v ↦ omega (arith, v.if-get-eq1.false)
    ]) in
    λ (k, b, l, p, q, r). none k (omega arith) b p q r
