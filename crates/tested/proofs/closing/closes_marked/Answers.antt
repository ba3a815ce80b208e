use Prim.Native.Nat.{ℕ, ◌+◌, ◌-◌, ◌≤◌}
use mathlib.Core.Path.{◌≡◌, sym, ◌∙◌, ap, subst}
use mathlib.Core.List.{◌∷◌}
use native.Mathlib.Omega.{arith}
use lib.ListN.{get_or}
use Rattle.model.specs.Model.{graph_in}
use Rattle.lists.specs.Decides.{Decides}
use Rattle.tested.proofs.ClosingTests.{MarkFrom, mark_from_here, mark_from_skip, from_more, read_two}
use Rattle.tested.proofs.closing.closes_marked.Invariants.{NotClosing}
use Rattle.tested.proofs.closing.closes_marked.Goals as goal
use Rattle.tested.proofs.closing.closes_marked.Goals.{then-is_marked, else-is_marked, then-marked+else-level-ne0, else-level-ne0-via-then-level-ne0+else-level-left, else-level-ne0-via-else-level-ne0, else-marked, Joined-is_marked, Joined-marked}

-- after its state is looked at, the flag tells if a state from place k on is marked
flag : (c : Joined-is_marked) → let a = c.args in
    Decides (MarkFrom (graph_in a.file.now a.h) a.h.start a.work.now a.place c.loop-k.k) c.if-is_marked.marked
flag c =
    let a = c.args in
    let g = graph_in a.file.now a.h in
    let mark : g.marked (get_or (a.h.start ∷ a.work.now) c.loop-k.k 0) ≡ c.is_marked.result =
    sym (c.is_marked.ensures ∙ ap g.marked c.list_at-s.ensures) in
    elim c.if-is_marked.branch [
      | then-is_marked v ↦ mark_from_here g a.h.start a.work.now a.place c.loop-k.k (omega arith) (mark ∙ v.if-is_marked.true) c.if-is_marked.marked v.marked-is
      | else-is_marked v ↦ mark_from_skip g a.h.start a.work.now a.place c.loop-k.k (mark ∙ v.if-is_marked.false) c.if-is_marked.marked c.loop-k.marked v.marked-is c.loop-k.invariant.0
    ]

-- no place from k on passes the test
none : (c : Joined-marked) → let a = c.args in (x : ℕ) → c.loop-k.k ≤ x → NotClosing a.file.now a.h a.work.now a.place a.left x
none c =
    let a = c.args in
    let known = flag (goal.at.Joined-marked c).Joined-is_marked in
    let level = read_two a.h.states a.work.now c.list_at-s.result _ c.list_at-s.ensures in
    from_more (NotClosing a.file.now a.h a.work.now a.place a.left) c.loop-k.k c.loop-k.invariant.1 (λ b m e h. elim c.if-marked.branch [
      | then-marked+else-level-ne0 w ↦ elim w.else-level-ne0.branch [
        | else-level-ne0-via-then-level-ne0+else-level-left v ↦ omega (arith, w.get-level.ensures.value, v.if-level-left.false)
        | else-level-ne0-via-else-level-ne0 v ↦ omega (arith, w.get-level.ensures.value, v.if-level-ne0.false)
      ]
      | else-marked w ↦ (rw w.if-marked.false at known) m
    ])

pub returns-then-level-left : goal.returns-then-level-left
returns-then-level-left c =
    let a = c.args in
    let level = c.get-level.ensures.value ∙ read_two a.h.states a.work.now c.list_at-s.result _ c.list_at-s.ensures in
    let (r, h, i, t) = rw c.if-marked.true at (flag (goal.at.returns-then-level-left c).Joined-is_marked) in
    (c.loop-k.k, r, c.get-level.result - 1, h, i, t, omega (arith, level), omega arith)

pub loop-k-preserved : goal.loop-k-preserved
loop-k-preserved c =
    let a = c.args in
    let e : c.loop-k.k ≡ c.loop-k.k - 1 + 1 = omega arith in (
      subst (λ (k : ℕ). Decides (MarkFrom (graph_in a.file.now a.h) a.h.start a.work.now a.place k) c.if-is_marked.marked) e (flag (goal.at.loop-k-preserved c).Joined-is_marked),
      λ x h. none (goal.at.loop-k-preserved c).Joined-marked x (omega arith),
    )

pub returns-after-marked : goal.returns-after-marked
returns-after-marked c = λ (k, r, b, h, i, t, e, q). none (goal.at.returns-after-marked c).Joined-marked k (omega arith) b (r, h, i, t) e q
