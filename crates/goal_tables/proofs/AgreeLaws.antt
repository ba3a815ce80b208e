-- Two lists that agree up to a place have the same tables after a loop start there.
use Prim.Native.Nat.{ℕ, ◌+◌, ◌≤◌, ◌<◌}
use native.Mathlib.Omega.{arith}
use mathlib.Core.Path.{◌≡◌, sym, ◌∙◌, subst}
use mathlib.Core.Logic.{◌↔◌, inl, inr}
use mathlib.Core.List.{List}
use mathlib.Core.Option.{some}
use lib.Dec.{T}
use Rattle.lasso.specs.Graph.{Graph}
use Rattle.lasso.specs.Distance.{dist}
use Rattle.walks.specs.Through.{via_mark}
use Rattle.frontier.specs.Regions.{entry}
use Rattle.stems.specs.Stems.{IsStart, LoopAt}
use Rattle.goals.specs.Goals.{LastStart, LastMark, Goal, Later, Sooner, LaterTable, SoonerTable}
use Rattle.goals.proofs.LastLaws.{last_iff}
use Rattle.goal_tables.specs.Tables.{Tables}

-- what an entry tells, an equal one tells
pub same_iff : {x y v : ℕ} {P : Type 0} → y ≡ x → (x ≡ v) ↔ P → (y ≡ v) ↔ P
same_iff e both = (λ at. both.0 (sym e ∙ at), λ z. e ∙ both.1 z)

-- two lists that agree up to place b
module _ {g : Graph} {l b : ℕ} {p p' : ℕ → ℕ} (agree : (k : ℕ) → k ≤ b → p k ≡ p' k) where
  -- have the same goals
  goal_agree : {m y : ℕ} → m ≤ b + 1 → Goal g l p m y → Goal g l p' m y
  goal_agree low z =
      record { place = z.place; low = z.low; holds = sym (agree z.place (omega (arith, z.low))) ∙ z.holds; at = z.at; starts = z.starts }

  -- and the same entries in the tables
  later_agree : (t c : ℕ) → Later g l p b t c → Later g l p' b t c
  later_agree t c (via, (m, total, (y, z, way))) =
      (subst (λ (x : ℕ). via_mark g x t ≡ some c) (agree b (omega arith)) via, (m, total, (y, goal_agree (omega arith) z, way)))

  sooner_agree : {mark : ℕ} → mark ≤ b + 1 → (t c : ℕ) → Sooner g l p b mark t c → Sooner g l p' b mark t c
  sooner_agree low t c (near, (m, total, inl (y, z, way))) =
      (subst (λ (x : ℕ). dist g x t ≡ some c) (agree b (omega arith)) near, (m, total, inl (y, goal_agree low z, way)))
  sooner_agree low t c (near, (m, total, inr (z, y, a, e, is, to_mark, on, goal, sum))) =
      (subst (λ (x : ℕ). dist g x t ≡ some c) (agree b (omega arith)) near, (m, total, inr (z, y, a, e, is, to_mark, on, goal_agree (omega arith) goal, sum)))

-- the same loop start at a place
pub loop_agree : {g : Graph} {l : ℕ} {p p' : ℕ → ℕ} (k : ℕ) → p k ≡ p' k → LoopAt g l p k → LoopAt g l p' k
loop_agree {g} {l} k e x =
    record { at = subst (λ (y : ℕ). dist g g.start y ≡ some k) e x.at; is = subst (λ (y : ℕ). IsStart g l y) e x.is }

-- the same last loop start
pub start_agree : {g : Graph} {l place start : ℕ} {p p' : ℕ → ℕ} → ((k : ℕ) → k ≤ place → p k ≡ p' k) → LastStart g l p place start → LastStart g l p' place start
start_agree {g} {l} {place} {start} {p} {p'} agree =
    last_iff (LoopAt g l p) (LoopAt g l p') place start (λ k h. loop_agree k (agree k h)) (λ k h. loop_agree k (sym (agree k h)))

-- and the same last mark
pub mark_agree : (g : Graph) {place mark : ℕ} (p p' : ℕ → ℕ) → ((k : ℕ) → k ≤ place → p k ≡ p' k) → LastMark g p place mark → LastMark g p' place mark
mark_agree g {place} {mark} p p' agree =
    last_iff (λ k. T (g.marked (p k))) (λ k. T (g.marked (p' k))) place mark
    (λ k h. subst (λ (x : ℕ). T (g.marked x)) (agree k h)) (λ k h. subst (λ (x : ℕ). T (g.marked x)) (sym (agree k h)))

-- so a table for one is a table for the other
pub later_for : {g : Graph} {l b : ℕ} {p p' : ℕ → ℕ} {w : List ℕ} → ((k : ℕ) → k ≤ b → p k ≡ p' k) → LaterTable g l p b w → LaterTable g l p' b w
later_for agree o =
    record {
      later = λ t c i.
          let both = o.later t c i in
          (λ at. later_agree agree t c (both.0 at), λ x. both.1 (later_agree (λ k h. sym (agree k h)) t c x));
    }

pub sooner_for : {g : Graph} {l b mark : ℕ} {p p' : ℕ → ℕ} {w : List ℕ} → ((k : ℕ) → k ≤ b → p k ≡ p' k) → mark ≤ b + 1 → SoonerTable g l p b mark w → SoonerTable g l p' b mark w
sooner_for agree low o =
    record {
      sooner = λ t c i.
          let both = o.sooner t c i in
          (λ at. sooner_agree agree low t c (both.0 at), λ x. both.1 (sooner_agree (λ k h. sym (agree k h)) low t c x));
    }

-- both tables, in a table w' that has the same entries in regions 2 and 5
pub tables_for : {g : Graph} {l b : ℕ} {p p' : ℕ → ℕ} {w w' : List ℕ} → ((k : ℕ) → k ≤ b → p k ≡ p' k)
    → ((t : ℕ) → t < g.size → entry 2 g.size w' t ≡ entry 2 g.size w t) → ((t : ℕ) → t < g.size → entry 5 g.size w' t ≡ entry 5 g.size w t)
    → Tables g l p b w → Tables g l p' b w'
tables_for {g} {l} {b} {p} {p'} {w} {w'} agree two five x =
    record {
      mark = x.mark;
      last = mark_agree g p p' agree x.last;
      later = later_for agree (record { later = λ t c i. same_iff (five t i) (x.later.later t c i) });
      sooner = sooner_for agree x.last.low (record { sooner = λ t c i. same_iff (two t i) (x.sooner.sooner t c i) });
    }
