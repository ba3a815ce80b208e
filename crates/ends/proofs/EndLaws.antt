-- How the flags of ends come, and what they say.
use Prim.Native.Nat.{ℕ, zero, suc, ◌+◌, ◌*◌, ◌-◌, ◌/◌, ◌%◌, ◌≤◌, ◌<◌}
use native.Mathlib.Omega.{arith}
use mathlib.Core.Path.{◌≡◌, refl, sym, ◌∙◌, subst}
use mathlib.Core.Logic.{inl, inr}
use mathlib.Core.Bool.{Bool, true, false}
use Rattle.std.specs.Int.{from_bool}
use Rattle.lists.specs.Decides.{Decides}
use mathlib.Core.List.{List, ◌∷◌}
use lib.ListN.{length, get_or, set}
use lib.Seq.{get_or-set_same, get_or-set_other}
use Rattle.lasso.specs.Graph.{Graph, WellFormed}
use Rattle.lists.proofs.Tests.{lt_or_ge}
use Rattle.table.specs.Changes.{SameOutside}
use Rattle.table.proofs.Laws.{same_outside_refl, same_outside_sym, same_outside_set}
use Rattle.frontier.specs.Regions.{entry}
use Rattle.current.proofs.CurrentLaws.{list_kept}
use Rattle.looks.specs.Looks.{GoalAt, Closes}
use Rattle.ends.specs.Ends.{FlagFor, MarkedEnd, FlagMore, as_before, flagged, ClosingPut, MarkedPut}

-- a change of region 4 keeps goals
pub goal_same : {n bound y : ℕ} {w w' : List ℕ} (start : ℕ) → SameOutside (4 * n) (5 * n) w w' → bound ≤ n → y < n → GoalAt n start w bound y → GoalAt n start w' bound y
goal_same {n} {bound} {y} {w} {w'} start same low h (odd, least, most, holds) =
    let e : entry 1 n w' y ≡ entry 1 n w y = same.same_before (1 * n + y) (omega arith) in
    let place : get_or (start ∷ w') (entry 1 n w y / 2 - 1) 0 ≡ get_or (start ∷ w) (entry 1 n w y / 2 - 1) 0 = list_kept start (entry 1 n w y / 2 - 1) same (omega arith) in
    subst (λ (x : ℕ). (x % 2 ≡ 1) × (1 ≤ x / 2) × (x / 2 ≤ bound) × (get_or (start ∷ w') (x / 2 - 1) 0 ≡ y)) (sym e) (odd, least, most, place ∙ holds)

-- the number of an answer is a flag
pub flag_for : (P : Type 0) (r : Bool) → Decides P r → FlagFor P (from_bool r)
flag_for P true p = (p, refl)
flag_for P false never = never

-- a flag for an equivalent statement
flag_iff : {P Q : Type 0} (v : ℕ) → (P → Q) → (Q → P) → FlagFor P v → FlagFor Q v
flag_iff zero to back h = λ x. h (back x)
flag_iff (suc v) to back h = (to h.0, h.1)

-- what closes after a change of region 4 closed before
closes_same : {g : Graph} {n level bound s : ℕ} {w w' : List ℕ} (start : ℕ) → WellFormed g → g.size ≡ n → SameOutside (4 * n) (5 * n) w w' → bound ≤ n → s < n → Closes g n start w level bound s → Closes g n start w' level bound s
closes_same {g} {n} {level} {bound} {s} start wf size same low h (at, (y, edge, goal)) =
    (same.same_before (2 * n + s) (omega arith) ∙ at, (y, edge, goal_same start same low (omega (arith, (wf.edge_states s y edge).1)) goal))

-- at first no flag is put
pub closing_none : (g : Graph) (n start level bound : ℕ) (w : List ℕ) → ClosingPut g n start level bound 0 w w
closing_none g n start level bound w = record { outside = same_outside_refl (4 * n) (5 * n) w; put = λ s h. absurd (omega arith) }

-- one more is
pub closing_more : (g : Graph) (n start level bound i : ℕ) (w w' : List ℕ) (v : ℕ) → WellFormed g → g.size ≡ n → bound ≤ n → i < n → 5 * n ≤ length w
    → ClosingPut g n start level bound i w w' → FlagFor (Closes g n start w' level bound i) v → ClosingPut g n start level bound (i + 1) w (set w' (4 * n + i) v)
closing_more g n start level bound i w w' v wf size low h room o flag =
    record {
      outside = same_outside_set (4 * n + i) v (omega arith) (omega arith) o.outside;
      put = λ s k. elim (lt_or_ge s i) [
        | inl less ↦ subst (FlagFor (Closes g n start w level bound s)) (sym (other s (omega arith))) (o.put s less)
        | inr ge ↦
            let z : i ≡ s = omega arith in
            subst (λ (x : ℕ). FlagFor (Closes g n start w level bound x) (entry 4 n (set w' (4 * n + i) v) x)) z
            (subst (FlagFor (Closes g n start w level bound i)) (sym here) (flag_iff v (closes_same start wf size (same_outside_sym o.outside) low h) (closes_same start wf size o.outside low h) flag))
      ];
    }
  where
    other : (s : ℕ) → (s ≡ i → ⊥) → entry 4 n (set w' (4 * n + i) v) s ≡ entry 4 n w' s
    other s d = get_or-set_other w' (4 * n + i) (4 * n + s) v 0 (λ q. d (omega arith))

    here : entry 4 n (set w' (4 * n + i) v) i ≡ v
    here = get_or-set_same w' (4 * n + i) v 0 (omega (arith, o.outside.same_length))

-- at first no marked end is flagged
pub marked_none : (g : Graph) (n : ℕ) (w : List ℕ) → MarkedPut g n 0 w w
marked_none g n w = record { outside = same_outside_refl (4 * n) (5 * n) w; put = λ s h. absurd (omega arith); rest = λ s p h. refl }

-- a change of region 4 keeps marked ends
ends_same : (g : Graph) {n s : ℕ} {w w' : List ℕ} → SameOutside (4 * n) (5 * n) w w' → s < n → MarkedEnd g n w s → MarkedEnd g n w' s
ends_same g {n} {s} {w} {w'} same h (m, r, e) =
    let two : entry 2 n w' s ≡ entry 2 n w s = same.same_before (2 * n + s) (omega arith) in
    let five : entry 5 n w' s ≡ entry 5 n w s = same.same_after (5 * n + s) (omega arith) in
    (m, omega (arith, two), omega (arith, two, five))

-- one more is
pub marked_more : {g : Graph} {n i : ℕ} {w w' : List ℕ} → i < n → 6 * n ≤ length w → MarkedPut g n i w w' → MarkedEnd g n w' i
    → MarkedPut g n (i + 1) w (set w' (4 * n + i) 1)
marked_more {g} {n} {i} {w} {w'} h room o end =
    record {
      outside = same_outside_set (4 * n + i) 1 (omega arith) (omega arith) o.outside;
      put = λ s k. elim (lt_or_ge s i) [
        | inl less ↦ subst (FlagMore (MarkedEnd g n w s) (entry 4 n w s)) (sym (other s (omega arith))) (o.put s less)
        | inr ge ↦
            let z : i ≡ s = omega arith in
            subst (λ (x : ℕ). FlagMore (MarkedEnd g n w x) (entry 4 n w x) (entry 4 n (set w' (4 * n + i) 1) x)) z
            (flagged here (ends_same g (same_outside_sym o.outside) h end))
      ];
      rest = λ s p k. other s (omega arith) ∙ o.rest s (omega arith) k;
    }
  where
    other : (s : ℕ) → (s ≡ i → ⊥) → entry 4 n (set w' (4 * n + i) 1) s ≡ entry 4 n w' s
    other s d = get_or-set_other w' (4 * n + i) (4 * n + s) 1 0 (λ q. d (omega arith))

    here : entry 4 n (set w' (4 * n + i) 1) i ≡ 1
    here = get_or-set_same w' (4 * n + i) 1 0 (omega (arith, o.outside.same_length))

-- a state that is no marked end is passed
pub marked_pass : {g : Graph} {n i : ℕ} {w w' : List ℕ} → i < n → MarkedPut g n i w w' → (MarkedEnd g n w' i → ⊥) → MarkedPut g n (i + 1) w w'
marked_pass {g} {n} {i} {w} {w'} h o never =
    record {
      outside = o.outside;
      put = λ s k. elim (lt_or_ge s i) [
        | inl less ↦ o.put s less
        | inr ge ↦
            let z : i ≡ s = omega arith in
            subst (λ (x : ℕ). FlagMore (MarkedEnd g n w x) (entry 4 n w x) (entry 4 n w' x)) z
            (as_before (o.rest i (omega arith) h) (λ end. never (ends_same g o.outside h end)))
      ];
      rest = λ s p k. o.rest s (omega arith) k;
    }
