-- Goals by the entries of the working table, and the states that the flags name.
use Prim.Native.Nat.{ℕ, zero, suc, ◌+◌, ◌*◌, ◌-◌, ◌/◌, ◌≤◌, ◌<◌}
use native.Mathlib.Omega.{arith}
use mathlib.Core.Path.{◌≡◌, sym, ◌∙◌, ap}
use mathlib.Core.Logic.{◌↔◌}
use mathlib.Core.List.{List, ◌∷◌}
use mathlib.Core.Option.{some}
use lib.ListN.{get_or}
use Rattle.lasso.specs.Graph.{Graph, WellFormed}
use Rattle.lasso.specs.Distance.{dist}
use Rattle.lasso.specs.Roll.{least_length}
use Rattle.frontier.specs.Regions.{entry}
use Rattle.stems.specs.Stems.{StemEntry, on_none, on_stem, on_start, StemEntries}
use Rattle.stems.proofs.StemLaws.{start_stem}
use Rattle.goals.specs.Goals.{Goal, StepTo}
use Rattle.looks.specs.Looks.{GoalAt}
use Rattle.ends.specs.Ends.{FlagFor, ClosingPut}

-- a flag tells
flag_is : {P : Type 0} (v : ℕ) → FlagFor P v → (1 ≤ v) ↔ P
flag_is zero never = (λ h. absurd (omega arith), λ x. absurd (never x))
flag_is (suc v) (x, e) = (λ h. x, λ y. omega arith)

-- goals by the entries of a table whose list is p
module _ {g : Graph} {l bound : ℕ} {p : ℕ → ℕ} {w : List ℕ} (start : ℕ) (wf : WellFormed g) (least : least_length g ≡ some l) (stems : StemEntries g l w)
    (agree : (k : ℕ) → k < bound → get_or (start ∷ w) k 0 ≡ p k) where
  -- what the entries say is a goal
  pub goal_of : (y : ℕ) → y < g.size → GoalAt g.size start w bound y → Goal g l p bound y
  goal_of y h (odd, first, most, holds) = by (stems.entries y h)
    where
      by : StemEntry g l y (entry 1 g.size w y) → Goal g l p bound y
      by (on_none never q) = absurd (omega arith)
      by (on_stem d o not q) = absurd (omega arith)
      by (on_start d o is q) =
          let place : entry 1 g.size w y / 2 - 1 ≡ d = omega arith in
          let low : d < bound = omega arith in
          record {
            place = d;
            low = low;
            holds = sym (agree d low) ∙ sym (ap (λ (k : ℕ). get_or (start ∷ w) k 0) place) ∙ holds;
            at = o.at;
            starts = is;
          }

  -- the entries say so of a goal
  pub of_goal : (y : ℕ) → y < g.size → Goal g l p bound y → GoalAt g.size start w bound y
  of_goal y h z = by (stems.entries y h)
    where
      by : StemEntry g l y (entry 1 g.size w y) → GoalAt g.size start w bound y
      by (on_none never q) = let (d, o) = start_stem wf least y z.starts in absurd (never d o)
      by (on_stem d o not q) = absurd (not z.starts)
      by (on_start d o is q) =
          let there : dist g g.start y ≡ some d = o.at in
          let here : dist g g.start y ≡ some z.place = z.at in
          let equal : d ≡ z.place = cc in
          let place : entry 1 g.size w y / 2 - 1 ≡ z.place = omega arith in
          (omega arith, omega arith, omega (arith, z.low), ap (λ (k : ℕ). get_or (start ∷ w) k 0) place ∙ agree z.place z.low ∙ z.holds)

  -- the flags of the states that close are those with a step to a goal
  pub closing_ends : {w' : List ℕ} (level b s : ℕ) → ClosingPut g g.size start level bound g.size w w' → b + level + 1 ≡ l → s < g.size
      → (1 ≤ entry 4 g.size w' s) ↔ ((b + entry 2 g.size w' s ≡ l) × StepTo g l p bound s)
  closing_ends {w'} level b s o total h =
      let both = flag_is (entry 4 g.size w' s) (o.put s h) in
      let two : entry 2 g.size w' s ≡ entry 2 g.size w s = o.outside.same_before (2 * g.size + s) (omega arith) in (
        λ e. let (at, (y, edge, goal)) = both.0 e in (omega arith, (y, goal_of y (wf.edge_states s y edge).1 goal, edge)),
        λ x. let (at, (y, goal, edge)) = x in both.1 (omega arith, (y, edge, of_goal y (wf.edge_states s y edge).1 goal)),
      )
