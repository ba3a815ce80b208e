-- The entry of region 1 for one state, by the entry of its distance in region 0: nothing if it is not reached before the
-- length, else its loop length within the rest of the length.
use Prim.Native.Nat.{ℕ, suc, ◌+◌, ◌-◌, ◌≤◌, ◌<◌}
use mathlib.Core.Path.{◌≡◌, refl, ap}
use mathlib.Core.Option.{Option, some, none}
use native.Mathlib.Omega.{arith}
use Rattle.lasso.specs.Graph.{Graph, WellFormed}
use Rattle.lasso.specs.Distance.{dist}
use Rattle.frontier.specs.Regions.{entry_of}
use Rattle.lists.specs.Limit.{under}
use Rattle.walks.specs.Through.{loop_length}
use Rattle.starts.specs.LoopStarts.{start_loop}
use Rattle.starts.proofs.StartLaws.{loop_length_closed, dist_state, start_loop_iff}

-- the entry 0 is that of no value
pub entry_of_zero : (a : Option ℕ) → 0 ≡ entry_of a → a ≡ none
entry_of_zero none q = refl
entry_of_zero (some b) q = absurd (omega arith)

-- a positive entry is that of the value one less
pub entry_of_some : (a : Option ℕ) (e : ℕ) → e ≡ entry_of a → 1 ≤ e → a ≡ some (e - 1)
entry_of_some none e q l = absurd (omega arith)
entry_of_some (some d) e q l = let z : d ≡ e - 1 = omega arith in ap (λ (k : ℕ). some k) z

-- the entry of a value that cannot be there is 0
pub none_entry_of : (a : Option ℕ) → ((b : ℕ) → a ≡ some b → ⊥) → 0 ≡ entry_of a
none_entry_of none h = refl
none_entry_of (some b) h = absurd (h b refl)

-- a state that is not reached starts no loop
pub start_loop_unreached : (g : Graph) (l s : ℕ) → 0 ≡ entry_of (dist g g.start s) → 0 ≡ entry_of (start_loop g l s)
start_loop_unreached g l s q = rw (entry_of_zero (dist g g.start s) q)

-- a state whose distance is the length or more starts no loop
pub start_loop_far : {g : Graph} → WellFormed g → (l s : ℕ) {e : ℕ} → e ≡ entry_of (dist g g.start s) → l < e
    → 0 ≡ entry_of (start_loop g l s)
start_loop_far {g} wf l s {e} q far =
    none_entry_of (start_loop g l s) (λ b h.
    let (d, at, loop, le) = (start_loop_iff wf l s b).0 h in
    let same : entry_of (dist g g.start s) ≡ suc d = ap entry_of at in
    omega (arith, (loop_length_closed wf (dist_state wf at) loop).0))

-- the loop that a reached state can start is within the rest of the length
pub start_loop_reached : (g : Graph) (l s e : ℕ) → e ≡ entry_of (dist g g.start s) → 1 ≤ e
    → start_loop g l s ≡ under (suc (l + 1 - e)) (loop_length g s)
start_loop_reached g l s e q p =
    let z : l - (e - 1) ≡ l + 1 - e = omega arith in
    rw (entry_of_some (dist g g.start s) e q p, z)
