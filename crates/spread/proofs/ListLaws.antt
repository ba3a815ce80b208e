-- Looking for a state in the list of sources of one level, by a cursor.
use Prim.Native.Nat.{ℕ, suc, ◌≤◌, ◌<◌}
use mathlib.Core.Path.{◌≡◌, sym, subst}
use mathlib.Core.List.{List}
use mathlib.Core.Option.{Option, some}
use native.Mathlib.Omega.{arith}
use Rattle.frontier.specs.Regions.{entry}
use Rattle.frontier.specs.Buckets.{Greatest, SourcesListed}

-- the cursor in the list of a level, while s is looked for: it names the greatest source of the level below a state above s
pub record Looking (source : ℕ → Option ℕ) (n level s cursor : ℕ) : Type 0 where
  pub above : ℕ
  pub within : above ≤ n
  pub beyond : s < above
  pub names : Greatest source level above cursor

module _ {source : ℕ → Option ℕ} {n limit level s : ℕ} {w : List ℕ} (L : SourcesListed source n limit n w) where
  -- the next source of a level is smaller
  pub next_smaller : (u cursor v : ℕ) → cursor ≡ suc u → v ≡ entry 5 n w u → Looking source n level s cursor → v ≤ u
  next_smaller u cursor v q e K =
      omega (arith, (L.nexts u level (omega (arith, K.names.within, K.within)) (K.names.names u q)).within)

  -- it goes on with the next one
  pub looking_next : (u cursor v : ℕ) → cursor ≡ suc u → s < u → v ≡ entry 5 n w u → Looking source n level s cursor → Looking source n level s v
  looking_next u cursor v q beyond e K =
      let here : source u ≡ some level = K.names.names u q in
      record {
        above = u;
        within = omega (arith, K.names.within, K.within);
        beyond = beyond;
        names = subst (Greatest source level u) (sym e) (L.nexts u level (omega (arith, K.names.within, K.within)) here);
      }
