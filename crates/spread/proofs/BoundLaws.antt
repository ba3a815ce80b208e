-- How far a search has to look, and what a search up to there says of one up to the limit.
use Prim.Native.Nat.{ℕ, zero, suc, ◌+◌, ◌≤◌, ◌<◌}
use mathlib.Core.Path.{◌≡◌, refl, sym, ap, subst, ◌∙◌}
use mathlib.Core.Bool.{false}
use mathlib.Core.List.{List, [], ◌∷◌}
use mathlib.Core.Logic.{inl, inr}
use mathlib.Core.Option.{Option, some, none}
use native.Mathlib.Omega.{arith}
use lib.ListN.{length, get_or}
use lib.Dec.{T, eqb, eqb_refl}
use Rattle.lists.specs.Lists.{memb}
use Rattle.lists.specs.Limit.{under}
use Rattle.lasso.specs.Graph.{Graph, WellFormed, edgeb}
use Rattle.lists.proofs.Tests.{or_l, lt_or_ge, eq_or_apart}
use Rattle.lists.proofs.Least.{is_least_le}
use Rattle.lists.proofs.UnderLaws.{under_some, some_under, under-under}
use Rattle.lasso.proofs.Walk.{Walk, walk_edge}
use Rattle.frontier.specs.Regions.{entry, value_of}
use Rattle.frontier.specs.Buckets.{sources, Greatest, SourcesListed, Planned}
use Rattle.hits.specs.Hit.{hit_length}
use Rattle.edge_search.specs.Promises.{Apart, ApartInPlan, Spread}
use Rattle.std.specs.Prelude as std
use Rattle.spread.specs.Bounds.{LevelListed, OwnLevel, BoundsInPlan}
use Rattle.edge_search.specs.declared.SpreadAnswer.TheVariants.{Length, Nothing}
use Rattle.hits.proofs.HitLaws.{Timed, hit_length_least, hit_length-under}

-- a list of one entry is that entry alone
pub only_one : (xs : List ℕ) (t : ℕ) → length xs ≡ 1 → get_or xs 0 0 ≡ t → xs ≡ t ∷ []
only_one [] t l e = absurd (omega arith)
only_one (x ∷ []) t l e = ap (λ (y : ℕ). y ∷ []) e
only_one (x ∷ y ∷ ys) t l e = absurd (omega arith)

-- a target whose only successor is itself has an edge to itself
own_edge : (g : Graph) (target : ℕ) → g.succs target ≡ target ∷ [] → T (edgeb g target target)
own_edge g target e = subst (λ (ts : List ℕ). T (memb target ts)) (sym e) (or_l (eqb target target) false (eqb_refl target))

-- a table that lists the sources of two origins lists the same ones
same_listed :
    {n limit : ℕ} {source source' : ℕ → Option ℕ} {w : List ℕ} → SourcesListed source n limit n w → SourcesListed source' n limit n w
    → (s a : ℕ) → s < n → a < limit → source s ≡ some a → source' s ≡ some a
same_listed {n} {limit} {source} {source'} {w} L L' s a inside below e =
    go n n (entry 4 n w a) (L.firsts a below) (L'.firsts a below) (omega arith) (omega arith) inside
  where
    go : (fuel b v : ℕ) → Greatest source a b v → Greatest source' a b v → b ≤ fuel → b ≤ n → s < b → source' s ≡ some a
    go zero b v G G' enough within less = absurd (omega arith)
    go (suc fuel) b zero G G' enough within less = absurd (G.none_above s (omega arith) less e)
    go (suc fuel) b (suc u) G G' enough within less =
        let at : source u ≡ some a = G.names u refl in
        let at' : source' u ≡ some a = G'.names u refl in
        let u-below : u < n = omega (arith, G.within) in
        elim (eq_or_apart s u) [
          | inl same ↦ ap source' same ∙ at'
          | inr (inl before) ↦
              go fuel u (entry 5 n w u) (L.nexts u a u-below at) (L'.nexts u a u-below at') (omega (arith, G.within)) (omega arith) before
          | inr (inr behind) ↦ absurd (G.none_above s behind less e)
        ]

-- if the target is apart for the table that a plan was made from, it is for every such table
pub apart_in_plan : {limit : ℕ} {w u : List ℕ} (g : Graph) (target : ℕ) → WellFormed g → Planned g.size limit w u
    → Apart g limit target w → ApartInPlan g limit target u
apart_in_plan {limit} {w} g target wf P a origin P' e = go (sources g.size limit origin target) refl
  where
    go : (o : Option ℕ) → sources g.size limit origin target ≡ o → sources g.size limit origin target ≡ none
    go none q = q
    go (some k) q =
        let below : k < limit = (under_some limit (value_of (entry 2 g.size origin target)) k q).1 in
        let same : sources g.size limit w target ≡ some k = same_listed P'.lists P.lists target k (wf.edge_states target target (own_edge g target e)).0 below q in
        let z : ◌≡◌ {A = ℕ} 0 1 = cc (same, a e) in absurd (omega arith)

module _ (n limit b : ℕ) (origin : List ℕ) (less : b ≤ limit) where
  -- below a smaller limit the sources are the same
  source_down : (s a : ℕ) → a < b → sources n limit origin s ≡ some a → sources n b origin s ≡ some a
  source_down s a l e = some_under b (value_of (entry 2 n origin s)) a (under_some limit (value_of (entry 2 n origin s)) a e).0 l

  -- and back
  source_up : (s a : ℕ) → sources n b origin s ≡ some a → (sources n limit origin s ≡ some a) × (a < b)
  source_up s a e =
      let told = under_some b (value_of (entry 2 n origin s)) a e in
      (some_under limit (value_of (entry 2 n origin s)) a told.0 (omega (arith, told.1)), told.1)

  -- the greatest source of a level below the smaller limit is the same
  greatest_down : {a c v : ℕ} → a < b → Greatest (sources n limit origin) a c v → Greatest (sources n b origin) a c v
  greatest_down {a} l G =
      record {
        within = G.within;
        names = λ s e. source_down s a l (G.names s e);
        none_above = λ s m k e. G.none_above s m k (source_up s a e).0;
      }

  -- a plan is one for every smaller limit
  pub planned_down : {w : List ℕ} → Planned n limit origin w → Planned n b origin w
  planned_down P =
      record {
        outside = P.outside;
        clear = P.clear;
        lists = record {
          firsts = λ a l. greatest_down l (P.lists.firsts a (omega arith));
          nexts = λ s a l e. let up = source_up s a e in greatest_down up.1 (P.lists.nexts s a l up.0);
        };
      }

module _ (g : Graph) (limit target : ℕ) (w : List ℕ) where
  -- the level of a target whose only successor is itself bounds the search
  pub level_bounds : (level : std.Option ℕ) → target < g.size → g.succs target ≡ target ∷ [] → LevelListed g.size limit target w level
      → BoundsInPlan g limit target w level
  level_bounds (std.Some level) inside alone L origin P = record { below = L.0; inside = inside; alone = alone; source = L.1 origin P }
  level_bounds std.None inside alone L origin P = λ e. none_listed (sources g.size limit origin target) refl
    where
      none_listed : (o : Option ℕ) → sources g.size limit origin target ≡ o → sources g.size limit origin target ≡ none
      none_listed none q = q
      none_listed (some a) q =
          absurd (L a (under_some limit (value_of (entry 2 g.size origin target)) a q).1 origin P q)

module _ {g : Graph} {limit target : ℕ} {w : List ℕ} {b : ℕ} (B : OwnLevel g limit target w b) where
  -- such a target is apart up to its own level
  pub own_apart : Apart g b target w
  own_apart e = none_below (sources g.size b w target) refl
    where
      none_below : (o : Option ℕ) → sources g.size b w target ≡ o → sources g.size b w target ≡ none
      none_below none q = q
      none_below (some a) q =
          let up = source_up g.size limit b w (omega (arith, B.below)) target a q in
          let same : a ≡ b = cc (up.0, B.source) in absurd (omega (arith, up.1))

module _ (g : Graph) {limit : ℕ} (target : ℕ) (w : List ℕ) {b : ℕ} (le : b ≤ limit) where
  -- lengths up to a bound are those that sources below it give
  same_lengths : under (suc b) (hit_length g (sources g.size limit w) target) ≡ under (suc b) (hit_length g (sources g.size b w) target)
  same_lengths =
      let all : ℕ → Option ℕ = λ s. value_of (entry 2 g.size w s) in
      let whole : Option ℕ = hit_length g (sources g.size limit w) target in
      sym (under-under (suc b) (suc limit) whole (omega (arith, le)))
      ∙ ap (under (suc b)) (hit_length-under g limit all target)
      ∙ under-under (suc b) (suc limit) (hit_length g all target) (omega (arith, le))
      ∙ sym (hit_length-under g b all target)

  -- a length found up to the bound is the one up to the limit
  pub found_before : (w' : List ℕ) (l : ℕ) → Spread g b target w w' (Length l) → Spread g limit target w w' (Length l)
  found_before w' l F =
      let whole : Option ℕ = hit_length g (sources g.size limit w) target in
      let least = under_some (suc b) whole l (same_lengths ∙ F.length) in
      record { outside = F.outside; length = some_under (suc limit) whole l least.0 (omega (arith, least.1, le)) }

module _ {g : Graph} {limit target : ℕ} {w : List ℕ} {b : ℕ} (w' : List ℕ) (B : OwnLevel g limit target w b) where
  -- if none is found up to the bound, below the limit, the step from the target to itself has the least
  pub found_itself : WellFormed g → (count : ℕ) → Spread g b target w w' (Nothing count) → Spread g limit target w w' (Length (b + 1))
  found_itself wf count N =
      let source : ℕ → Option ℕ = sources g.size limit w in
      let whole : Option ℕ = hit_length g source target in
      let own : source target ≡ some b = B.source in
      let le : b ≤ limit = omega (arith, B.below) in
      let P : ℕ → Type 0 = Timed g.size source (λ s m. (1 ≤ m) × Walk g s target m) in
      let step : P (b + 1) = (target, b, 1, B.inside, own, (omega arith, walk_edge (own_edge g target B.alone)), omega arith) in
      let (m, is, most) = is_least_le P whole (hit_length_least wf source target) (b + 1) step in
      let not_less : suc b ≤ m =
      elim (lt_or_ge m (suc b)) [
        | inl small ↦ let z : ◌≡◌ {A = ℕ} 0 1 = cc (some_under (suc b) whole m is small, same_lengths g target w le, N.length) in absurd (omega arith)
        | inr large ↦ large
      ] in
      let same : m ≡ b + 1 = omega arith in
      record { outside = N.outside; length = some_under (suc limit) whole (b + 1) (is ∙ ap (λ (k : ℕ). some k) same) (omega arith) }
