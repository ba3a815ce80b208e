-- What a ceiling does to a round and to the roll; and that a ceiling of the number of states or more does nothing.
use Prim.Native.Nat.{ℕ, suc, ◌≤◌, ◌<◌}
use mathlib.Core.Path.{◌≡◌, refl, sym, ◌∙◌, ap, subst}
use mathlib.Core.Logic.{◌↔◌, ◌⊎◌, inl, inr}
use mathlib.Core.List.{List, [], ◌∷◌, Memᴰ}
use mathlib.Core.Option.{Option, some, none}
use native.Mathlib.Omega.{arith}
use lib.Dec.{T}
use Rattle.lists.specs.Lists.{memb}
use Rattle.lists.specs.Limit.{under}
use Rattle.lasso.specs.Graph.{Graph, WellFormed, edges, acceptingb}
use Rattle.lasso.specs.Roll.{least_length, of_least, roll, roll_within}
use Rattle.lasso.specs.Rounds.{candidates, round_length, round_within}
use Rattle.lasso.specs.Shown.{OfLeastLength}
use Rattle.lasso.specs.Ceiling.{PathWithin, LengthWithin, AllLonger, RollAbove, CeilingSays, CeilingShown}
use Rattle.lists.proofs.Tests.{lt_or_ge}
use Rattle.lists.proofs.Least.{IsLeast, is_least_iff}
use Rattle.lists.proofs.UnderLaws.{under_lt, under_ge, under_least, under_all}
use Rattle.lasso.proofs.Lasso.{AcceptingLength}
use Rattle.lasso.proofs.RollLaws.{least_length_least, least_length_range, roll_empty, roll-length, in_roll}
use Rattle.lasso.proofs.RoundLaws.{ThroughLength, round_least, round_length_le, best_kept}

-- the roll within a ceiling is the whole roll, whose lists are not longer, or empty, and then the roll is empty or its
-- lists are longer
pub data RollCut (g : Graph) (ceiling : ℕ) : Type 0 where
  whole : (l : ℕ) → least_length g ≡ some l → l ≤ ceiling → roll_within g ceiling ≡ roll g → RollCut g ceiling
  no_path : least_length g ≡ none → roll_within g ceiling ≡ [] → RollCut g ceiling
  longer : (l : ℕ) → least_length g ≡ some l → ceiling < l → roll_within g ceiling ≡ [] → RollCut g ceiling

-- lists that are not longer than the ceiling stay
pub roll_within_lem : (g : Graph) (l ceiling : ℕ) → least_length g ≡ some l → l ≤ ceiling → roll_within g ceiling ≡ roll g
roll_within_lem g l ceiling e le =
    let same : under (suc ceiling) (least_length g) ≡ least_length g = rw e (under_lt (suc ceiling) l (omega arith)) in
    ap (of_least g) same

-- which of the three it is
pub roll_cut : (g : Graph) (ceiling : ℕ) → RollCut g ceiling
roll_cut g ceiling = go (least_length g) refl
  where
    go : (a : Option ℕ) → least_length g ≡ a → RollCut g ceiling
    go none e = no_path e (ap (λ (o : Option ℕ). of_least g (under (suc ceiling) o)) e)
    go (some l) e = elim (lt_or_ge l (suc ceiling)) [
      | inl low ↦ whole l e (omega arith) (roll_within_lem g l ceiling e (omega arith))
      | inr high ↦
          let gone : under (suc ceiling) (least_length g) ≡ none = rw e (under_ge (suc ceiling) l high) in
          longer l e (omega arith) (ap (of_least g) gone)
    ]

-- so it is the roll or empty
pub whole_or_none : (g : Graph) (ceiling : ℕ) → (roll_within g ceiling ≡ roll g) ⊎ (roll_within g ceiling ≡ [])
whole_or_none g ceiling = elim (roll_cut g ceiling) [
  | whole l e le q ↦ inl q
  | no_path e q ↦ inr q
  | longer l e high q ↦ inr q
]

-- a list of the roll within a ceiling is one of the roll
pub within_roll : (g : Graph) (ceiling : ℕ) (xs : List ℕ) → Memᴰ xs (roll_within g ceiling) → Memᴰ xs (roll g)
within_roll g ceiling xs m = elim (whole_or_none g ceiling) [
  | inl q ↦ subst (λ (rs : List (List ℕ)). Memᴰ xs rs) q m
  | inr q ↦ absurd (mathlib.Core.List.Memᴰ.not-nil (subst (λ (rs : List (List ℕ)). Memᴰ xs rs) q m))
]

module _ (g : Graph) (wf : WellFormed g) (ceiling : ℕ) where
  -- a round's length under the ceiling
  round_within_lem : (r : ℕ) → T (memb r (candidates g)) → IsLeast (LengthWithin g ceiling r) (round_within g ceiling r)
  round_within_lem r m =
      is_least_iff (λ k. ThroughLength g r k × (k < suc ceiling)) (LengthWithin g ceiling r) (round_within g ceiling r)
      (λ n p. (p.0, omega arith)) (λ n p. (p.0, omega arith))
      (under_least (ThroughLength g r) (suc ceiling) (round_length g r) (round_least wf r m))

  -- where the lists of the roll are not longer than the ceiling, an accepting path within it exists
  path_within : (l : ℕ) → least_length g ≡ some l → l ≤ ceiling → PathWithin g ceiling
  path_within l e le =
      let least : IsLeast (AcceptingLength g) (some l) = rw e at (least_length_least g wf) in
      let (xs, acc, long) = least.0 in
      (xs, acc, omega arith)

  -- without an accepting path none is within the ceiling
  none_within : least_length g ≡ none → PathWithin g ceiling → ⊥
  none_within e (ys, acc, le) =
      let least : IsLeast (AcceptingLength g) none = rw e at (least_length_least g wf) in
      least (edges ys) (ys, acc, refl)

  -- where the least length is above the ceiling, none is within it either
  none_longer : (l : ℕ) → least_length g ≡ some l → ceiling < l → PathWithin g ceiling → ⊥
  none_longer l e high (ys, acc, le) =
      let least : IsLeast (AcceptingLength g) (some l) = rw e at (least_length_least g wf) in
      omega (arith, least.1 (edges ys) (ys, acc, refl))

  -- a roll with a least length is not empty
  not_empty : (l : ℕ) → least_length g ≡ some l → roll g ≡ [] → ⊥
  not_empty l e q =
      let gone : least_length g ≡ none = (roll_empty g).0 q in
      let z : ◌≡◌ {A = ℕ} 0 1 = cc in
      omega arith

  -- the lists of the roll have the least length
  roll-edges : (l : ℕ) → least_length g ≡ some l → (xs : List ℕ) → Memᴰ xs (roll g) → edges xs ≡ l
  roll-edges l e xs m = omega (arith, roll-length g l e xs m)

  -- a roll of which some list is not longer is not all longer
  some_not_longer : (l : ℕ) → least_length g ≡ some l → l ≤ ceiling → AllLonger ceiling (roll g) → ⊥
  some_not_longer l e le all-longer = go (roll g) refl
    where
      go : (rs : List (List ℕ)) → roll g ≡ rs → ⊥
      go [] q = not_empty l e q
      go (xs ∷ rs) q =
          let m : Memᴰ xs (roll g) = subst (λ (zs : List (List ℕ)). Memᴰ xs zs) (sym q) (mathlib.Core.List.Memᴰ.head refl) in
          omega (arith, all-longer xs m, roll-edges l e xs m)

  -- these lists hold exactly the accepting paths of least length that are not longer than the ceiling
  abbrev HeldBy : List (List ℕ) → Type 0
  HeldBy rs = (xs : List ℕ) → Memᴰ xs rs ↔ (OfLeastLength (acceptingb g) xs × (edges xs ≤ ceiling))

  -- what the ceiling does where it cuts nothing off
  says_whole : (l : ℕ) → least_length g ≡ some l → l ≤ ceiling → roll_within g ceiling ≡ roll g → CeilingSays g ceiling
  says_whole l e le q =
      let held : HeldBy (roll g) =
      λ xs. (λ m. ((in_roll g wf xs).0 m, omega (arith, roll-edges l e xs m)), λ (of-least, within). (in_roll g wf xs).1 of-least) in
      record {
        round_least = round_within_lem;
        best_kept = best_kept g ceiling;
        roll_holds = subst HeldBy (sym q) held;
        empty_exactly = (λ n. absurd (not_empty l e (sym q ∙ n)), λ none_there. absurd (none_there (path_within l e le)));
        empty_by_roll = (λ n. inl (sym q ∙ n), λ h. elim h [ inl n ↦ q ∙ n | inr all-longer ↦ absurd (some_not_longer l e le all-longer) ]);
        all_or_none = whole_or_none g ceiling;
      }

  -- what it does where nothing is left
  says_empty : roll_within g ceiling ≡ [] → (PathWithin g ceiling → ⊥) → RollAbove g ceiling → CeilingSays g ceiling
  says_empty q none_there why =
      let held : HeldBy [] =
      λ xs. (λ m. absurd (mathlib.Core.List.Memᴰ.not-nil m), λ (of-least, within). absurd (none_there (xs, of-least.0, within))) in
      record {
        round_least = round_within_lem;
        best_kept = best_kept g ceiling;
        roll_holds = subst HeldBy (sym q) held;
        empty_exactly = (λ n. none_there, λ h. q);
        empty_by_roll = (λ n. why, λ h. q);
        all_or_none = whole_or_none g ceiling;
      }

  -- by what it makes of the roll
  says : RollCut g ceiling → CeilingSays g ceiling
  says (whole l e le q) = says_whole l e le q
  says (no_path e q) = says_empty q (none_within e) (inl ((roll_empty g).1 e))
  says (longer l e high q) = says_empty q (none_longer l e high) (inr (λ xs m. omega (arith, roll-edges l e xs m)))

-- what a ceiling does
pub ceiling_shown : CeilingShown
ceiling_shown g wf ceiling = says g wf ceiling (roll_cut g ceiling)

-- a ceiling of the number of states or more cuts no least length
pub least_full : (g : Graph) (ceiling : ℕ) → g.size ≤ ceiling → under (suc ceiling) (least_length g) ≡ least_length g
least_full g ceiling full =
    under_all (suc ceiling) (least_length g) (λ l e. omega (arith, least_length_range g l e))

-- nor the roll
pub roll_full : (g : Graph) (ceiling : ℕ) → g.size ≤ ceiling → roll_within g ceiling ≡ roll g
roll_full g ceiling full = ap (of_least g) (least_full g ceiling full)

-- nor a round
pub round_full : {g : Graph} → WellFormed g → (ceiling r : ℕ) → g.size ≤ ceiling → r < g.size → round_within g ceiling r ≡ round_length g r
round_full {g} wf ceiling r full low =
    under_all (suc ceiling) (round_length g r) (λ l e. omega (arith, round_length_le wf r l low e))
