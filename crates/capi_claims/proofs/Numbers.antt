-- The numbers of refusals: each is one of the table of reasons that its call applies.
use Prim.Native.Nat.{ℕ}
use mathlib.Core.Bool.{Bool, true, false, ◌&&◌}
use mathlib.Core.List.{List, [], ◌∷◌}
use mathlib.Core.Option.{Option}
use lib.Dec.{T}
use Rattle.lists.specs.Lists.{memb, some_if}
use Rattle.lists.proofs.Tests.{fst, snd}
use Rattle.format.specs.Rules.{Reason, first_broken}
use Rattle.outcomes.specs.Outcome.{outcome}
use Rattle.capi_claims.specs.NothingLost.{OneOf}

-- the numbers of a table of reasons are among these
abbrev numbersb : List ℕ → List Reason → Bool
numbersb numbers [] = true
numbersb numbers (r ∷ rs) = memb r.number numbers && numbersb numbers rs

module _ {A : Type 0} (numbers : List ℕ) (a : A) where
  -- the first reason that holds is this one or one after it
  first_one : (b : Bool) (n : ℕ) (behind : Option ℕ) → T (memb n numbers) → OneOf numbers (outcome behind a)
      → OneOf numbers (outcome (some_if b n behind) a)
  first_one true n behind this later = this
  first_one false n behind this later = later

  -- the number of the first reason that holds is one of the table's
  pub broken_one : (rs : List Reason) → T (numbersb numbers rs) → OneOf numbers (outcome (first_broken rs) a)
  broken_one [] t = tt
  broken_one (r ∷ rs) t =
      first_one r.holds r.number (first_broken rs)
      (fst (memb r.number numbers) (numbersb numbers rs) t)
      (broken_one rs (snd (memb r.number numbers) (numbersb numbers rs) t))
