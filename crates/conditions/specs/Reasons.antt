-- When no reason of a table holds, and which reason is the first that does: said without the function that finds it.
use Rattle.std.specs.Prelude.{ℕ, ◌≡◌, true, false, List, [], ◌∷◌, ◌++◌, map}
use Rattle.format.specs.Rules.{Reason}

-- the numbers of the reasons, in checking order
abbrev pub numbers_of : List Reason → List ℕ
numbers_of rs = map (λ (r : Reason). r.number) rs

-- no reason of the table holds
abbrev pub NoneHolds : List Reason → Type 0
NoneHolds [] = Unit {0}
NoneHolds (r ∷ rs) = (r.holds ≡ false) × NoneHolds rs

-- reason n of the table holds, and none before it
pub record FirstHolds (reasons : List Reason) (n : ℕ) : Type 0 where
  pub before : List Reason
  pub reason : Reason
  pub after : List Reason
  pub split : reasons ≡ before ++ reason ∷ after
  pub number_is : reason.number ≡ n
  pub it_holds : reason.holds ≡ true
  pub none_before : NoneHolds before
