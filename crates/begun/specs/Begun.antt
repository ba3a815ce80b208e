-- What the rounds of a search come to.
use Rattle.std.specs.Prelude.{ℕ, suc, ◌≤◌, ◌<◌, ◌≡◌, length}
use Rattle.std.proofs.Math.Option.{Option, some, none}
use Rattle.lists.specs.Limit.{under}
use Rattle.lasso.specs.Graph.{Graph}
use Rattle.lasso.specs.Roll.{least_length}
use Rattle.lasso.specs.Rounds.{candidates, after_rounds}
use Rattle.lasso.specs.Values.{record_of, length_of}
use Rattle.lasso.specs.declared.RoundRecord.{RoundRecord}
use Rattle.begun.specs.declared.Begun.{Begun}
use Rattle.begun.specs.declared.Begun.TheVariants as Begins
use Rattle.begun.specs.declared.AllRounds.{AllRounds}

-- the rounds were stopped: the allowance is less than the number of candidates, and the record is the one after so many
pub record StoppedAfter (g : Graph) (ceiling allowance : ℕ) (r : RoundRecord) : Type 0 where
  pub short : allowance < length (candidates g)
  pub record_is : record_of r ≡ after_rounds g ceiling allowance

-- all rounds are done: their number, and the least length of an accepting path that they found, if it is not above the
-- ceiling
pub record AllDone (g : Graph) (ceiling allowance rounds : ℕ) (least : Option ℕ) : Type 0 where
  pub enough : length (candidates g) ≤ allowance
  pub rounds_are : rounds ≡ length (candidates g)
  pub least_is : under (suc ceiling) (least_length g) ≡ least

-- what each answer of the rounds says
abbrev pub BegunSays : Graph → (ceiling allowance : ℕ) → Begun → Type 0
BegunSays g ceiling allowance (Begins.Stopped r) = StoppedAfter g ceiling allowance r
BegunSays g ceiling allowance (Begins.NoneWithin rounds) = AllDone g ceiling allowance rounds none
BegunSays g ceiling allowance (Begins.Length l rounds) = AllDone g ceiling allowance rounds (some l.0)

-- all rounds of the whole model are done: their number, and the least length of an accepting path, if there is one
pub record RoundsDone (g : Graph) (rounds : ℕ) (least : Option ℕ) : Type 0 where
  pub rounds_are : rounds ≡ length (candidates g)
  pub least_is : least_length g ≡ least

-- what the answer of all rounds says
abbrev pub AllRoundsSay : Graph → AllRounds → Type 0
AllRoundsSay g all = RoundsDone g all.rounds (length_of all.length)
