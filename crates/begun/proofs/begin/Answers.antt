-- `begin` meets its contract: stopped with the record if the allowance is less than the number of candidates; else all rounds
-- are done, and the record's best is the least length, if it is not above the ceiling.
use mathlib.Core.Path.{◌≡◌, sym, ◌∙◌, ap}
use Prim.Native.Nat.{suc, ◌≤◌}
use native.Mathlib.Omega.{arith}
use lib.ListN.{length}
use Rattle.lists.specs.Limit.{under}
use Rattle.lasso.specs.Roll.{least_length}
use Rattle.lasso.specs.Rounds.{candidates, best_length}
use Rattle.lasso.specs.Values.{length_of, record_of}
use Rattle.model.specs.Model.{graph_in}
use Rattle.model.proofs.Laws.{valid_well_formed}
use Rattle.begun.proofs.BegunLaws.{all_rounds_lem}
use Rattle.begun.proofs.begin.Goals as goal
use Rattle.begun.proofs.begin.Goals.{Else-allowed-count}

-- the allowance suffices
enough : (c : Else-allowed-count) → length (candidates (graph_in c.args.file.now c.args.h)) ≤ c.args.allowance
enough c = omega (arith, c.count_candidates-count.ensures, c.if-allowed-count.false)

-- the record holds the number of candidates and the least length of an accepting path
all_done : (c : Else-allowed-count)
    → let g = graph_in c.args.file.now c.args.h in
    (c.run_rounds-record.result.done ≡ length (candidates g)) × (best_length (record_of c.run_rounds-record.result) ≡ under (suc c.args.ceiling.0) (least_length g))
all_done c =
    all_rounds_lem (valid_well_formed c.requires.valid) (record_of c.run_rounds-record.result) c.args.ceiling.0 c.args.allowance c.run_rounds-record.ensures.result_value (enough c)

pub returns-in-None-clause-says : goal.returns-in-None-clause-says
returns-in-None-clause-says c =
    let else = (goal.at.returns-in-None-clause-says c).Else-allowed-count in record {
      enough = enough else;
      rounds_are = (all_done else).0;
      least_is = sym (all_done else).1 ∙ ap length_of c.in-None.is;
    }

pub returns-in-Some-clause-says : goal.returns-in-Some-clause-says
returns-in-Some-clause-says c =
    let else = (goal.at.returns-in-Some-clause-says c).Else-allowed-count in record {
      enough = enough else;
      rounds_are = (all_done else).0;
      least_is = sym (all_done else).1 ∙ ap length_of c.in-Some.is;
    }
