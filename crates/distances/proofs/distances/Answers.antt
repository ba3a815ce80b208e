-- `distances` meets its contract: refused by the gate, which leaves the working table as it is to be, with the output
-- untouched, else what `distances_model` answers and writes, with the working table cleared.
use mathlib.Core.Path.{◌∙◌}
use native.Mathlib.Omega.{arith}
use Rattle.std.proofs.Common.{rules}
use lib.ListN.{length}
use Rattle.gate.specs.Gate.{GatePassed}
use Rattle.gate.proofs.GateLaws.{gate_says, entered_length, work_refused, work_left_lem}
use Rattle.distances.proofs.DistancesLaws.{reasons_common, distances_refused}
use Rattle.distances.proofs.distances.Goals as goal
use Rattle.distances.proofs.distances.Goals.{In_ok-h}

-- the file has passed the gate, with its header
passed : (c : In_ok-h) → GatePassed c.args.file.now 0 (length c.args.work.now) c.in_ok-h.h
passed c = gate_says c.args.file.now 0 (length c.args.work.now) _ c.in_ok-h.ensures.answer

pub returns-in_err-h : goal.returns-in_err-h
returns-in_err-h c =
    let a = c.args in
    let work = length a.work.now in
    let broken = gate_says a.file.now 0 work _ c.in_err-h.ensures.answer in
    let first = reasons_common a.file.now a.ceiling.0 (length a.output.now) work _ broken in
    let is = distances_refused a.file.now a.ceiling.0 a.output.now work _ first in record {
      outcome = search (rules, is.0);
      output = is.1;
      work = work_refused a.file.now 0 a.work.now _ broken c.enter.ensures.work;
    }

pub distances_model-written-requires : goal.distances_model-written-requires
distances_model-written-requires c =
    let is = passed (goal.at.distances_model-written-requires c).In_ok-h in record {
      valid = (is.valid, is.named);
      states_in_bounds = omega (arith, is.room, entered_length 0 c.args.work.now c.enter.ensures.work);
    }

pub returns-clause-work : goal.returns-clause-work
returns-clause-work c =
    let a = c.args in
    let same = entered_length 0 a.work.now c.enter.ensures.work in
    work_left_lem a.file.now 0 a.work.now (passed (goal.at.returns-clause-work c).In_ok-h).clear (c.distances_model-written.ensures.kept ∙ same) c.leave.ensures
