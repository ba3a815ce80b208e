use Rattle.std.proofs.Common.{sym, arith}
use Rattle.script_player.proofs.PlayLaws.{playing_full, playing_over, playing_next}
use Rattle.script_player.proofs.play.Goals as goal

pub returns-in_default : goal.returns-in_default
returns-in_default c =
    let r = playing_over c.loop-calls.invariant (sym c.in_default.ensures) in record {
      calls = r.0;
      log = r.1.0;
      answer = r.1.1.0;
      work = r.1.1.1.0;
      book = r.1.1.1.1;
    }

pub loop-calls-preserved : goal.loop-calls-preserved
loop-calls-preserved c =
    playing_next c.loop-calls.invariant (sym c.in-Some.ensures) c.loop-calls-test.true
    c.play_one-got.ensures (omega arith) (omega arith) (omega arith) (omega arith) c.receive-held.ensures.fits c.receive-held.ensures.copy

pub returns-clause-book : goal.returns-clause-book
returns-clause-book c = (playing_full c.loop-calls.invariant c.loop-calls-test.false).1.1.1.1
