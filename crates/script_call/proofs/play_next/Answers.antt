-- `play_next` meets its contract: the next is made, and its report is its row of the log.
use native.Mathlib.Omega.{arith}
use mathlib.Core.Path.{refl, ap}
use lib.ListN.{length}
use Rattle.next.specs.Next.{followed_of, next_outcome_of, next_outcome}
use Rattle.answers.specs.Kinds.{next_report}
use Rattle.figures.proofs.ReportLaws.{result_reported}
use Rattle.sequence.specs.Calls as calls
use Rattle.script_call.proofs.CallLaws.{call_made}
use Rattle.script_call.proofs.play_next.Goals as goal

pub returns : goal.returns
returns c =
    let a = c.args in
    let reported = result_reported next_report followed_of (λ n. refl) c.next-result.result _ c.report_next-kind.ensures.kind c.report_next-kind.ensures.out in
    call_made a.file.now (calls.next a.mark_table a.earlier.now a.answer.now a.work.now) a.place (calls.of_next (next_outcome_of c.next-result.result))
    (ap calls.of_next {y = next_outcome a.file.now a.mark_table a.earlier.now (length a.answer.now) (length a.work.now)} c.next-result.ensures.outcome) c.next-result.ensures.answer c.next-result.ensures.work (omega arith)
    reported.0 reported.1 c.put_row.ensures c.next_entries.ensures
