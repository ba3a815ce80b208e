-- `next_call` meets its contract where `out` has room: what is reported of next's result is the report of its outcome.
use mathlib.Core.Path.{refl}
use Rattle.std.proofs.Common.{rules}
use Rattle.next.specs.Next.{followed_of}
use Rattle.answers.specs.Kinds.{next_report}
use Rattle.figures.proofs.ReportLaws.{result_reported}
use Rattle.capi_next.proofs.next_call.Goals as goal

pub returns : goal.returns
returns c =
    let reported = c.report_next.ensures in
    let told = result_reported next_report followed_of (λ n. refl) c.next-followed.result _ reported.kind reported.out in
    search (rules, told)
