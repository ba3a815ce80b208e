-- `play_search` meets its contract: the search is made, and its report is its row of the log.
use native.Mathlib.Omega.{arith}
use mathlib.Core.Path.{refl, ap}
use lib.ListN.{length}
use Rattle.search.specs.Search.{searched_of, search_outcome_of, search_outcome}
use Rattle.answers.specs.Kinds.{search_report}
use Rattle.figures.proofs.ReportLaws.{result_reported}
use Rattle.sequence.specs.Calls as calls
use Rattle.script_call.proofs.CallLaws.{call_made}
use Rattle.script_call.proofs.play_search.Goals as goal

pub returns : goal.returns
returns c =
    let a = c.args in
    let reported = result_reported search_report searched_of (λ n. refl) c.search-result.result _ c.report_search-kind.ensures.kind c.report_search-kind.ensures.out in
    call_made a.file.now (calls.search a.ask a.answer.now a.work.now) a.place (calls.of_search (search_outcome_of c.search-result.result))
    (ap calls.of_search {y = search_outcome a.file.now a.ask (length a.answer.now) (length a.work.now)} c.search-result.ensures.outcome) c.search-result.ensures.answer c.search-result.ensures.work (omega arith)
    reported.0 reported.1 c.put_row.ensures c.search_entries.ensures
