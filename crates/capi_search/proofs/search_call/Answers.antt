-- `search_call` meets its contract where `out` has room: what is reported of the search's result is the report of its outcome.
use mathlib.Core.Path.{refl}
use Rattle.std.proofs.Common.{rules}
use Rattle.search.specs.Search.{searched_of}
use Rattle.answers.specs.Kinds.{search_report}
use Rattle.figures.proofs.ReportLaws.{result_reported}
use Rattle.capi_search.proofs.search_call.Goals as goal

pub returns : goal.returns
returns c =
    let reported = c.report_search.ensures in
    let told = result_reported search_report searched_of (λ n. refl) c.search-searched.result _ reported.kind reported.out in
    search (rules, told)
