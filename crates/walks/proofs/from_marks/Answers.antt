-- `from_marks` meets its contract: a search from the levels that the marked states keep.
use Rattle.walks.proofs.ThroughSteps.{kept_spread}
use Rattle.walks.proofs.from_marks.Goals as goal

pub returns : goal.returns
returns c = kept_spread c.args.limit c.args.target _ c.spread.result c.keep_marked.ensures c.spread.ensures
