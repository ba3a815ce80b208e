-- `edge_count` meets its contract: a part holds half as many numbers as bytes.
use mathlib.Core.Path.{sym}
use Rattle.format.proofs.Words.{words-length}
use Rattle.model.proofs.edge_count.Goals as goal

pub returns : goal.returns
returns c = sym (words-length c.args.part.now)
