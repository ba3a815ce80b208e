-- `edge_target` meets its contract: the number at place k stands at byte place 2 * k.
use native.Mathlib.Omega.{arith}
use mathlib.Core.Path.{sym, ◌∙◌}
use Rattle.format.proofs.Words.{words-length, words_at}
use Rattle.model.proofs.edge_target.Goals as goal

pub overflow_mul-k : goal.overflow_mul-k
overflow_mul-k c = omega (arith, words-length c.args.part.now)

pub word-requires : goal.word-requires
word-requires c = omega (arith, words-length c.args.part.now)

pub returns : goal.returns
returns c =
    let a = c.args in
    c.word.ensures.0 ∙ sym (words_at a.part.now a.k c.requires)
