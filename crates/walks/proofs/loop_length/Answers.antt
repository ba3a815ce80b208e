-- `loop_length` meets its contract: the distances from x, and then the search from the marked states back
-- to x.
use Rattle.walks.proofs.ThroughLaws.{loop_length_answer}
use Rattle.walks.proofs.loop_length.Goals as goal

pub returns-clause-answer : goal.returns-clause-answer
returns-clause-answer c = loop_length_answer c.distances_from.ensures _ c.from_marks.result c.from_marks.ensures
