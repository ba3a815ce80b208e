-- `write_head` meets its contract: the word, the states, the edges and the rounds are written one after the other.
use Rattle.text.proofs.WroteLaws.{adds_then}
use Rattle.sheet_head.proofs.write_head.Goals as goal

pub returns : goal.returns
returns c =
    adds_then (adds_then (adds_then c.write_bytes.ensures c.write_number.ensures) c.write_figure.ensures) c.write_figure-2.ensures
