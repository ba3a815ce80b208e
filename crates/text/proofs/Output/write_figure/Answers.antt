-- `write_figure` meets its contract: the word, the number and the line feed are written one after the other.
use Rattle.text.proofs.WroteLaws.{adds_then}
use Rattle.text.proofs.Output.write_figure.Goals as goal

pub returns : goal.returns
returns c = adds_then (adds_then c.write_bytes.ensures c.write_number.ensures) c.write_byte.ensures
