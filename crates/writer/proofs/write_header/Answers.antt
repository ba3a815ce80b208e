-- `write_header` meets its contract: its numbers are written one after the other.
use Rattle.std.proofs.Common.{sym}
use Rattle.text.proofs.WroteLaws.{adds_then}
use Rattle.writer.proofs.write_header.Goals as goal

pub returns : goal.returns
returns c =
    let counts = adds_then c.write_word.ensures c.write_word-2.ensures in
    let begun = adds_then (adds_then counts c.write_word-3.ensures) c.write_word-4.ensures in
    let edges = adds_then (adds_then begun c.write_long.ensures) c.write_long-2.ensures in
    rw (sym c.total_of.ensures, sym c.marks_at.ensures, sym c.edges_at.ensures)
    (adds_then (adds_then edges c.write_long-3.ensures) c.write_long-4.ensures)
