-- `write_tables` meets its contract: at each combined state its row entry and its edges are written, each after those of
-- the states before it.
use mathlib.Core.Path.{◌≡◌}
use Rattle.combine_graph.specs.Combined.{combined}
use Rattle.writer.proofs.TableLaws.{PassedTo}
use Rattle.combine_file.proofs.write_tables.Given as goal

abbrev pub invariant-loop-c : goal.invariant-loop-c
invariant-loop-c l =
    PassedTo (combined l.rule l.letters l.property) l.initial.rows.bytes.now l.initial.edges.bytes.now l.initial.rows.at l.c l.rows l.edges
    × (l.rows.bytes.ghost_name ≡ l.initial.rows.bytes.ghost_name)
    × (l.edges.bytes.ghost_name ≡ l.initial.edges.bytes.ghost_name)
