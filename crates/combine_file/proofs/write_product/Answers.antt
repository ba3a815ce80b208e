-- `write_product` meets its contract: the header, the two tables and the marks are written one after the other.
use Prim.Native.Nat.{ℕ, ◌+◌}
use mathlib.Core.Path.{◌≡◌, sym, ap, ap₂, ◌∙◌}
use mathlib.Core.List.{List, ◌++◌, map, append_assoc}
use native.Mathlib.Omega.{arith}
use Rattle.lists.specs.Lists.{below}
use Rattle.lasso.specs.Graph.{Graph}
use Rattle.format.specs.Layout.{mark_bytes}
use Rattle.text.specs.Writing.{Adds}
use Rattle.text.proofs.WroteLaws.{adds_length, adds_then, adds_as}
use Rattle.writer.specs.File.{words16, edges_below, edge_total, header_words, row_words, mark_byte}
use Rattle.combine_graph.specs.Combined.{combined, pair_mark_byte}
use Rattle.writer.specs.Tables.{TablesFit}
use Rattle.combine_graph.proofs.CombinedLaws.{pairs_are, start_pair_is, start_pair_below}
use Rattle.writer.proofs.TableLaws.{table_bytes-length}
use Rattle.combine_file.proofs.write_product.Goals as goal
use Rattle.combine_file.proofs.write_product.Goals.{After-write_header, After-write_tables, Start}

-- the function's start, from where the header is written
abbrev start : After-write_header → Start
start c = (goal.at.After-write_header c).Start

-- the combined model
abbrev graph : Start → Graph
graph s = combined s.args.rule.now s.args.letters.now s.args.property.now

-- the header is the combination's
header_written : (c : After-write_header) →
    let s = start c in
    let g = graph s in
    Adds s.args.out.now (words16 (header_words g.size (edge_total g) g.start)) c.write_header.new.out
header_written c =
    let s = start c in
    let g = graph s in
    let C = s.requires.combinable in
    adds_as (ap₂ (λ (n i : ℕ). words16 (header_words n s.args.edges i)) (sym (pairs_are C)) (sym (start_pair_is C))
    ∙ ap (λ (m : ℕ). words16 (header_words g.size m g.start)) s.requires.edges_value.0) c.write_header.ensures

-- the header takes 24 bytes
header_end : (c : After-write_header) → c.write_header.new.out.at ≡ (start c).args.out.now.at + 24
header_end c = c.write_header.ensures.wrote.place

-- the tables have room after the header
tables_fit : (c : After-write_header) → TablesFit (graph (start c)) c.write_header.new.out
tables_fit c =
    let s = start c in
    record {
      room = omega (arith, header_end c, adds_length c.write_header.ensures, table_bytes-length (graph s), pairs_are s.requires.combinable, s.requires.edges_value, s.requires.edges_in_bounds);
      edges_limit = omega (arith, s.requires.edges_value);
    }

pub overflow_mul-start : goal.overflow_mul-start
overflow_mul-start c =
    let s = c in
    omega (arith, start_pair_below s.requires.combinable, s.requires.combinable.pairs_limit)

pub overflow_add-start : goal.overflow_add-start
overflow_add-start c =
    let s = c in
    omega (arith, start_pair_below s.requires.combinable, s.requires.combinable.pairs_limit)

pub write_header-requires : goal.write_header-requires
write_header-requires c =
    let s = c in
    omega (arith, start_pair_below s.requires.combinable, s.requires.combinable.pairs_limit, s.requires.edges_value, s.requires.edges_in_bounds)

pub write_tables-requires : goal.write_tables-requires
write_tables-requires c =
    let header = (goal.at.write_tables-requires c).After-write_header in record {
      combinable = header.requires.combinable;
      tables_fit = tables_fit header;
    }

pub write_marks-requires : goal.write_marks-requires
write_marks-requires c =
    let tables = c in
    let header = (goal.at.write_marks-requires c).After-write_header in
    let s = start header in
    let w = tables.write_tables.ensures in record {
      valid_property = s.requires.combinable.property_valid;
      states_le_most_states = (
        s.requires.combinable.pairs_limit,
        omega (arith, header_end header, w.wrote.place, adds_length w, adds_length header.write_header.ensures, table_bytes-length (graph s), pairs_are s.requires.combinable, s.requires.edges_value, s.requires.edges_in_bounds),
      );
    }

pub returns : goal.returns
returns c =
    let marks = c in
    let tables = marks in
    let header = (goal.at.returns tables).After-write_header in
    let s = (goal.at.After-write_header header).Start in
    let g = graph s in
    let head : List ℕ = words16 (header_words g.size (edge_total g) g.start) in
    let rows : List ℕ = words16 (row_words g) in
    let edges : List ℕ = words16 (edges_below g g.size) in
    let bits : List ℕ = map (mark_byte g) (below (mark_bytes g.size)) in
    let marked = adds_as (ap (λ (n : ℕ). map (pair_mark_byte s.args.property.now n) (below (mark_bytes n))) (sym (pairs_are s.requires.combinable))) marks.write_marks.ensures in
    adds_as (ap (λ (r : List ℕ). r ++ bits) (sym (append_assoc head rows edges)))
    (adds_then (adds_then (header_written header) tables.write_tables.ensures) marked)
