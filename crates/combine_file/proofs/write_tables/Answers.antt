use mathlib.Core.List.{◌++◌}
use Prim.Native.Nat.{ℕ, ◌+◌, ◌*◌}
use mathlib.Core.Path.{◌≡◌, refl, sym, ap, subst, ◌∙◌}
use native.Mathlib.Omega.{arith}
use lib.ListN.{take, drop}
use Rattle.lasso.specs.Graph.{Graph}
use Rattle.combine_graph.specs.Combined.{combined}
use Rattle.combine_graph.proofs.CombinedLaws.{pairs_are}
use Rattle.text.specs.Writing.{Wrote}
use Rattle.writer.specs.Tables.{table_bytes}
use Rattle.writer.proofs.TableLaws.{Parted, table_bytes-length, passed_none, passed_entry, entry_room, entry-written, edges_fit, edges-written, tables_written, tables_left}
use Rattle.combine_file.proofs.write_tables.Goals as goal
use Rattle.combine_file.proofs.write_tables.Goals.{After-split_at_mut-rows, Start}

-- the combined model
abbrev graph : Start → Graph
graph s = combined s.args.rule.now s.args.letters.now s.args.property.now

-- the output is parted where the edge table begins
parted : (c : After-split_at_mut-rows) → Parted (graph (goal.at.After-split_at_mut-rows c).Start) c.args.out.now c.split_at_mut-rows.result.0.now c.split_at_mut-rows.result.1.now
parted c =
    let e = pairs_are c.requires.combinable in
    let t = c.args.out.now.bytes.now in
    let at = c.args.out.now.at in
    record {
      fit = c.requires.tables_fit;
      front_is = c.split_at_mut-rows.ensures.front ∙ ap (λ (n : ℕ). take (at + 2 * (n + 1)) t) (sym e);
      back_is = c.split_at_mut-rows.ensures.back ∙ ap (λ (n : ℕ). drop (at + 2 * (n + 1)) t) (sym e);
    }

pub split_at_mut-rows-requires : goal.split_at_mut-rows-requires
split_at_mut-rows-requires c =
    omega (arith, c.requires.tables_fit.room, table_bytes-length (graph (goal.at.split_at_mut-rows-requires c).Start), pairs_are c.requires.combinable)

pub loop-c-init : goal.loop-c-init
loop-c-init c =
    let none = passed_none (parted (goal.at.loop-c-init c).After-split_at_mut-rows) in
    (record { entries = none.0; targets = none.1 }, refl, refl)

pub write_word-requires-clause-at_in_bounds : goal.write_word-requires-clause-at_in_bounds
write_word-requires-clause-at_in_bounds c =
    let P = parted (goal.at.write_word-requires-clause-at_in_bounds c).After-split_at_mut-rows in
    entry_room P (omega (arith, c.loop-c-test.true, pairs_are c.requires.combinable)) c.loop-c.invariant.0

pub write_word-requires-clause-x_bound : goal.write_word-requires-clause-x_bound
write_word-requires-clause-x_bound c =
    let P = parted (goal.at.write_word-requires-clause-x_bound c).After-split_at_mut-rows in
    omega (arith, passed_entry P (omega (arith, c.loop-c-test.true, pairs_are c.requires.combinable)) c.loop-c.invariant.0)

pub write_edges-requires-clause-c_in_bounds : goal.write_edges-requires-clause-c_in_bounds
write_edges-requires-clause-c_in_bounds c =
    let P = parted (goal.at.write_edges-requires-clause-c_in_bounds c).After-split_at_mut-rows in
    let e = pairs_are c.requires.combinable in
    edges_fit P (omega (arith, c.loop-c-test.true, e)) c.loop-c.invariant.0 (omega (arith, c.loop-c-test.true, e))

pub loop-c-preserved : goal.loop-c-preserved
loop-c-preserved c =
    let P = parted (goal.at.loop-c-preserved c).After-split_at_mut-rows in (
      record {
        entries = entry-written P (omega (arith, c.loop-c-test.true, pairs_are c.requires.combinable)) c.loop-c.invariant.0 c.write_word.ensures.wrote;
        targets = edges-written P (omega (arith, c.loop-c-test.true, pairs_are c.requires.combinable)) c.loop-c.invariant.0 c.write_edges.ensures.wrote;
      },
      c.write_word.ensures.same ∙ c.loop-c.invariant.1,
      c.write_edges.ensures.same ∙ c.loop-c.invariant.2,
    )

pub write_word-requires-2-clause-at_in_bounds : goal.write_word-requires-2-clause-at_in_bounds
write_word-requires-2-clause-at_in_bounds c =
    let P = parted (goal.at.write_word-requires-2-clause-at_in_bounds c).After-split_at_mut-rows in
    entry_room P (omega (arith, c.loop-c.auto.c-end, pairs_are c.requires.combinable)) c.loop-c.invariant.0

pub write_word-requires-2-clause-x_bound : goal.write_word-requires-2-clause-x_bound
write_word-requires-2-clause-x_bound c =
    let P = parted (goal.at.write_word-requires-2-clause-x_bound c).After-split_at_mut-rows in
    omega (arith, passed_entry P (omega (arith, c.loop-c.auto.c-end, pairs_are c.requires.combinable)) c.loop-c.invariant.0)

pub returns : goal.returns
returns c =
    let here = goal.at.returns c in
    let P = parted here.After-split_at_mut-rows in
    let e = pairs_are c.requires.combinable in
    let all : c.loop-c.c ≡ (graph here.Start).size = omega (arith, c.loop-c-test.false, c.loop-c.auto.c-end, e) in
    let w = tables_written P (omega (arith, all)) c.loop-c.invariant.0 all c.write_word-2.ensures.wrote in
    let v = subst (λ (n : ℕ). Wrote c.args.out.now.bytes.now c.args.out.now.at (table_bytes (graph here.Start)) (c.write_word-2.new.out.bytes.now ++ c.loop-c.edges.bytes.now) (c.args.out.now.at + 2 * (n + 1) + c.loop-c.edges.at)) e w in
    record {
      wrote = tables_left v (c.write_word-2.ensures.same ∙ c.loop-c.invariant.1) c.loop-c.invariant.2 c.rows-3-1.given.1.1 c.edges-2-1.given.1.1;
      same = refl;
    }
