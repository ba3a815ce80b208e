-- `check_tables` meets its contract: each rule that is kept leaves the answer to those after it, and the first that is
-- broken gives its number.
use native.Mathlib.Omega.{arith}
use mathlib.Core.Path.{◌≡◌, sym, ◌∙◌}
use mathlib.Core.Bool.{Bool, false}
use mathlib.Core.List.{List}
use mathlib.Core.Option.{none}
use borrow.Author.Tests.{eq-eqb, ne_eqb}
use lib.ListN.{length}
use Prim.Native.Nat.{ℕ}
use Rattle.format.specs.Bytes.{long}
use Rattle.format.specs.Layout.{HasTables}
use Rattle.format.specs.Rules.{bad_offsets, bad_length, bad_rows, bad_targets, bad_order, bad_spare, Reason, rules_with}
use Rattle.lists.proofs.Fails.{false_not}
use Rattle.format.proofs.Reasons.{KeptTo, unheld_skipped}
use Rattle.model.specs.declared.Header.{Header}
use Rattle.model.specs.Values.{header_of}
use Rattle.model.proofs.Answers.{held_refuses, none_accepts}
use Rattle.format.proofs.Kept.{length_kept}
use Rattle.checking.proofs.HeadLaws.{HeadKept, head_kept, head_decides}
use Rattle.model.proofs.Laws.{header_numbers}
use Rattle.checking.proofs.check_tables.Goals as goal
use Rattle.checking.proofs.check_tables.Goals.{Else-file-long, Else-offsets_broken, Else-order_broken, Else-rows_broken, Else-targets_broken, Start}

-- the function's start, from the place where each rule is kept
abbrev from6 : Else-offsets_broken → Start
from6 c = (goal.at.Else-offsets_broken c).Start

abbrev from7 : Else-file-long → Start
from7 c = from6 (goal.at.Else-file-long c).Else-offsets_broken

abbrev from8 : Else-rows_broken → Start
from8 c = from7 (goal.at.Else-rows_broken c).Else-file-long

abbrev from9 : Else-targets_broken → Start
from9 c = from8 (goal.at.Else-targets_broken c).Else-rows_broken

abbrev from10 : Else-order_broken → Start
from10 c = from9 (goal.at.Else-order_broken c).Else-targets_broken

-- the file that is checked
abbrev checked : Start → List ℕ
checked c = c.args.file.now

-- the total length that it is to have with one mark table
abbrev total_for : Start → ℕ
total_for c = c.args.total

-- the most mark tables that it may have
abbrev tables_for : Start → ℕ
tables_for c = c.args.tables

-- the reasons for its kind of file
abbrev reasons : Start → List Reason
reasons c = rules_with (total_for c) (tables_for c) (checked c)

-- the test of rule 6
abbrev offsets_test : Start → Bool
offsets_test c = bad_offsets (total_for c) (tables_for c) (checked c)

-- the header that it has
abbrev own : Start → Header
own c = header_of (checked c) 0

-- the rules 1 to 5 are kept
head_kept_here : (c : Start) → HeadKept (checked c) c.args.h
head_kept_here c = head_kept (checked c) c.args.h c.requires.file_value

-- past rule 6 its test is false
offsets_kept : (c : Else-offsets_broken) → offsets_test (from6 c) ≡ false
offsets_kept c = sym c.offsets_broken.ensures ∙ c.if-offsets_broken.false

-- past rule 7 its test is false
own_length_kept : (c : Else-file-long) → bad_length (checked (from7 c)) ≡ false
own_length_kept c =
    let file = checked (from7 c) in
    rw (eq-eqb (length file) (long file 20) (omega arith))

-- past rule 8 its test is false
rows_kept : (c : Else-rows_broken) → bad_rows (checked (from8 c)) ≡ false
rows_kept c = sym c.rows_broken.ensures ∙ c.if-rows_broken.false

-- past each rule those after it decide
kept_6 : (c : Else-offsets_broken) → KeptTo 6 (reasons (from6 c))
kept_6 c =
    let start = from6 c in
    unheld_skipped _ (offsets_test start) 6 _ (head_decides (head_kept_here start) (total_for start) (tables_for start)) (offsets_kept c)

kept_7 : (c : Else-file-long) → KeptTo 7 (reasons (from7 c))
kept_7 c = unheld_skipped _ (bad_length (checked (from7 c))) 7 _ (kept_6 (goal.at.Else-file-long c).Else-offsets_broken) (own_length_kept c)

kept_8 : (c : Else-rows_broken) → KeptTo 8 (reasons (from8 c))
kept_8 c = unheld_skipped _ (bad_rows (checked (from8 c))) 8 _ (kept_7 (goal.at.Else-rows_broken c).Else-file-long) (rows_kept c)

kept_9 : (c : Else-targets_broken) → KeptTo 9 (reasons (from9 c))
kept_9 c =
    unheld_skipped _ (bad_targets (checked (from9 c))) 9 _ (kept_8 (goal.at.Else-targets_broken c).Else-rows_broken) (sym c.targets_broken.ensures ∙ c.if-targets_broken.false)

kept_10 : (c : Else-order_broken) → KeptTo 10 (reasons (from10 c))
kept_10 c =
    unheld_skipped _ (bad_order (checked (from10 c))) 10 _ (kept_9 (goal.at.Else-order_broken c).Else-targets_broken) (sym c.order_broken.ensures ∙ c.if-order_broken.false)

-- past rule 7 the file has room for the tables of its header
sized : (c : Else-file-long) →
    let h = (from7 c).args.h in
    HasTables (checked (from7 c)) h.states h.edges
sized c =
    let file = checked (from7 c) in
    let head = head_kept_here (from7 c) in
    let numbers = header_numbers file head.header in
    let start = from7 c in
    let long = length_kept (total_for start) (tables_for start) file (false_not (offsets_test start) (offsets_kept (goal.at.Else-file-long c).Else-offsets_broken)) (false_not (bad_length file) (own_length_kept c)) in
    omega arith

pub offsets_broken-requires : goal.offsets_broken-requires
offsets_broken-requires c =
    let head = head_kept_here (goal.at.offsets_broken-requires c).Start in
    omega (arith, header_numbers (checked (goal.at.offsets_broken-requires c).Start) head.header)

pub returns-then-offsets_broken : goal.returns-then-offsets_broken
returns-then-offsets_broken c =
    let start = (goal.at.returns-then-offsets_broken c).Start in
    held_refuses (reasons start) (own start) (offsets_test start) 6 _ (head_decides (head_kept_here start) (total_for start) (tables_for start)) (sym c.offsets_broken.ensures ∙ c.if-offsets_broken.true)

pub long-requires : goal.long-requires
long-requires c = omega (arith, (head_kept_here (from6 c)).long_enough)

pub returns-then-file-long : goal.returns-then-file-long
returns-then-file-long c =
    let start = from6 (goal.at.returns-then-file-long c).Else-offsets_broken in
    let file = checked start in
    held_refuses (reasons start) (own start) (bad_length file) 7 _ (kept_6 (goal.at.returns-then-file-long c).Else-offsets_broken) (rw (ne_eqb (length file) (long file 20) (omega arith)))

pub rows_broken-requires : goal.rows_broken-requires
rows_broken-requires c = sized c

pub returns-then-rows_broken : goal.returns-then-rows_broken
returns-then-rows_broken c =
    let start = from7 (goal.at.returns-then-rows_broken c).Else-file-long in
    let file = checked start in
    held_refuses (reasons start) (own start) (bad_rows file) 8 _ (kept_7 (goal.at.returns-then-rows_broken c).Else-file-long) (sym c.rows_broken.ensures ∙ c.if-rows_broken.true)

pub targets_broken-requires : goal.targets_broken-requires
targets_broken-requires c = sized (goal.at.targets_broken-requires c).Else-file-long

pub returns-then-targets_broken : goal.returns-then-targets_broken
returns-then-targets_broken c =
    let start = from8 (goal.at.returns-then-targets_broken c).Else-rows_broken in
    let file = checked start in
    held_refuses (reasons start) (own start) (bad_targets file) 9 _ (kept_8 (goal.at.returns-then-targets_broken c).Else-rows_broken) (sym c.targets_broken.ensures ∙ c.if-targets_broken.true)

pub order_broken-requires : goal.order_broken-requires
order_broken-requires c =
    record {
      has_tables = sized (goal.at.order_broken-requires c).Else-file-long;
      file_value = rows_kept (goal.at.order_broken-requires c).Else-rows_broken;
    }

pub returns-then-order_broken : goal.returns-then-order_broken
returns-then-order_broken c =
    let start = from9 (goal.at.returns-then-order_broken c).Else-targets_broken in
    let file = checked start in
    held_refuses (reasons start) (own start) (bad_order file) 10 _ (kept_9 (goal.at.returns-then-order_broken c).Else-targets_broken) (sym c.order_broken.ensures ∙ c.if-order_broken.true)

pub spare_set-requires : goal.spare_set-requires
spare_set-requires c =
    record {
      has_tables = sized (goal.at.spare_set-requires c).Else-file-long;
      tables_bound = omega (arith, (from10 c).requires.edges_bound);
    }

pub returns-then-spare_set : goal.returns-then-spare_set
returns-then-spare_set c =
    let start = from10 (goal.at.returns-then-spare_set c).Else-order_broken in
    let file = checked start in
    held_refuses (reasons start) (own start) (bad_spare (tables_for start) file) 11 _ (kept_10 (goal.at.returns-then-spare_set c).Else-order_broken) (sym c.spare_set.ensures ∙ c.if-spare_set.true)

pub returns : goal.returns
returns c =
    let start = from10 (goal.at.returns c).Else-order_broken in
    let file = checked start in
    none_accepts (reasons start) start.args.h (own start) (head_kept_here start).header
    (unheld_skipped _ (bad_spare (tables_for start) file) 11 none (kept_10 (goal.at.returns c).Else-order_broken) (sym c.spare_set.ensures ∙ c.if-spare_set.false))
