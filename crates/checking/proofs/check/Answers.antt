-- `check` meets its contract: a file refused by the rules 1 to 5 is refused by their number, and past them the rules 6 to 11
-- decide, by the total length of a model file with one mark table and two tables at most.
use Prim.Native.Nat.{ℕ}
use mathlib.Core.Path.{sym, ap, ap₂, ◌∙◌}
use native.Mathlib.Omega.{arith}
use Rattle.std.proofs.Common.{rules}
use Rattle.format.specs.Layout.{states, edge_count, total_of}
use Rattle.model.specs.Values.{check_with}
use Rattle.checking.proofs.HeadLaws.{HeadKept, head_kept, head_refuses}
use Rattle.model.proofs.Laws.{header_numbers}
use Rattle.checking.proofs.check.Goals as goal
use Rattle.checking.proofs.check.Goals.{In_ok-h}

-- a file that keeps the rules 1 to 5, with its header
head : (c : In_ok-h) → HeadKept c.args.file.now c.in_ok-h.h
head c = head_kept _ _ (sym c.in_ok-h.ensures)

pub returns-in_err-h : goal.returns-in_err-h
returns-in_err-h c =
    let f = c.args.file.now in
    let told = c.in_err-h.ensures ∙ head_refuses (total_of (states f) (edge_count f)) 2 f _ (sym c.in_err-h.ensures) in
    search (rules, told)

pub total_of-requires : goal.total_of-requires
total_of-requires c =
    let h = head c in
    omega (arith, header_numbers c.args.file.now h.header)

pub check_tables-requires : goal.check_tables-requires
check_tables-requires c =
    let h = head (goal.at.check_tables-requires c).In_ok-h in record {
      file_value = sym c.in_ok-h.ensures;
      edges_bound = omega (arith, c.total_of.ensures, header_numbers c.args.file.now h.header);
    }

pub returns : goal.returns
returns c =
    let f = c.args.file.now in
    let numbers = header_numbers f (head (goal.at.returns c).In_ok-h).header in
    c.check_tables.ensures
    ∙ ap (λ (t : ℕ). check_with t 2 f) (c.total_of.ensures ∙ ap₂ total_of numbers.0 numbers.1)
