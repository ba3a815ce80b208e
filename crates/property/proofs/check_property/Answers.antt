-- `check_property` meets its contract: as the check of a model file, with one mark table and a total length that counts the masks.
use Prim.Native.Nat.{ℕ, ◌+◌, ◌*◌}
use mathlib.Core.Path.{◌≡◌, sym, ap, ap₂, ◌∙◌}
use native.Mathlib.Omega.{arith}
use Rattle.std.proofs.Common.{rules}
use Rattle.format.specs.Layout.{states, edge_count, total_of}
use Rattle.model.specs.Values.{checked_of, check_with}
use Rattle.checking.proofs.HeadLaws.{HeadKept, head_kept, head_refuses}
use Rattle.model.proofs.Laws.{header_numbers}
use Rattle.property.specs.Property.{property_total}
use Rattle.property.proofs.check_property.Goals as goal
use Rattle.property.proofs.check_property.Goals.{In_ok-h}

-- a file that keeps the rules 1 to 5, with its header
head : (c : In_ok-h) → HeadKept c.args.file.now c.in_ok-h.h
head c = head_kept _ _ (sym c.in_ok-h.ensures)

pub returns-in_err-h : goal.returns-in_err-h
returns-in_err-h c =
    let f = c.args.file.now in
    let told = c.in_err-h.ensures ∙ head_refuses (property_total (states f) (edge_count f)) 1 f _ (sym c.in_err-h.ensures) in
    search (rules, told)

pub total_of-requires : goal.total_of-requires
total_of-requires c =
    let h = head c in
    omega (arith, header_numbers c.args.file.now h.header)

pub overflow_add-total_of : goal.overflow_add-total_of
overflow_add-total_of c =
    let h = head (goal.at.overflow_add-total_of c).In_ok-h in
    omega (arith, c.total_of.ensures, header_numbers c.args.file.now h.header)

pub check_tables-requires : goal.check_tables-requires
check_tables-requires c =
    let h = head (goal.at.check_tables-requires c).In_ok-h in record {
      file_value = sym c.in_ok-h.ensures;
      edges_bound = omega (arith, c.total_of.ensures, header_numbers c.args.file.now h.header);
    }

pub returns : goal.returns
returns c =
    let f = c.args.file.now in
    let numbers = header_numbers f (head (goal.at.returns c).In_ok-h).header in
    let total : ℕ = c.total_of.result + 2 * c.in_ok-h.h.edges in
    let told : checked_of c.check_tables.result ≡ check_with total 1 f = c.check_tables.ensures in
    told ∙ ap (λ (t : ℕ). check_with t 1 f) (ap₂ (λ (t m : ℕ). t + 2 * m) (c.total_of.ensures ∙ ap₂ total_of numbers.0 numbers.1) numbers.1)
