-- `enter` meets its contract: 22 with the table cleared, the check's refusal, 12, or the header with the mark table.
use mathlib.Core.Path.{◌≡◌, sym, ◌∙◌, ap}
use mathlib.Core.List.{List}
use mathlib.Core.Option.{Option, some}
use Prim.Native.Nat.{ℕ, ◌≤◌}
use native.Mathlib.Omega.{arith}
use Rattle.std.proofs.Common.{rules}
use lib.ListN.{length}
use Rattle.format.specs.Rules.{first_broken}
use Rattle.model.specs.Values.{Refused, Accept}
use Rattle.model.specs.Values.{header_of, answer_of, Valid}
use Rattle.model.proofs.Laws.{valid_sizes}
use Rattle.model.proofs.Answers.{check_refused, check_valid, naming_own}
use Rattle.gate.specs.Gate.{named_rules, gate_of}
use Rattle.gate.proofs.GateLaws.{common_refused, named_none, named_one, valid_small, valid_common, entered_zero, entered_same}
use Rattle.gate.proofs.enter.Goals as goal
use Rattle.gate.proofs.enter.Goals.{In_ok-h}

-- refused with the first reason that holds
refused : (f : List ℕ) (t work n : ℕ) → first_broken (named_rules f t work) ≡ some n → Refused n ≡ gate_of f t work
refused f t work n e = sym (ap (λ (o : Option ℕ). answer_of o (header_of f t)) e)

-- an accepted file, with its header
valid : (c : In_ok-h) → Valid c.args.file.now c.in_ok-h.h
valid c = check_valid _ _ c.in_ok-h.ensures

pub returns-then-mark_table-gt1 : goal.returns-then-mark_table-gt1
returns-then-mark_table-gt1 c =
    let a = c.args in record {
      answer = refused a.file.now a.mark_table _ 22 (named_none a.file.now a.mark_table (length a.work.now) (omega (arith, c.if-mark_table-gt1.true)));
      work = entered_zero a.mark_table (omega (arith, c.if-mark_table-gt1.true)) c.leave.ensures;
    }

pub overflow_mul-h : goal.overflow_mul-h
overflow_mul-h c = let sizes = valid_sizes (valid (goal.at.overflow_mul-h c).In_ok-h) in omega arith

pub returns-then-work-h : goal.returns-then-work-h
returns-then-work-h c =
    let a = c.args in
    let one : a.mark_table ≤ 1 = omega (arith, c.if-mark_table-gt1.false) in
    let small = valid_small (valid (goal.at.returns-then-work-h c).In_ok-h) (length a.work.now) (omega (arith, c.if-work-h.true)) in record {
      answer = refused a.file.now a.mark_table _ 12 (named_one a.file.now a.mark_table (length a.work.now) one ∙ small);
      work = entered_same a.mark_table a.work.now one;
    }

pub returns-in_err-h : goal.returns-in_err-h
returns-in_err-h c =
    let a = c.args in
    let one : a.mark_table ≤ 1 = omega (arith, c.if-mark_table-gt1.false) in
    let broken = common_refused a.file.now (length a.work.now) _ (check_refused a.file.now _ c.in_err-h.ensures) in
    let told = refused a.file.now a.mark_table _ _ (named_one a.file.now a.mark_table (length a.work.now) one ∙ broken) in record {
      answer = search (rules, told);
      work = entered_same a.mark_table a.work.now one;
    }

pub returns : goal.returns
returns c =
    let a = c.args in
    let one : a.mark_table ≤ 1 = omega (arith, c.if-mark_table-gt1.false) in
    let accepted = valid (goal.at.returns c).In_ok-h in
    let clear = valid_common accepted (length a.work.now) (omega (arith, c.if-work-h.false)) in record {
      answer = ap Accept (c.naming.ensures ∙ naming_own accepted a.mark_table)
          ∙ sym (ap (λ (o : Option ℕ). answer_of o (header_of a.file.now a.mark_table))
          (named_one a.file.now a.mark_table (length a.work.now) one ∙ clear));
      work = entered_same a.mark_table a.work.now one;
    }
