-- `layout::edge_part` meets its contract: the part between two row entries holds that row's numbers.
use Prim.Native.Nat.{ℕ, ◌+◌}
use mathlib.Core.Path.{◌≡◌, subst}
use native.Mathlib.Omega.{arith}
use Rattle.format.specs.Layout.{row_entry}
use Rattle.format.proofs.Words.{words_row}
use borrow.Author.Rules.{rules}
use Rattle.format.proofs.layout.edge_part.Goals as goal
use Rattle.format.proofs.layout.edge_part.Goals.{After-row_entry-2}

-- the row ends where the next one starts
ends : (c : After-row_entry-2) →
    let a = c.args in
    c.row_entry-2.result ≡ row_entry a.file.now (a.s + 1)
ends c =
    let a = c.args in
    subst (λ (n : ℕ). c.row_entry-2.result ≡ row_entry a.file.now n) (omega arith) c.row_entry-2.ensures.0

pub returns : goal.returns
returns c =
    let start = c in
    let a = start.args in
    let from = c.row_entry in
    let to = c.row_entry-2 in
    words_row a.file.now a.base a.s from.result to.result from.ensures.0 (ends (goal.at.returns c).After-row_entry-2)
    (search (rules, ends (goal.at.returns c).After-row_entry-2)) (search (rules, ends (goal.at.returns c).After-row_entry-2))
