-- `grade_of_model` meets its contract: a list that breaks is "false", any other has the verdict on it; the place is the first
-- that breaks either way.
use mathlib.Core.Path.{sym}
use Rattle.model.specs.Model.{graph_in}
use Rattle.model.proofs.Laws.{valid_well_formed}
use Rattle.grade_verdicts.proofs.AcceptLaws.{verdict_false}
use Rattle.grade.proofs.GradeLaws.{accepts_broken}
use Rattle.grade.proofs.grade_of_model.Goals as goal

pub returns-in-Some-clause-grade : goal.returns-in-Some-clause-grade
returns-in-Some-clause-grade c =
    let a = c.args in
    let g = graph_in a.file.now a.h in
    let no = verdict_false g a.list.now a.k (accepts_broken g (valid_well_formed c.requires.valid) a.list.now a.k _ (sym c.in-Some.ensures)) in
    λ i. record { verdict = sym no i; place = c.first_break-first_break.ensures i }
