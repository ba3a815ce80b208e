-- `complete` meets its contract. The loop's invariant: the list is completed as far as to `place`, and what is known
-- of it up to there is p.
use Rattle.follow.proofs.PlacesComplete.{Completing}
use Rattle.passed.specs.Passed.{PassedAt}
use Rattle.completion.proofs.complete.Given as goal

abbrev pub invariant-loop-place : goal.invariant-loop-place
invariant-loop-place l =
    Completing l.file l.h l.transitions.0 l.from l.initial.work l.work l.place × PassedAt l.file l.h l.work l.transitions.0 l.place l.p
