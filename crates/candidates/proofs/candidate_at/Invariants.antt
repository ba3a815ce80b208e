-- `candidates::candidate_at` meets its contract. The loop's invariant: `before` candidates are below s, and no more than
-- the place asked for; so the candidate at that place is to come.
use Prim.Native.Nat.{◌≤◌}
use Rattle.model.specs.Model.{graph_in}
use Rattle.candidates.proofs.CandidateLaws.{Counted}
use Rattle.candidates.proofs.candidate_at.Given as goal

abbrev pub invariant-loop-s : goal.invariant-loop-s
invariant-loop-s l = (l.before ≤ l.place) × (l.before ≤ l.s) × Counted (graph_in l.file l.h) l.before l.s
