-- `candidates::count_candidates` meets its contract. The loop's invariant: `count` candidates are below s.
use Prim.Native.Nat.{◌≤◌}
use Rattle.model.specs.Model.{graph_in}
use Rattle.candidates.proofs.CandidateLaws.{Counted}
use Rattle.candidates.proofs.count_candidates.Given as goal

abbrev pub invariant-loop-s : goal.invariant-loop-s
invariant-loop-s l = (l.count ≤ l.s) × Counted (graph_in l.file l.h) l.count l.s
