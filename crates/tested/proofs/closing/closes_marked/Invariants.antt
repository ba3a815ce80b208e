-- `closing::closes_marked` meets its contract. The loop goes from the last place back; its invariant: the flag tells if a state
-- after place k is marked, and no place after it passes the test.
use Prim.Native.Nat.{ℕ, suc, ◌+◌, ◌≤◌}
use mathlib.Core.Path.{◌≡◌}
use mathlib.Core.List.{List, ◌∷◌}
use lib.ListN.{get_or}
use Rattle.model.specs.declared.Header.{Header}
use Rattle.model.specs.Model.{graph_in}
use Rattle.frontier.specs.Regions.{entry}
use Rattle.lists.specs.Decides.{Decides}
use Rattle.tested.proofs.ClosingTests.{MarkFrom}
use Rattle.tested.proofs.closing.closes_marked.Given as goal

-- the state at place x is not reached soon enough, or no state from it on is marked
abbrev pub NotClosing : List ℕ → Header → List ℕ → ℕ → ℕ → ℕ → Type 0
NotClosing f h w place left x =
    (a : ℕ) → MarkFrom (graph_in f h) h.start w place x → entry 2 h.states w (get_or (h.start ∷ w) x 0) ≡ suc a
    → a ≤ left → ⊥

abbrev pub invariant-loop-k : goal.invariant-loop-k
invariant-loop-k l =
    Decides (MarkFrom (graph_in l.file l.h) l.h.start l.work l.place (l.k + 1)) l.marked × ((x : ℕ) → l.k + 1 ≤ x → NotClosing l.file l.h l.work l.place l.left x)
