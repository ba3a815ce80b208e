-- The steps of the preparation, one after another: the loop lengths, the distances, the ends, the pass, and the entries.
use Prim.Native.Nat.{ℕ, ◌+◌, ◌*◌, ◌<◌}
use native.Mathlib.Omega.{arith}
use mathlib.Core.Path.{◌≡◌, sym, ◌∙◌}
use mathlib.Core.List.{List}
use mathlib.Core.Option.{some}
use lib.ListN.{get_or}
use Rattle.lasso.specs.Graph.{Graph, WellFormed}
use Rattle.lasso.specs.Roll.{least_length}
use Rattle.table.specs.Changes.{Copied}
use Rattle.frontier.specs.Regions.{entry, entry_of}
use Rattle.frontier.specs.Search.{Queue}
use Rattle.walks.specs.Through.{DistancesWithin}
use Rattle.ways.specs.Ways.{KeptBack}
use Rattle.starts.specs.LoopStarts.{start_loop, StartLoops}
use Rattle.stems.specs.Stems.{StemEntries, LevelsFit, StemsPut}
use Rattle.stems.proofs.StemTable.{entry_one, queue_same}
use Rattle.stems.proofs.StemWays.{StemsReady, kept_low, kept_entry}

-- after the loop lengths, the distances from the initial state up to the least length, and the copy of region 1 to region 4
module _ {g : Graph} {l count : ℕ} {w₁ w₂ w₃ : List ℕ} (wf : WellFormed g) (least : least_length g ≡ some l)
    (loops : StartLoops g l w₁) (away : DistancesWithin g g.start l w₁ w₂ count)
    (copied : Copied g.size (4 * g.size) g.size w₂ w₃) where
  -- region 1 stands as before
  loops_same : (s : ℕ) → s < g.size → get_or w₂ (g.size + s) 0 ≡ entry_of (start_loop g l s)
  loops_same s h = away.outside.same_before (g.size + s) (omega arith) ∙ sym (entry_one g.size w₁ s) ∙ loops.loops s h

  -- the table is ready for the pass
  pub stems_ready : StemsReady g l w₃
  stems_ready =
      record {
        levels = λ t h. copied.others.same_before (2 * g.size + t) (omega arith) ∙ away.distances t h;
        ends = λ t h. copied.copies t h ∙ loops_same t h;
      }

  -- the queue stands as before
  pub stems_queue : Queue g.size count w₃
  stems_queue = queue_same copied.others away.queue

  -- after the pass
  module _ {w₄ : List ℕ} (kept : KeptBack g g.size w₃ w₄) where
    -- the levels can be doubled
    pub stems_fit : LevelsFit g.size w₄
    stems_fit s h = kept_low wf least stems_ready kept s h

    -- after the entries are put
    module _ {w₅ : List ℕ} (put : StemsPut g.size g.size w₄ w₅) where
      -- they are those of the stems
      pub stems_done : StemEntries g l w₅
      stems_done =
          record {
            entries = λ s h.
                kept_entry wf least stems_ready kept s (entry 1 g.size w₅ s) (entry 1 g.size w₄ s) h
                (entry_one g.size w₄ s
                ∙ kept.outside.same_before (g.size + s) (omega arith)
                ∙ copied.others.same_before (g.size + s) (omega arith)
                ∙ loops_same s h)
                (put.put s h);
          }
