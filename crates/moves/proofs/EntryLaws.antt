-- The last loop start of a list, by the entries of the working table.
use Prim.Native.Nat.{ℕ, ◌<◌}
use native.Mathlib.Omega.{arith}
use mathlib.Core.Path.{◌≡◌, ◌∙◌, ap}
use mathlib.Core.List.{List}
use mathlib.Core.Option.{some}
use Rattle.model.specs.declared.Header.{Header}
use Rattle.model.specs.Model.{graph_in}
use Rattle.model.proofs.Laws.{valid_well_formed}
use Rattle.frontier.specs.Regions.{entry}
use Rattle.current.specs.Current.{state_at}
use Rattle.stems.specs.Stems.{LoopAt, StemEntry, on_none, on_stem, on_start}
use Rattle.stems.proofs.StemLaws.{start_stem}
use Rattle.follow.specs.Follow.{StatesTo, Prepared}
use Rattle.goals.specs.Goals.{LastOf, LastStart}
use Rattle.goals.proofs.LastLaws.{last_iff}
use Rattle.moves.specs.Moves.{LoopEntry}

-- by the entries of a prepared table
module _ {f : List ℕ} {h : Header} {w : List ℕ} {l : ℕ} (p : Prepared f h w l) where
  -- an entry tells a loop start at its place
  entry-loop : (k : ℕ) → state_at h w k < h.states → LoopEntry h.states h.start w k → LoopAt (graph_in f h) l (state_at h w) k
  entry-loop k i (odd, half) = by (p.stems.entries (state_at h w k) i)
    where
      by : StemEntry (graph_in f h) l (state_at h w k) (entry 1 h.states w (state_at h w k)) → LoopAt (graph_in f h) l (state_at h w) k
      by (on_none never e) = absurd (omega arith)
      by (on_stem d o not e) = absurd (omega arith)
      by (on_start d o is e) = let same : d ≡ k = omega arith in record { at = o.at ∙ ap (λ (x : ℕ). some x) same; is = is }

  loop-entry : (k : ℕ) → state_at h w k < h.states → LoopAt (graph_in f h) l (state_at h w) k → LoopEntry h.states h.start w k
  loop-entry k i x = by (p.stems.entries (state_at h w k) i)
    where
      by : StemEntry (graph_in f h) l (state_at h w k) (entry 1 h.states w (state_at h w k)) → LoopEntry h.states h.start w k
      by (on_none never e) = let (d, o) = start_stem (valid_well_formed p.valid) p.least (state_at h w k) x.is in absurd (never d o)
      by (on_stem d o not e) = absurd (not x.is)
      by (on_start d o is e) =
          let a = o.at in
          let b = x.at in
          let same : d ≡ k = cc in
          (omega arith, omega arith)

  -- the last loop start by the entries is the last loop start
  pub entries_start : (place r : ℕ) → StatesTo h w place → LastOf (LoopEntry h.states h.start w) place r → LastStart (graph_in f h) l (state_at h w) place r
  entries_start place r states =
      last_iff (LoopEntry h.states h.start w) (LoopAt (graph_in f h) l (state_at h w)) place r (λ k i. entry-loop k (states k i)) (λ k i. loop-entry k (states k i))

  pub start_entries : (place r : ℕ) → StatesTo h w place → LastStart (graph_in f h) l (state_at h w) place r → LastOf (LoopEntry h.states h.start w) place r
  start_entries place r states =
      last_iff (LoopAt (graph_in f h) l (state_at h w)) (LoopEntry h.states h.start w) place r (λ k i. loop-entry k (states k i)) (λ k i. entry-loop k (states k i))
