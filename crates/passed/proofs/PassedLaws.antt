-- What is known of a list after a store, and with one place less.
use Prim.Native.Nat.{ℕ, zero, suc, ◌+◌, ◌*◌, ◌≤◌, ◌<◌}
use native.Mathlib.Omega.{arith}
use mathlib.Core.Path.{◌≡◌, refl, sym, ◌∙◌}
use mathlib.Core.Bool.{true, false}
use mathlib.Core.List.{List}
use lib.ListN.{set}
use lib.Seq.{get_or-set_other}
use lib.Dec.{T}
use Rattle.model.specs.declared.Header.{Header}
use Rattle.model.specs.Model.{graph_in}
use Rattle.frontier.specs.Regions.{entry}
use Rattle.current.specs.Current.{state_at}
use Rattle.stems.specs.Stems.{LoopAt}
use Rattle.goals.specs.Goals.{LastStart, LastMark}
use Rattle.goals.proofs.LastLaws.{last_down}
use Rattle.goal_tables.specs.Tables.{Tables}
use Rattle.goal_tables.proofs.AgreeLaws.{start_agree, mark_agree, tables_for}
use Rattle.passed.specs.Passed.{PassedAt, KnownFrom, Moved}
use Rattle.passed.specs.declared.Passed.{Passed}

-- what is known of the list is known of an equal one whose tables stand as before
pub passed_agree : {f : List ℕ} {h : Header} {w w' : List ℕ} {l place : ℕ} {p : Passed} → ((k : ℕ) → k ≤ place → state_at h w k ≡ state_at h w' k)
    → ((t : ℕ) → t < h.states → entry 2 h.states w' t ≡ entry 2 h.states w t) → ((t : ℕ) → t < h.states → entry 5 h.states w' t ≡ entry 5 h.states w t)
    → PassedAt f h w l place p → PassedAt f h w' l place p
passed_agree {f} {h} {w} {w'} agree two five o =
    record {
      start = start_agree agree o.start;
      mark = mark_agree (graph_in f h) (state_at h w) (state_at h w') agree o.mark;
      tables = λ made b e. tables_for (λ k i. agree k (omega (arith, o.start.low))) two five (o.tables made b e);
    }

-- a store after the list keeps what is known of it
pub passed_put : {f : List ℕ} {h : Header} {w : List ℕ} {l place : ℕ} {p : Passed} (t : ℕ) → place < h.states → PassedAt f h w l place p → PassedAt f h (set w place t) l place p
passed_put {f} {h} {w} {l} {place} {p} t i o =
    passed_agree agree
    (λ s j. get_or-set_other w place (2 * h.states + s) t 0 (λ q. omega arith))
    (λ s j. get_or-set_other w place (5 * h.states + s) t 0 (λ q. omega arith)) o
  where
    agree : (k : ℕ) → k ≤ place → state_at h w k ≡ state_at h (set w place t) k
    agree zero j = refl
    agree (suc k) j = sym (get_or-set_other w place k t 0 (λ q. omega arith))

-- what is known with these as the last loop start and the last mark
pub passed_moved : {f : List ℕ} {h : Header} {w : List ℕ} {l place start mark : ℕ} {p r : Passed} → Moved p start mark r
    → LastStart (graph_in f h) l (state_at h w) place start → LastMark (graph_in f h) (state_at h w) place mark
    → (p.made ≡ true → (b : ℕ) → p.start ≡ suc b → b ≤ place → Tables (graph_in f h) l (state_at h w) b w) → PassedAt f h w l place r
passed_moved is last marks tables =
    record {
      start = rw is.start_is last;
      mark = rw is.mark_is marks;
      tables = λ e b i. let (made, same) = is.made e in tables made b (sym same ∙ sym is.start_is ∙ i) (omega (arith, last.low, is.start_is));
    }

-- one place less: what is known then
pub known_down : {f : List ℕ} {h : Header} {w : List ℕ} {l place : ℕ} {p : Passed} → PassedAt f h w l (place + 1) p → KnownFrom f h w l place p
known_down {f} {h} {w} {l} {place} {p} o =
    record {
      start = λ i. last_down (LoopAt (graph_in f h) l (state_at h w)) place p.start o.start i;
      mark = λ i. last_down (λ k. T ((graph_in f h).marked (state_at h w k))) place p.mark o.mark i;
      tables = λ made b e i. o.tables made b e;
    }

-- nothing is known
pub known_none : {f : List ℕ} {h : Header} {w : List ℕ} {l place : ℕ} {p : Passed} → place + 1 < p.start → place + 1 < p.mark → p.made ≡ false → KnownFrom f h w l place p
known_none i j e =
    record {
      start = λ k. absurd (omega arith);
      mark = λ k. absurd (omega arith);
      tables = λ made b q k. let z : ◌≡◌ {A = ℕ} 0 1 = cc in absurd (omega arith);
    }
