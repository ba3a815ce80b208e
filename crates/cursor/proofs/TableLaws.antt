-- The working table with a given list: prepared with the states that can start a loop, then with that list in region 0.
use Prim.Native.Nat.{ℕ, suc, ◌+◌, ◌*◌, ◌≤◌}
use mathlib.Core.Path.{◌≡◌, ◌∙◌, ap}
use mathlib.Core.List.{List, Memᴰ}
use mathlib.Core.Option.{some}
use native.Mathlib.Omega.{arith}
use lib.ListN.{length, get_or}
use lib.Dec.{T, eqb, eqb→eq}
use Rattle.lasso.specs.Graph.{Graph, edges}
use Rattle.lasso.specs.Roll.{least_length, roll}
use Rattle.lists.proofs.Tests.{parts}
use Rattle.lasso.proofs.RollLaws.{least_length_range, roll-length, roll_lasso}
use Rattle.model.specs.declared.Header.{Header}
use Rattle.model.specs.Model.{graph_in}
use Rattle.model.proofs.Laws.{valid_sizes}
use Rattle.candidates.specs.Promises.{RoundsReady}
use Rattle.stems.specs.Stems.{StemEntries}
use Rattle.stems.proofs.StemTable.{stems_kept}
use Rattle.current.specs.Current.{list_in}
use Rattle.follow.specs.Follow.{Prepared}
use Rattle.cursor.proofs.LoadLaws.{loaded, loaded_list, loaded_after, loaded_length}

module _ (g : Graph) (l : ℕ) (least : least_length g ≡ some l) (xs : List ℕ) (m : Memᴰ xs (roll g)) where
  -- a list of the roll begins with the start
  roll_start : get_or xs 0 0 ≡ g.start
  roll_start =
      let (lasso, long) = roll_lasso g l least xs m in
      let starts : T (eqb (get_or xs 0 0) g.start) = search parts in
      eqb→eq (get_or xs 0 0) g.start starts

  -- it has l transitions
  pub roll-edges : edges xs ≡ l
  roll-edges = (roll_lasso g l least xs m).1

  -- put into region 0, it is the list up to place l
  pub loaded_list_in : (w w' : List ℕ) → w' ≡ loaded xs w → list_in g.start w' l ≡ xs
  loaded_list_in w w' e =
      ap (λ (z : List ℕ). list_in g.start z l) e ∙ loaded_list g.start xs w l (roll-length g l least xs m) roll_start

module _ {f : List ℕ} {h : Header} {w : List ℕ} (ready : RoundsReady f h w) (l : ℕ) (least : least_length (graph_in f h) ≡ some l) where
  -- the least length fits region 0
  pub least_fits : (1 ≤ l) × (l ≤ h.states) × (h.states ≤ 4096)
  least_fits =
      let sizes = valid_sizes ready.valid in
      omega (arith, least_length_range (graph_in f h) l least)

  -- a list of the roll leaves the table's length as it is
  pub loaded_kept : (w₁ w₂ : List ℕ) → length w₁ ≡ length w → (xs : List ℕ) → Memᴰ xs (roll (graph_in f h))
      → w₂ ≡ loaded xs w₁ → length w₂ ≡ length w
  loaded_kept w₁ w₂ same xs m e =
      ap length e
      ∙ loaded_length xs w₁ (omega (arith, least_fits, ready.room, roll-edges (graph_in f h) l least xs m))
      ∙ same

  -- a prepared table is prepared with a list of the roll in region 0
  pub prepared_loaded : (w₁ w₂ : List ℕ) → length w₁ ≡ length w → StemEntries (graph_in f h) l w₁ → (xs : List ℕ)
      → Memᴰ xs (roll (graph_in f h)) → w₂ ≡ loaded xs w₁ → Prepared f h w₂ l
  prepared_loaded w₁ w₂ same stems xs m e =
      let g : Graph = graph_in f h in
      let sizes = valid_sizes ready.valid in
      let long : length xs ≡ suc l = roll-length g l least xs m in
      record {
        valid = ready.valid;
        room = omega (arith, ready.room, loaded_kept w₁ w₂ same xs m e);
        least = least;
        stems = stems_kept (λ s low.
            ap (λ (z : List ℕ). get_or z (1 * g.size + s) 0) e
            ∙ loaded_after xs w₁ (1 * g.size + s) (omega arith) (omega (arith, least_fits))) stems;
      }
