-- The loop that prints the lists: what holds before each, what printing one does, and what holds at the end.
use Prim.Native.Nat.{ℕ, suc, ◌+◌, ◌≤◌, ◌<◌}
use mathlib.Core.Path.{◌≡◌, refl, sym, ◌∙◌, ap}
use mathlib.Core.Bool.{Bool, true, false}
use mathlib.Core.List.{List, [], ◌∷◌, ◌++◌}
use native.Mathlib.Omega.{arith}
use lib.ListN.{length, get_or, take, drop, length-append, length-drop}
use lib.Seq.{length-take-le, drop_at}
use Rattle.lists.specs.Lists.{collect}
use Rattle.lasso.specs.Graph.{Graph}
use Rattle.lasso.specs.Roll.{roll}
use Rattle.numbers.specs.Limits.{most_lists, lists_room}
use Rattle.model.specs.declared.Header.{Header}
use Rattle.model.specs.Model.{graph_in}
use Rattle.model.proofs.Laws.{valid_sizes, valid_well_formed}
use Rattle.follow.proofs.PlacesTable.{length_fits}
use Rattle.outcomes.specs.Tables.{written}
use Rattle.text.specs.declared.Output.{Output}
use Rattle.text.specs.Writing.{Adds, HasRoom}
use Rattle.text.proofs.WroteLaws.{adds_length, adds_none}
use Rattle.lists.proofs.CollectLaws.{collect_next}
use Rattle.text.proofs.EntriesLaws.{adds_next}
use Rattle.sheet_line.specs.Line.{line}
use Rattle.sheet_lists.specs.RollText.{closing_line, lists_text, last_printed}
use Rattle.cursor.specs.Cursor.{At}
use Rattle.sheet_lists.proofs.ClosingLaws.{Closed, closed_end, closed_more, adds_closed, answer_closed}
use Rattle.sheet_lists.proofs.RoomLaws.{roll_room, lines_room, closing_room}

-- Before a list is printed: it stands in region 0, those before it in the roll are printed, and the answer table is as
-- before from entry L + 1 on.
pub record Printing (f : List ℕ) (h : Header) (l : ℕ) (a₀ w₀ : List ℕ) (o₀ : Output) (a w : List ℕ) (o : Output) (count : ℕ) : Type 0 where
  pub here : At f h l count w
  pub few : count < most_lists
  pub lines : Adds o₀ (collect line (take count (roll (graph_in f h)))) o
  pub answer_length : length a ≡ length a₀
  pub answer_rest : drop (l + 1) a ≡ drop (l + 1) a₀
  pub work_length : length w ≡ length w₀

-- before the first list
pub printing_first : {f : List ℕ} {h : Header} {l : ℕ} {a w : List ℕ} {o : Output} → At f h l 0 w → o.at ≤ length o.bytes.now
    → Printing f h l a w o a w o 0
printing_first {o = o} here fits =
    record {
      here = here;
      few = omega arith;
      lines = adds_none o (omega (arith, fits));
      answer_length = refl;
      answer_rest = refl;
      work_length = refl;
    }

module _ {f : List ℕ} {h : Header} {l count : ℕ} {a₀ w₀ a w : List ℕ} {o₀ o : Output}
    (p : Printing f h l a₀ w₀ o₀ a w o count) where
  -- the list in region 0 after the start, as the code reads it
  abbrev listed : List ℕ
  listed = h.start ∷ take l w

  -- it is the one at its place in the roll
  listed_at : listed ≡ get_or (roll (graph_in f h)) count []
  listed_at = sym p.here.current.list_at

  -- its line has room, since the first 20 lines have
  pub listed_room : HasRoom o₀ lists_room → HasRoom o (length (line listed))
  listed_room room =
      let g : Graph = graph_in f h in
      let sizes = valid_sizes p.here.prepared.valid in
      let small = roll_room g (valid_well_formed p.here.prepared.valid) l p.here.prepared.least (omega arith) in
      let n : ℕ = length (collect line (take count (roll g))) in
      let m : ℕ = length (line (get_or (roll g) count [])) in
      let sum : length (collect line (take (count + 1) (roll g))) ≡ n + m =
      ap length (collect_next line (roll g) count [] p.here.current.place_in) ∙ length-append (collect line (take count (roll g))) (line (get_or (roll g) count [])) in
      let same : length (line listed) ≡ m = ap (λ (xs : List ℕ). length (line xs)) listed_at in
      omega (arith, lines_room (count + 1) (roll g) small, p.few, p.lines.wrote.place, adds_length p.lines)

  -- what the writer of the list and its line asks
  pub listed_asks : l < length a₀ → HasRoom o₀ lists_room
      → (l ≤ length w) × ((l < length a) × ((h.start < 65536) × HasRoom o (length (line listed))))
  listed_asks fits room =
      let sizes = valid_sizes p.here.prepared.valid in
      let le : l ≤ h.states = length_fits p.here.prepared in
      (omega (arith, p.here.prepared.room), (omega (arith, p.answer_length), (omega arith, listed_room room)))

  -- no list is left
  pub closed_last : length (roll (graph_in f h)) ≡ count + 1 → Closed (roll (graph_in f h)) false (count + 1)
  closed_last e = closed_end (roll (graph_in f h)) (count + 1) e (omega (arith, p.few))

  -- a list is left behind the last that is printed
  pub closed_full : {w' : List ℕ} → At f h l (count + 1) w' → count + 1 ≡ 20 → Closed (roll (graph_in f h)) true (count + 1)
  closed_full at' full = closed_more (roll (graph_in f h)) (count + 1) full at'.current.place_in

  module _ {a' : List ℕ} {o' : Output} (lined : Adds o (line listed) o') (answered : a' ≡ listed ++ drop (l + 1) a) where
    -- the lines up to it are printed
    pub printed_lines : Adds o₀ (collect line (take (count + 1) (roll (graph_in f h)))) o'
    printed_lines = adds_next line (roll (graph_in f h)) count [] listed p.here.current.place_in listed_at p.lines lined

    -- the list has one entry more than transitions
    listed_length : length listed ≡ suc l
    listed_length =
        let sizes = valid_sizes p.here.prepared.valid in
        let le : l ≤ h.states = length_fits p.here.prepared in
        ap suc (length-take-le l w (omega (arith, p.here.prepared.room)))

    -- the answer table holds it
    printed_answer : a' ≡ listed ++ drop (l + 1) a₀
    printed_answer = answered ∙ ap (λ (r : List ℕ). listed ++ r) p.answer_rest

    -- the table keeps its length
    pub printed_answer_length : l < length a₀ → length a' ≡ length a₀
    printed_answer_length fits =
        ap length printed_answer ∙ length-append listed (drop (l + 1) a₀) ∙ omega (arith, length-drop (l + 1) a₀, listed_length)

    -- the closing line has room
    pub closing_asks : HasRoom o₀ lists_room → (more : Bool) → HasRoom o' (length (closing_line more (count + 1)))
    closing_asks room more =
        let g : Graph = graph_in f h in
        let sizes = valid_sizes p.here.prepared.valid in
        let small = roll_room g (valid_well_formed p.here.prepared.valid) l p.here.prepared.least (omega arith) in
        omega (arith, p.few, closing_room more (count + 1) (omega (arith, p.few)), lines_room (count + 1) (roll g) small, printed_lines.wrote.place, adds_length printed_lines)

    -- before the following list
    pub printing_next : l < length a₀ → {w' : List ℕ} → At f h l (count + 1) w' → length w' ≡ length w → (count + 1 ≡ 20 → ⊥)
        → Printing f h l a₀ w₀ o₀ a' w' o' (count + 1)
    printing_next fits at' kept apart =
        record {
          here = at';
          few = omega (arith, p.few);
          lines = printed_lines;
          answer_length = printed_answer_length fits;
          answer_rest = ap (λ (r : List ℕ). drop (l + 1) r) printed_answer ∙ drop_at listed (drop (l + 1) a₀) (l + 1) (omega (arith, listed_length));
          work_length = kept ∙ p.work_length;
        }

    -- the whole text of the lists, and the answer table, once the closing line is written
    pub printing_closed : {more : Bool} {o'' : Output} → Closed (roll (graph_in f h)) more (count + 1)
        → Adds o' (closing_line more (count + 1)) o''
        → Adds o₀ (lists_text (roll (graph_in f h))) o'' × (a' ≡ written (last_printed (roll (graph_in f h))) a₀)
    printing_closed c v = (
      adds_closed c printed_lines v,
      answer_closed a₀ a' listed count l c p.here.current.place_in (sym listed_at) listed_length printed_answer,
    )
