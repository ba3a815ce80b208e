-- No sheet is longer than the room that is asked for its text.
use Prim.Native.Nat.{ℕ, ◌≤◌, min}
use mathlib.Core.Path.{◌≡◌, refl, ap}
use mathlib.Core.List.{List, ◌++◌}
use mathlib.Core.Option.{Option, some, none}
use native.Mathlib.Omega.{arith}
use lib.ListN.{length, take, drop, length-append}
use lib.Dec.{ltb}
use Rattle.lists.specs.Lists.{collect}
use Rattle.lasso.specs.Graph.{Graph}
use Rattle.lasso.specs.Roll.{least_length, roll}
use Rattle.lasso.specs.Rounds.{candidates}
use Rattle.lasso.proofs.RollLaws.{roll_empty, least_length_range}
use Rattle.numbers.specs.Limits.{most_lists, lists_room, sheet_room}
use Rattle.format.specs.Layout.{states, edge_count}
use Rattle.model.specs.Model.{graph_of}
use Rattle.format.specs.Rules.{rules, Accepted}
use Rattle.format.proofs.Reasons.{broken_number, append_clear}
use Rattle.model.proofs.Laws.{accepted_facts, accepted_well_formed}
use Rattle.lasso.proofs.RoundLaws.{candidates-length_le}
use Rattle.search.specs.Search.{search_reasons}
use Rattle.search.proofs.SearchLaws.{roll_first}
use Rattle.text.specs.Figure.{figure}
use Rattle.text.proofs.FigureLaws.{figure_room}
use Rattle.sheet_line.specs.Line.{line}
use Rattle.sheet_head.specs.Words.{refused_word, none_line, shortest_word}
use Rattle.sheet_lists.specs.RollText.{closing, lists_text}
use Rattle.sheet_text.specs.SheetText.{roll_text, text_of, sheet_ask, sheet_refusal}
use Rattle.sheet_lists.proofs.RoomLaws.{roll_room, lines_room, closing_room}
use Rattle.sheet_head.proofs.HeadLaws.{head_room}
use Rattle.sheet_text.proofs.SheetLaws.{head_lines, roll_text_some}
use Rattle.sheet.specs.Sheet.{SheetsFit}

-- a file that is not refused breaks none of 1 to 11
refusal_accepted : (f : List ℕ) (answerRoom workRoom : ℕ) → sheet_refusal f answerRoom workRoom ≡ none → Accepted f
refusal_accepted f answerRoom workRoom e = append_clear (rules f) (drop 12 (search_reasons f sheet_ask answerRoom workRoom)) e

-- the number of a refusal is at most 22
refusal_number : (f : List ℕ) (answerRoom workRoom n : ℕ) → sheet_refusal f answerRoom workRoom ≡ some n → n ≤ 22
refusal_number f answerRoom workRoom n e = broken_number (λ k. k ≤ 22) (search_reasons f sheet_ask answerRoom workRoom) (omega arith) n e

module _ (f : List ℕ) (accepted : Accepted f) where
  -- the lines before the lists
  head_lines_room : length (head_lines f) ≤ 28
  head_lines_room =
      let facts = accepted_facts f accepted in
      head_room (states f) (edge_count f) (length (candidates (graph_of f 0))) (omega (arith, facts.states_range)) (omega (arith, facts.edges_range))
      (omega (arith, facts.states_range, candidates-length_le (graph_of f 0)))

  -- the lines of the lists and the closing line
  lists_text_room : (l : ℕ) → least_length (graph_of f 0) ≡ some l → length (lists_text (roll (graph_of f 0))) ≤ lists_room
  lists_text_room l e =
      let g : Graph = graph_of f 0 in
      let facts = accepted_facts f accepted in
      let small = roll_room g (accepted_well_formed f 0 accepted) l e (omega (arith, facts.states_range)) in
      let n : ℕ = length (roll g) in
      omega (arith, length-append (collect line (take most_lists (roll g))) (closing n), lines_room most_lists (roll g) small, closing_room (ltb most_lists n) (min n most_lists) (omega arith))

  -- the text of a file that is not refused
  text_room : length (text_of none f) ≤ sheet_room
  text_room = go (least_length (graph_of f 0)) refl
    where
      go : (o : Option ℕ) → least_length (graph_of f 0) ≡ o → length (text_of none f) ≤ sheet_room
      go none e =
          let q : text_of none f ≡ head_lines f ++ none_line = ap (λ (rs : List (List ℕ)). head_lines f ++ roll_text rs) ((roll_empty (graph_of f 0)).1 e) in
          omega (arith, ap length q, length-append (head_lines f) none_line, head_lines_room)
      go (some l) e =
          let facts = accepted_facts f accepted in
          let (xs, first, long) = roll_first (graph_of f 0) l e in
          let rest : List ℕ = figure shortest_word l ++ lists_text (roll (graph_of f 0)) in
          let q : text_of none f ≡ head_lines f ++ rest = ap (λ (r : List ℕ). head_lines f ++ r) (roll_text_some (roll (graph_of f 0)) xs l first long) in
          let range = least_length_range (graph_of f 0) l e in
          omega (arith, ap length q, length-append (head_lines f) rest, length-append (figure shortest_word l) (lists_text (roll (graph_of f 0))), head_lines_room, lists_text_room l e, figure_room shortest_word l (omega (arith, facts.states_range)))

-- no sheet is longer than the room asked
pub sheet_text-length : SheetsFit
sheet_text-length f answerRoom workRoom = go (sheet_refusal f answerRoom workRoom) refl
  where
    go : (o : Option ℕ) → sheet_refusal f answerRoom workRoom ≡ o → length (text_of o f) ≤ sheet_room
    go none e = text_room f (refusal_accepted f answerRoom workRoom e)
    go (some n) e = omega (arith, figure_room refused_word n (omega (arith, refusal_number f answerRoom workRoom n e)))
