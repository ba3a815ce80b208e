-- What the sheet of a file is, case by case: refused, without a list, with lists.
use Prim.Native.Nat.{ℕ, suc, ◌+◌, ◌*◌, ◌≤◌, ◌<◌}
use mathlib.Core.Path.{◌≡◌, sym, ◌∙◌, ap}
use mathlib.Core.List.{List, [], ◌∷◌, ◌++◌, head?, append_assoc}
use mathlib.Core.Option.{Option, some, none}
use native.Mathlib.Omega.{arith}
use lib.ListN.{length}
use Rattle.lasso.specs.Graph.{edges}
use Rattle.lasso.specs.Roll.{least_length, roll, roll_within}
use Rattle.lasso.specs.Rounds.{candidates}
use Rattle.lasso.proofs.RollLaws.{roll_empty, least_length_range}
use Rattle.lasso.proofs.CeilingLaws.{roll_full}
use Rattle.format.specs.Layout.{states, edge_count}
use Rattle.model.specs.Model.{graph_of}
use Rattle.format.specs.Rules.{Accepted}
use Rattle.model.specs.declared.Header.{Header}
use Rattle.model.specs.Values.{Valid}
use Rattle.model.proofs.Laws.{accepted_facts, header_numbers, valid_sizes}
use Rattle.lasso.proofs.RoundLaws.{candidates-length_le}
use Rattle.outcomes.proofs.OutcomeLaws.{refused_some, answered_none}
use Rattle.outcomes.specs.Outcome.{refused, answered}
use Rattle.outcomes.specs.Tables.{written, unless_refused}
use Rattle.search.specs.Search.{Searched, searched}
use Rattle.search.proofs.SearchLaws.{SearchIs, search_none, search_found, search_no_room, roll_first}
use Rattle.text.specs.Figure.{figure}
use Rattle.sheet_head.specs.Words.{refused_word, none_line, shortest_word}
use Rattle.sheet_head.specs.Head.{head}
use Rattle.sheet_text.specs.SheetText.{roll_text, text_of, sheet_ask, sheet_refusal, sheet_text, sheet_answer}
use Rattle.sheet_lists.specs.RollText.{lists_text, last_printed}
use Rattle.sheet_head.proofs.HeadLaws.{head_room}

-- the whole text of a sheet, and the list that it leaves in the answer table
pub record SheetIs (f : List ℕ) (answerRoom workRoom : ℕ) (text : List ℕ) (due : Option (List ℕ)) : Type 0 where
  pub text_is : sheet_text f answerRoom workRoom ≡ text
  pub list_is : unless_refused (sheet_refusal f answerRoom workRoom) (last_printed (roll (graph_of f 0))) ≡ due

-- the answer table holds that list
pub sheet_answer_lem : {f : List ℕ} {workRoom : ℕ} {text : List ℕ} {due : Option (List ℕ)} (a : List ℕ) → SheetIs f (length a) workRoom text due
    → sheet_answer f a workRoom ≡ written due a
sheet_answer_lem a s = ap (λ (o : Option (List ℕ)). written o a) s.list_is

-- the sheet of a file that a search refuses
pub sheet_refused : (f : List ℕ) (answerRoom workRoom : ℕ) {n : ℕ} {due : Option (List ℕ)} → SearchIs f sheet_ask answerRoom workRoom (refused n) due
    → SheetIs f answerRoom workRoom (figure refused_word n) none
sheet_refused f answerRoom workRoom {n} s =
    let e : sheet_refusal f answerRoom workRoom ≡ some n = refused_some (sheet_refusal f answerRoom workRoom) (searched (graph_of f 0) sheet_ask) n s.outcome_is in
    record {
      text_is = ap (λ (o : Option ℕ). text_of o f) e;
      list_is = ap (λ (o : Option ℕ). unless_refused o (last_printed (roll (graph_of f 0)))) e;
    }

-- the sheet of a file that a search does not refuse
sheet_kept : (f : List ℕ) (answerRoom workRoom : ℕ) {a : Searched} {due : Option (List ℕ)} → SearchIs f sheet_ask answerRoom workRoom (answered a) due
    → SheetIs f answerRoom workRoom (text_of none f) (last_printed (roll (graph_of f 0)))
sheet_kept f answerRoom workRoom {a} s =
    let e : sheet_refusal f answerRoom workRoom ≡ none = answered_none (sheet_refusal f answerRoom workRoom) (searched (graph_of f 0) sheet_ask) a s.outcome_is in
    record {
      text_is = ap (λ (o : Option ℕ). text_of o f) e;
      list_is = ap (λ (o : Option ℕ). unless_refused o (last_printed (roll (graph_of f 0)))) e;
    }

-- the text after the rounds, if there is a first list
pub roll_text_some : (rs : List (List ℕ)) (xs : List ℕ) (l : ℕ) → head? rs ≡ some xs → length xs ≡ suc l
    → roll_text rs ≡ figure shortest_word l ++ lists_text rs
roll_text_some [] xs l e long = let z : ◌≡◌ {A = ℕ} 0 1 = cc in absurd (omega arith)
roll_text_some (r ∷ rs) xs l e long =
    let q : r ≡ xs = cc in
    let n : edges r ≡ l = ap edges q ∙ omega arith in
    ap (λ (k : ℕ). figure shortest_word k ++ lists_text (r ∷ rs)) n

-- the lines before the lists
abbrev pub head_lines : List ℕ → List ℕ
head_lines f = head (states f) (edge_count f) (length (candidates (graph_of f 0)))

module _ (f : List ℕ) (accepted : Accepted f) (answerRoom workRoom : ℕ) (room : 6 * states f ≤ workRoom) where
  -- the allowance suffices
  pub enough_rounds : length (candidates (graph_of f 0)) ≤ sheet_ask.allowance
  enough_rounds =
      let facts = accepted_facts f accepted in
      omega (arith, candidates-length_le (graph_of f 0), facts.states_range)

  -- the mark table is one of the two
  named_one : sheet_ask.table ≤ 1
  named_one = omega arith

  -- the ceiling is no higher than may be
  low_ceiling : sheet_ask.ceiling.0 ≤ 4096
  low_ceiling = omega arith

  -- and cuts nothing off the roll
  pub whole_roll : roll_within (graph_of f 0) sheet_ask.ceiling.0 ≡ roll (graph_of f 0)
  whole_roll =
      let facts = accepted_facts f accepted in
      roll_full (graph_of f 0) sheet_ask.ceiling.0 (omega (arith, facts.states_range))

  -- there is no accepting path
  pub sheet_none : least_length (graph_of f 0) ≡ none → SheetIs f answerRoom workRoom (head_lines f ++ none_line) none
  sheet_none e =
      let no-list : roll (graph_of f 0) ≡ [] = (roll_empty (graph_of f 0)).1 e in
      let s = sheet_kept f answerRoom workRoom (search_none f accepted sheet_ask answerRoom workRoom room named_one low_ceiling enough_rounds (whole_roll ∙ no-list)) in
      record {
        text_is = s.text_is ∙ ap (λ (rs : List (List ℕ)). head_lines f ++ roll_text rs) no-list;
        list_is = s.list_is ∙ ap (λ (rs : List (List ℕ)). last_printed rs) no-list;
      }

  -- there are lists, and they have room
  pub sheet_lists : (l : ℕ) → least_length (graph_of f 0) ≡ some l → l + 1 ≤ answerRoom
      → SheetIs f answerRoom workRoom (head_lines f ++ figure shortest_word l ++ lists_text (roll (graph_of f 0))) (last_printed (roll (graph_of f 0)))
  sheet_lists l e fits =
      let (xs, first, long) = roll_first (graph_of f 0) l e in
      let s = sheet_kept f answerRoom workRoom (search_found f accepted sheet_ask answerRoom workRoom room named_one low_ceiling enough_rounds xs (ap (λ (rs : List (List ℕ)). head? rs) whole_roll ∙ first) (omega arith)) in
      record {
        text_is =
            s.text_is
            ∙ ap (λ (r : List ℕ). head_lines f ++ r) (roll_text_some (roll (graph_of f 0)) xs l first long)
            ∙ sym (append_assoc (head_lines f) (figure shortest_word l) (lists_text (roll (graph_of f 0))));
        list_is = s.list_is;
      }

  -- there are lists, and they have no room
  pub sheet_no_room : (l : ℕ) → least_length (graph_of f 0) ≡ some l → answerRoom < l + 1 → SheetIs f answerRoom workRoom (figure refused_word 15) none
  sheet_no_room l e less =
      let facts = accepted_facts f accepted in
      let within : l ≤ sheet_ask.ceiling.0 = omega (arith, least_length_range (graph_of f 0) l e, facts.states_range) in
      sheet_refused f answerRoom workRoom (search_no_room f accepted sheet_ask answerRoom workRoom room named_one low_ceiling enough_rounds l e within less)

-- the numbers of the header are the file's
pub head_is : {f : List ℕ} {h : Header} {rounds : ℕ} → Valid f h → rounds ≡ length (candidates (graph_of f 0))
    → head h.states h.edges rounds ≡ head_lines f
head_is {f} {h} {rounds} v e =
    let (n, m, s) = header_numbers f v.header in
    ap (λ (k : ℕ). head k h.edges rounds) n
    ∙ ap (λ (k : ℕ). head (states f) k rounds) m
    ∙ ap (λ (k : ℕ). head (states f) (edge_count f) k) e

-- the lines before the lists have room
pub head_fits : {f : List ℕ} {h : Header} {rounds : ℕ} → Valid f h → rounds ≡ length (candidates (graph_of f 0))
    → length (head h.states h.edges rounds) ≤ 28
head_fits {f} {h} {rounds} v e =
    let sizes = valid_sizes v in
    head_room h.states h.edges rounds (omega arith) (omega arith) (omega (arith, e, candidates-length_le (graph_of f 0)))
