-- `check_head` meets its contract: each rule of the header that is kept leaves the answer to those after it, and the first
-- that is broken gives its number.
use native.Mathlib.Omega.{arith}
use Prim.Native.Nat.{ℕ}
use mathlib.Core.Path.{◌≡◌, refl}
use mathlib.Core.Bool.{true, false}
use mathlib.Core.List.{List}
use borrow.Author.Tests.{lt-ltb, le-ltb, eq-eqb, ne_eqb}
use lib.ListN.{length}
use lib.Dec.{eqb}
use Rattle.format.specs.Layout.{states, edge_count, start_of, stays_word}
use Rattle.format.specs.Rules.{short_file, bad_states, bad_edges, bad_start, bad_stays, head_rules}
use Rattle.format.proofs.Reasons.{KeptTo, unheld_skipped}
use Rattle.model.specs.Values.{header_of}
use Rattle.model.proofs.Answers.{held_refuses, none_accepts}
use Rattle.checking.proofs.check_head.Goals as goal
use Rattle.checking.proofs.check_head.Goals.{Else-edges-gt-MOST_EDGES, Else-file-lt24, Else-states-gt-MOST_STATES, Else-states-start, Else-stays_word-gt1, Start, then-states-eq0-via-then-states-eq0, then-states-eq0-via-else-states-eq0+then-states-gt-MOST_STATES}

-- the function's start, from the place where each rule is kept
abbrev from1 : Else-file-lt24 → Start
from1 c = (goal.at.Else-file-lt24 c).Start

abbrev from2 : Else-states-gt-MOST_STATES → Start
from2 c = from1 (goal.at.Else-states-gt-MOST_STATES c).Else-file-lt24

abbrev from3 : Else-edges-gt-MOST_EDGES → Start
from3 c = from2 (goal.at.Else-edges-gt-MOST_EDGES c).Else-states-gt-MOST_STATES

abbrev from4 : Else-states-start → Start
from4 c = from3 (goal.at.Else-states-start c).Else-edges-gt-MOST_EDGES

abbrev from5 : Else-stays_word-gt1 → Start
from5 c = from4 (goal.at.Else-stays_word-gt1 c).Else-states-start

-- the file that is checked
abbrev checked : Start → List ℕ
checked c = c.args.file.now

-- past each rule those after it decide
kept_1 : (c : Else-file-lt24) → KeptTo 1 (head_rules (checked (from1 c)))
kept_1 c = let file = checked (from1 c) in unheld_skipped _ (short_file file) 1 _ refl (le-ltb (length file) 24 (omega (arith, c.if-file-lt24.false)))

kept_2 : (c : Else-states-gt-MOST_STATES) → KeptTo 2 (head_rules (checked (from2 c)))
kept_2 c =
    let file = checked (from2 c) in
    let in-range : bad_states file ≡ false = rw (ne_eqb (states file) 0 (omega arith), le-ltb 4096 (states file) (omega arith)) in
    unheld_skipped _ (bad_states file) 2 _ (kept_1 (goal.at.Else-states-gt-MOST_STATES c).Else-file-lt24) in-range

kept_3 : (c : Else-edges-gt-MOST_EDGES) → KeptTo 3 (head_rules (checked (from3 c)))
kept_3 c =
    let file = checked (from3 c) in
    unheld_skipped _ (bad_edges file) 3 _ (kept_2 (goal.at.Else-edges-gt-MOST_EDGES c).Else-states-gt-MOST_STATES) (le-ltb 8192 (edge_count file) (omega arith))

kept_4 : (c : Else-states-start) → KeptTo 4 (head_rules (checked (from4 c)))
kept_4 c =
    let file = checked (from4 c) in
    unheld_skipped _ (bad_start file) 4 _ (kept_3 (goal.at.Else-states-start c).Else-edges-gt-MOST_EDGES) (rw (lt-ltb (start_of file) (states file) (omega arith)))

kept_5 : (c : Else-stays_word-gt1) → KeptTo 5 (head_rules (checked (from5 c)))
kept_5 c =
    let file = checked (from5 c) in
    unheld_skipped _ (bad_stays file) 5 _ (kept_4 (goal.at.Else-stays_word-gt1 c).Else-states-start) (le-ltb 1 (stays_word file) (omega arith))

-- the header that is made of the numbers read is the file's own
header_told : (file : List ℕ) {n m i r : ℕ} → n ≡ states file → m ≡ edge_count file → i ≡ start_of file → r ≡ stays_word file
    → record { states = n; edges = m; start = i; stays = eqb r 1; table = 0 } ≡ header_of file 0
header_told file en em ei er = λ i. record { states = en i; edges = em i; start = ei i; stays = eqb (er i) 1; table = 0 }

pub returns-then-file-lt24 : goal.returns-then-file-lt24
returns-then-file-lt24 c =
    let start = (goal.at.returns-then-file-lt24 c).Start in
    let file = checked start in
    held_refuses (head_rules file) (header_of file 0) (short_file file) 1 _ refl (lt-ltb (length file) 24 (omega (arith, c.if-file-lt24.true)))

pub returns-then-states-eq0 : goal.returns-then-states-eq0
returns-then-states-eq0 c =
    let first = (goal.at.returns-then-states-eq0 c).Else-file-lt24 in
    let file = checked (from1 first) in
    let broken : bad_states file ≡ true =
    elim c.then-states-eq0.branch [
      | then-states-eq0-via-then-states-eq0 w ↦ rw (eq-eqb (states file) 0 (omega arith))
      | then-states-eq0-via-else-states-eq0+then-states-gt-MOST_STATES w ↦
          rw (ne_eqb (states file) 0 (omega arith), lt-ltb 4096 (states file) (omega arith))
    ] in
    held_refuses (head_rules file) (header_of file 0) (bad_states file) 2 _ (kept_1 first) broken

pub returns-then-edges-gt-MOST_EDGES : goal.returns-then-edges-gt-MOST_EDGES
returns-then-edges-gt-MOST_EDGES c =
    let start = from2 (goal.at.returns-then-edges-gt-MOST_EDGES c).Else-states-gt-MOST_STATES in
    let file = checked start in
    held_refuses (head_rules file) (header_of file 0) (bad_edges file) 3 _ (kept_2 (goal.at.returns-then-edges-gt-MOST_EDGES c).Else-states-gt-MOST_STATES) (lt-ltb 8192 (edge_count file) (omega arith))

pub returns-then-states-start : goal.returns-then-states-start
returns-then-states-start c =
    let start = from3 (goal.at.returns-then-states-start c).Else-edges-gt-MOST_EDGES in
    let file = checked start in
    held_refuses (head_rules file) (header_of file 0) (bad_start file) 4 _ (kept_3 (goal.at.returns-then-states-start c).Else-edges-gt-MOST_EDGES) (rw (le-ltb (start_of file) (states file) (omega arith)))

pub returns-then-stays_word-gt1 : goal.returns-then-stays_word-gt1
returns-then-stays_word-gt1 c =
    let start = from4 (goal.at.returns-then-stays_word-gt1 c).Else-states-start in
    let file = checked start in
    held_refuses (head_rules file) (header_of file 0) (bad_stays file) 5 _ (kept_4 (goal.at.returns-then-stays_word-gt1 c).Else-states-start) (lt-ltb 1 (stays_word file) (omega arith))

pub returns : goal.returns
returns c =
    let file = checked (from5 c) in
    let read = c in
    none_accepts (head_rules file) _ (header_of file 0)
    (header_told file read.word-states.ensures.0 read.word-edges.ensures.0 read.word-start.ensures.0 c.word-stays_word.ensures.0)
    (kept_5 c)
