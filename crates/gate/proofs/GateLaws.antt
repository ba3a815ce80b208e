-- The first reason that holds, in the table that every call applies with the call's own reasons after it: what the gate
-- says, which reasons are left to decide after it, and what becomes of the working table.
use Prim.Native.Nat.{ℕ, ◌*◌, ◌≤◌, ◌<◌}
use mathlib.Core.Path.{◌≡◌, refl, sym, ◌∙◌, ap}
use mathlib.Core.Bool.{Bool, true, false}
use mathlib.Core.List.{List, [], ◌∷◌, ◌++◌}
use mathlib.Core.Option.{Option, some, none}
use mathlib.Core.Logic.{inl, inr}
use native.Mathlib.Omega.{arith}
use borrow.Author.Tests.{lt-ltb, le-ltb, le-leb}
use lib.ListN.{length, replicate, length-replicate}
use Rattle.lists.proofs.Tests.{lt_or_ge}
use Rattle.lists.specs.Lists.{pick, some_if}
use Rattle.format.specs.Layout.{states}
use Rattle.format.specs.Rules.{Reason, first_broken, rules, Accepted}
use Rattle.model.specs.declared.Header.{Header}
use Rattle.model.specs.Values.{Checked}
use Rattle.model.specs.Values.{Refused, Accept}
use Rattle.model.specs.Values.{header_of, answer_of, Valid}
use Rattle.format.proofs.Reasons.{clear_append, broken_append, append_clear, broken_number}
use Rattle.model.proofs.Answers.{own_valid}
use Rattle.model.specs.Model.{graph_in, graph_of}
use Rattle.model.proofs.Laws.{valid_graph, valid_sizes}
use Rattle.gate.specs.Gate.{small_table, common_rules, no_table, named_rules, ceiling_reason, gate_of, zeros, work_entered, work_after, work_of, Zeroed, GatePassed, GateSays}

-- the reason that the common table has after those of the file
abbrev pub room_reason : List ℕ → ℕ → List Reason
room_reason f workRoom = record { number = 12; holds = small_table f workRoom } ∷ []

-- a refused file is refused with the number of its check, whatever the working table
pub common_refused : (f : List ℕ) (workRoom n : ℕ) → first_broken (rules f) ≡ some n → first_broken (common_rules f workRoom) ≡ some n
common_refused f workRoom n e = broken_append (rules f) (room_reason f workRoom) n e

-- an accepted file is refused with 12 if the working table is too small
pub common_small : (f : List ℕ) (workRoom : ℕ) → Accepted f → workRoom < 6 * states f → first_broken (common_rules f workRoom) ≡ some 12
common_small f workRoom a less =
    clear_append (rules f) (room_reason f workRoom) a ∙ ap (λ (b : Bool). some_if b 12 none) (lt-ltb workRoom (6 * states f) less)

-- an accepted file with room in the working table breaks none of 1 to 12
pub common_clear : (f : List ℕ) (workRoom : ℕ) → Accepted f → 6 * states f ≤ workRoom → first_broken (common_rules f workRoom) ≡ none
common_clear f workRoom a room =
    clear_append (rules f) (room_reason f workRoom) a ∙ ap (λ (b : Bool). some_if b 12 none) (le-ltb workRoom (6 * states f) room)

-- a file that breaks none of 1 to 12 is accepted, and the working table has room
pub clear_common : (f : List ℕ) (workRoom : ℕ) → first_broken (common_rules f workRoom) ≡ none → Accepted f × (6 * states f ≤ workRoom)
clear_common f workRoom e =
    let a : Accepted f = append_clear (rules f) (room_reason f workRoom) e in
    let left : some_if {A = ℕ} (small_table f workRoom) 12 none ≡ none = sym (clear_append (rules f) (room_reason f workRoom) a) ∙ e in (
      a,
      elim (lt_or_ge workRoom (6 * states f)) [
        | inl less ↦
            let broken : ◌≡◌ {A = Option ℕ} (some 12) none = sym (ap (λ (b : Bool). some_if b 12 none) (lt-ltb workRoom (6 * states f) less)) ∙ left in
            let z : ◌≡◌ {A = ℕ} 0 1 = cc in absurd (omega arith)
        | inr room ↦ room
      ],
    )

module _ (f : List ℕ) (t workRoom : ℕ) where
  -- a call that names neither 0 nor 1 is refused with 22, whatever else holds
  pub named_none : 1 < t → first_broken (named_rules f t workRoom) ≡ some 22
  named_none l = ap (λ (b : Bool). some_if b 22 (first_broken (common_rules f workRoom))) (lt-ltb 1 t l)

  -- a call that names 0 or 1 is left to 1 to 12
  pub named_one : t ≤ 1 → first_broken (named_rules f t workRoom) ≡ first_broken (common_rules f workRoom)
  named_one l = ap (λ (b : Bool). some_if b 22 (first_broken (common_rules f workRoom))) (le-ltb 1 t l)

  -- a call that none of 22 and 1 to 12 refuses names 0 or 1, and none of 1 to 12 holds
  pub clear_named : first_broken (named_rules f t workRoom) ≡ none → (t ≤ 1) × (first_broken (common_rules f workRoom) ≡ none)
  clear_named e =
      elim (lt_or_ge 1 t) [
        | inl less ↦
            let broken : ◌≡◌ {A = Option ℕ} (some 22) none = sym (named_none less) ∙ e in
            let z : ◌≡◌ {A = ℕ} 0 1 = cc in absurd (omega arith)
        | inr l ↦ (l, sym (named_one l) ∙ e)
      ]

-- the graph read by a valid header is the file's own, with the mark table that is named
pub named_graph : {f : List ℕ} {h : Header} {t : ℕ} → Valid f h → h.table ≡ t → graph_in f h ≡ graph_of f t
named_graph {f} v named = valid_graph v ∙ ap (graph_of f) named

-- the room that the header of an accepted file asks is the room that the file asks
pub valid_room : {f : List ℕ} {h : Header} → Valid f h → {n : ℕ} → 6 * h.states ≤ n → 6 * states f ≤ n
valid_room v room = omega (arith, (valid_sizes v).states_are)

-- an accepted file is refused with 12 if the working table has less room than its header asks
pub valid_small : {f : List ℕ} {h : Header} → Valid f h → (workRoom : ℕ) → workRoom < 6 * h.states → first_broken (common_rules f workRoom) ≡ some 12
valid_small {f} v workRoom less = common_small f workRoom v.accepted (omega (arith, (valid_sizes v).states_are))

-- it breaks none of 1 to 12 if the table has that room
pub valid_common : {f : List ℕ} {h : Header} → Valid f h → (workRoom : ℕ) → 6 * h.states ≤ workRoom → first_broken (common_rules f workRoom) ≡ none
valid_common {f} v workRoom room = common_clear f workRoom v.accepted (valid_room v room)

-- nor does 22 hold for the mark table that the header names
pub valid_clear : {f : List ℕ} {h : Header} → Valid f h → (workRoom : ℕ) → 6 * h.states ≤ workRoom
    → first_broken (named_rules f h.table workRoom) ≡ none
valid_clear {f} {h} v workRoom room = named_one f h.table workRoom v.table_limit ∙ valid_common v workRoom room

-- where the reasons before it do not refuse a call, a ceiling above 4,096 does with 21, whatever comes after it
pub ceiling_high : (rs : List Reason) (ceiling : ℕ) (rest : List Reason) → first_broken rs ≡ none → 4096 < ceiling
    → first_broken (rs ++ ceiling_reason ceiling ∷ rest) ≡ some 21
ceiling_high rs ceiling rest e high =
    clear_append rs (ceiling_reason ceiling ∷ rest) e
    ∙ ap (λ (b : Bool). some_if b 21 (first_broken rest)) (lt-ltb 4096 ceiling high)

-- with a ceiling up to 4,096 the reasons after it decide
pub ceiling_low : (rs : List Reason) (ceiling : ℕ) (rest : List Reason) → first_broken rs ≡ none → ceiling ≤ 4096
    → first_broken (rs ++ ceiling_reason ceiling ∷ rest) ≡ first_broken rest
ceiling_low rs ceiling rest e low =
    clear_append rs (ceiling_reason ceiling ∷ rest) e
    ∙ ap (λ (b : Bool). some_if b 21 (first_broken rest)) (le-ltb 4096 ceiling low)

-- what the gate answers is so: with a refusal its number is that of the first reason that holds, with a header the call
-- may go on
pub gate_says : (f : List ℕ) (t workRoom : ℕ) (r : Checked) → r ≡ gate_of f t workRoom → GateSays f t workRoom r
gate_says f t workRoom r e = go (first_broken (named_rules f t workRoom)) refl r e
  where
    go : (o : Option ℕ) → first_broken (named_rules f t workRoom) ≡ o → (r : Checked) → r ≡ answer_of o (header_of f t) → GateSays f t workRoom r
    go none q (Refused n) e = let z : ◌≡◌ {A = ℕ} 0 1 = cc in absurd (omega arith)
    go none q (Accept h) e =
        let (one, clear) = clear_named f t workRoom q in
        let (accepted, room) = clear_common f workRoom clear in
        let own : h ≡ header_of f t = cc in
        let v : Valid f h = own_valid accepted one own in
        record {
          valid = v;
          named = ap (λ (x : Header). x.table) own;
          room = omega (arith, room, (valid_sizes v).states_are);
          clear = q;
        }
    go (some m) q (Refused n) e = let same : m ≡ n = cc in q ∙ ap some same
    go (some m) q (Accept h) e = let z : ◌≡◌ {A = ℕ} 0 1 = cc in absurd (omega arith)

-- the gate has refused: a reason of 22 and 1 to 12 holds
pub gate_refused : (f : List ℕ) (t workRoom : ℕ) {r : Checked} {n : ℕ} → r ≡ gate_of f t workRoom → r ≡ Refused n
    → first_broken (named_rules f t workRoom) ≡ some n
gate_refused f t workRoom e q = gate_says f t workRoom (Refused _) (sym q ∙ e)

-- the gate has let the call pass
pub gate_passed : (f : List ℕ) (t workRoom : ℕ) {r : Checked} {h : Header} → r ≡ gate_of f t workRoom → r ≡ Accept h → GatePassed f t workRoom h
gate_passed f t workRoom e q = gate_says f t workRoom (Accept _) (sym q ∙ e)

-- the number of a reason of 1 to 12 is one of them
common_number : (f : List ℕ) (workRoom n : ℕ) → first_broken (common_rules f workRoom) ≡ some n → n ≤ 12
common_number f workRoom n e = broken_number (λ m. m ≤ 12) (common_rules f workRoom) (omega arith) n e

-- the gate leaves a working table that it cleared all zero, after 22
pub entered_zero : (t : ℕ) {w w₁ : List ℕ} → 1 < t → Zeroed w w₁ → w₁ ≡ work_entered t w
entered_zero t {w} more left = left.all_zero ∙ sym (ap (λ (b : Bool). pick b (zeros w) w) (lt-ltb 1 t more))

-- it leaves one that it did not touch as it was, if 22 does not hold
pub entered_same : (t : ℕ) (w : List ℕ) → t ≤ 1 → w ≡ work_entered t w
entered_same t w one = sym (ap (λ (b : Bool). pick b (zeros w) w) (le-ltb 1 t one))

-- after the gate the working table has as many entries as before
pub entered_length : (t : ℕ) (w : List ℕ) {w₁ : List ℕ} → w₁ ≡ work_entered t w → length w₁ ≡ length w
entered_length t w e = ap length e ∙ go (no_table t)
  where
    go : (b : Bool) → length (pick b (zeros w) w) ≡ length w
    go true = length-replicate (length w) 0
    go false = refl

module _ (f : List ℕ) (t : ℕ) (w : List ℕ) where
  -- a call that the gate refuses leaves the working table as the gate did
  pub work_refused : {w₁ : List ℕ} (n : ℕ) → first_broken (named_rules f t (length w)) ≡ some n → w₁ ≡ work_entered t w → w₁ ≡ work_of f t w
  work_refused n e same =
      elim (lt_or_ge 1 t) [
        | inl more ↦
            same ∙ ap (λ (b : Bool). pick b (zeros w) w) (lt-ltb 1 t more)
            ∙ sym (ap (λ (o : Option ℕ). work_after o w) (named_none f t (length w) more))
        | inr one ↦
            same ∙ sym (entered_same t w one)
            ∙ sym (ap (λ (o : Option ℕ). work_after o w) e
            ∙ ap (λ (b : Bool). pick b w (zeros w)) (le-leb n 12 (common_number f (length w) n (sym (named_one f t (length w) one) ∙ e))))
      ]

  -- a call that the gate does not refuse leaves it all zero, at the length it had
  pub work_left_lem : {w₁ w' : List ℕ} → first_broken (named_rules f t (length w)) ≡ none → length w₁ ≡ length w → Zeroed w₁ w' → w' ≡ work_of f t w
  work_left_lem e same left =
      left.all_zero ∙ ap (λ (n : ℕ). replicate n 0) same ∙ sym (ap (λ (o : Option ℕ). work_after o w) e)
