-- What a sheet leaves behind: the text and the two tables, by the room that the text has.
use Prim.Native.Nat.{ℕ, ◌≤◌, ◌<◌}
use mathlib.Core.Path.{◌≡◌, refl, sym, subst}
use mathlib.Core.Bool.{Bool}
use mathlib.Core.List.{List, []}
use mathlib.Core.Option.{some}
use native.Mathlib.Omega.{arith}
use borrow.Author.Tests.{lt-ltb, le-ltb}
use lib.ListN.{length}
use Rattle.lists.specs.Lists.{pick}
use Rattle.numbers.specs.Limits.{sheet_room}
use Rattle.format.specs.Rules.{first_broken}
use Rattle.gate.specs.Gate.{named_rules, work_entered, work_of}
use Rattle.gate.proofs.GateLaws.{work_refused}
use Rattle.search.proofs.SearchLaws.{search_refused}
use Rattle.text.specs.Figure.{figure}
use Rattle.text.specs.Writing.{Wrote}
use Rattle.text.proofs.WroteLaws.{wrote_none, wrote_as}
use Rattle.sheet_head.specs.Words.{refused_word}
use Rattle.sheet_text.specs.SheetText.{sheet_ask, sheet_text, sheet_answer}
use Rattle.sheet_text.proofs.SheetLaws.{sheet_answer_lem, sheet_refused}
use Rattle.sheet.specs.Sheet.{small_text}

-- what a sheet leaves behind, where the room for its text is too small or not: the text and the two tables
abbrev pub Leaves : Bool → (bytes t a s w v : List ℕ) → ℕ → (t' a' w' : List ℕ) → Type 0
Leaves short bytes t a s w v next t' a' w' =
    Wrote t 0 (pick short [] bytes) t' next × ((a' ≡ pick short a s) × (w' ≡ pick short w v))

module _ (f : List ℕ) (t a w : List ℕ) where
  -- what the contract says: the text of the sheet and the tables after it, by the room
  abbrev pub LeavesSheet : ℕ → (t' a' w' : List ℕ) → Type 0
  LeavesSheet =
      Leaves (small_text t) (sheet_text f (length a) (length w)) t a (sheet_answer f a (length w)) w (work_of f 0 w)

  -- too little room: nothing changes
  pub leaves_short : length t < sheet_room → LeavesSheet 0 t a w
  leaves_short less =
      subst (λ (b : Bool). Leaves b (sheet_text f (length a) (length w)) t a (sheet_answer f a (length w)) w (work_of f 0 w) 0 t a w)
      (sym (lt-ltb (length t) sheet_room less)) (wrote_none t 0 (omega arith), (refl, refl))

  -- room enough: the text is written to the front
  pub leaves_sheet : {t' a' w' : List ℕ} {next : ℕ} → sheet_room ≤ length t → Wrote t 0 (sheet_text f (length a) (length w)) t' next
      → a' ≡ sheet_answer f a (length w) → w' ≡ work_of f 0 w → LeavesSheet next t' a' w'
  leaves_sheet {t'} {a'} {w'} {next} room wrote p q =
      subst (λ (b : Bool). Leaves b (sheet_text f (length a) (length w)) t a (sheet_answer f a (length w)) w (work_of f 0 w) next t' a' w')
      (sym (le-ltb (length t) sheet_room room)) (wrote, (p, q))

  -- room enough, and the file is refused for a reason of 1 to 12: one line, and the tables are untouched
  pub leaves_refused : {t' w₁ : List ℕ} {n next : ℕ} → sheet_room ≤ length t → first_broken (named_rules f 0 (length w)) ≡ some n
      → w₁ ≡ work_entered 0 w → Wrote t 0 (figure refused_word n) t' next → LeavesSheet next t' a w₁
  leaves_refused {n = n} room broken entered wrote =
      let is = sheet_refused f (length a) (length w) (search_refused f sheet_ask (length a) (length w) n broken) in
      leaves_sheet room (wrote_as (sym is.text_is) wrote) (sym (sheet_answer_lem a is)) (work_refused f 0 w n broken entered)
