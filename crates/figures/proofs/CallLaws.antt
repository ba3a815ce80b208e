-- What a call does with a short table and with one that has room.
use Prim.Native.Nat.{ℕ, ◌≤◌}
use mathlib.Core.Path.{◌≡◌, sym, ◌∙◌, ap}
use mathlib.Core.Bool.{Bool, true, false}
use mathlib.Core.List.{List}
use borrow.Author.Tests.{ltb-false}
use lib.ListN.{length}
use Rattle.lists.specs.Lists.{pick}
use Rattle.figures.specs.Kinds.{Report, figures_in}
use Rattle.figures.specs.Short.{out_too_short, out_short}

-- an `out` that is not too short has room for 4 figures
pub out_room : (out : List ℕ) → out_short out ≡ false → 4 ≤ length out
out_room out e = ltb-false (length out) 4 e

module _ (short : Bool) where
  -- with a table that is too short the first
  pub is_short : {A : Type 0} (a b : A) → short ≡ true → a ≡ pick short a b
  is_short a b h = ap (λ (t : Bool). pick t a b) (sym h)

  -- with enough entries the second
  pub is_enough : {A : Type 0} (a b : A) {c : A} → short ≡ false → c ≡ b → c ≡ pick short a b
  is_enough a b h e = e ∙ ap (λ (t : Bool). pick t a b) (sym h)

  -- with too few entries two tables stay as they are
  pub tables_short : (a w a-due w-due : List ℕ) → short ≡ true → (a ≡ pick short a a-due) × (w ≡ pick short w w-due)
  tables_short a w a-due w-due h = (is_short a a-due h, is_short w w-due h)

  -- with enough entries both are as is due
  pub tables_enough : (a w : List ℕ) {a' w' : List ℕ} (a-due w-due : List ℕ) → short ≡ false → a' ≡ a-due → w' ≡ w-due
      → (a' ≡ pick short a a-due) × (w' ≡ pick short w w-due)
  tables_enough a w a-due w-due h p q = (is_enough a a-due h p, is_enough w w-due h q)

  -- a call with too few entries reports 100 and leaves the table
  pub reports_short : (out : List ℕ) (r : Report) → short ≡ true
      → (100 ≡ (pick short out_too_short r).kind) × (out ≡ figures_in out (pick short out_too_short r))
  reports_short out r h =
      let e = is_short out_too_short r h in (ap (λ (s : Report). s.kind) e, ap (figures_in out) e)

  -- a call with enough entries reports the answer due
  pub reports_enough : {A : Type 0} (report : A → Report) (out : List ℕ) {after : List ℕ} {kind : ℕ} (answer due : A) → short ≡ false
      → answer ≡ due → kind ≡ (report answer).kind → after ≡ figures_in out (report answer)
      → (kind ≡ (pick short out_too_short (report due)).kind) × (after ≡ figures_in out (pick short out_too_short (report due)))
  reports_enough report out answer due h a k o =
      let e = is_enough out_too_short (report due) h (ap report a) in
      (k ∙ ap (λ (s : Report). s.kind) e, o ∙ ap (figures_in out) e)
