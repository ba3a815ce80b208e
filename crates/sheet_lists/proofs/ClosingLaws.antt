-- The end of a sheet: which lists were printed, the closing line, and the answer table.
use Prim.Native.Nat.{ℕ, suc, ◌+◌, ◌≤◌, ◌<◌, min}
use mathlib.Core.Path.{◌≡◌, refl, sym, ◌∙◌, ap}
use mathlib.Core.Bool.{Bool, true, false}
use mathlib.Core.List.{List, [], ◌∷◌, ◌++◌}
use mathlib.Core.Option.{Option, some}
use native.Mathlib.Omega.{arith}
use borrow.Author.Tests.{lt-ltb, le-ltb}
use lib.ListN.{length, get_or, take, drop}
use lib.Seq.{take_all}
use Rattle.lists.specs.Lists.{collect}
use Rattle.numbers.specs.Limits.{most_lists}
use Rattle.outcomes.specs.Tables.{written}
use Rattle.text.specs.declared.Output.{Output}
use Rattle.text.specs.Writing.{Adds}
use Rattle.text.proofs.WroteLaws.{adds_then, adds_as}
use Rattle.lists.proofs.CollectLaws.{take_next}
use Rattle.sheet_line.specs.Line.{line}
use Rattle.sheet_lists.specs.RollText.{closing_line, closing, lists_text, last_of, last_printed}

-- n lists were printed: those that the sheet has, and the closing line says so
pub record Closed (rs : List (List ℕ)) (more : Bool) (n : ℕ) : Type 0 where
  pub printed : take n rs ≡ take most_lists rs
  pub closes : closing_line more n ≡ closing (length rs)

-- all lists were printed
pub closed_end : (rs : List (List ℕ)) (n : ℕ) → length rs ≡ n → n ≤ most_lists → Closed rs false n
closed_end rs n all few =
    let least : min (length rs) most_lists ≡ n = omega arith in
    record {
      printed = take_all n rs (omega arith) ∙ sym (take_all most_lists rs (omega arith));
      closes = sym (ap (λ (b : Bool). closing_line b (min (length rs) most_lists)) (le-ltb most_lists (length rs) (omega arith)) ∙ ap (λ (k : ℕ). closing_line false k) least);
    }

-- as many as the sheet has room for were printed, and there are more
pub closed_more : (rs : List (List ℕ)) (n : ℕ) → n ≡ most_lists → n < length rs → Closed rs true n
closed_more rs n all more =
    let least : min (length rs) most_lists ≡ n = omega arith in
    record {
      printed = ap (λ (k : ℕ). take k rs) all;
      closes = sym (ap (λ (b : Bool). closing_line b (min (length rs) most_lists)) (lt-ltb most_lists (length rs) (omega arith)) ∙ ap (λ (k : ℕ). closing_line true k) least);
    }

-- the lines of the lists printed, and then the closing line
pub adds_closed : {rs : List (List ℕ)} {more : Bool} {n : ℕ} {o o' o'' : Output} → Closed rs more n
    → Adds o (collect line (take n rs)) o' → Adds o' (closing_line more n) o'' → Adds o (lists_text rs) o''
adds_closed {rs} {more} {n} c w v =
    adds_as (ap (λ (ls : List (List ℕ)). collect line ls ++ closing_line more n) c.printed ∙ ap (λ (b : List ℕ). collect line (take most_lists rs) ++ b) c.closes)
    (adds_then w v)

-- the last of some lists with one after them
last_of_snoc : (rs : List (List ℕ)) (xs : List ℕ) → last_of (rs ++ xs ∷ []) ≡ some xs
last_of_snoc [] xs = refl
last_of_snoc (r ∷ []) xs = refl
last_of_snoc (r ∷ q ∷ rs) xs = last_of_snoc (q ∷ rs) xs

-- the answer table holds the last list printed
pub answer_closed : {rs : List (List ℕ)} {more : Bool} (a a' xs : List ℕ) (place l : ℕ) → Closed rs more (place + 1) → place < length rs
    → get_or rs place [] ≡ xs → length xs ≡ suc l → a' ≡ xs ++ drop (l + 1) a → a' ≡ written (last_printed rs) a
answer_closed {rs} a a' xs place l c less same long e =
    let q : l + 1 ≡ length xs = omega arith in
    let last : last_printed rs ≡ some xs =
    ap last_of (sym c.printed ∙ take_next rs place [] less) ∙ last_of_snoc (take place rs) (get_or rs place []) ∙ ap some same in
    e ∙ ap (λ (n : ℕ). xs ++ drop n a) q ∙ sym (ap (λ (o : Option (List ℕ)). written o a) last)
