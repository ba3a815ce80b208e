-- The text of an input is that of its first 25,627 bytes.
use Prim.Native.Nat.{ℕ, ◌≤◌}
use mathlib.Core.Path.{◌≡◌, sym, ◌∙◌, ap}
use mathlib.Core.Logic.{inl, inr}
use mathlib.Core.List.{List, []}
use mathlib.Core.Option.{Option, some}
use native.Mathlib.Omega.{arith}
use lib.ListN.{length, take}
use lib.Seq.{take_all}
use Rattle.lists.proofs.Tests.{lt_or_ge}
use Rattle.format.specs.Rules.{rules, first_broken}
use Rattle.reading.specs.Reading.{FirstBytes}
use Rattle.input_sizes.proofs.CutLaws.{cut_refused}
use Rattle.sheet_text.specs.SheetText.{text_of}
use Rattle.desk.specs.Desk.{input_bytes, input_text}
use Rattle.desk.specs.Sizes.{FirstBytesDecide}
use Rattle.desk.proofs.SizeLaws.{only_the_file_refuses}

-- the text of a refused input
refused_text : (f : List ℕ) (n : ℕ) → first_broken (rules f) ≡ some n → input_text f ≡ text_of (some n) []
refused_text f n e = ap (λ (o : Option ℕ). text_of o f) (only_the_file_refuses f ∙ e)

-- the text of an input is that of its first k bytes, if those are more than the longest file has
first_decide : (k : ℕ) (f : List ℕ) → input_bytes ≤ k → input_text (take k f) ≡ input_text f
first_decide k f enough =
    elim (lt_or_ge (length f) k) [
      | inl less ↦ ap input_text (take_all k f (omega arith))
      | inr more ↦
          let (n, cut, whole) = cut_refused k f enough more in
          refused_text (take k f) n cut ∙ sym (refused_text f n whole)
    ]

-- the text of enough first bytes of an input is that of the input
pub cut_text : {k : ℕ} {input part : List ℕ} → FirstBytes k input part → input_bytes ≤ k → input_text part ≡ input_text input
cut_text {k} {input} {part} first enough = ap input_text first.are ∙ first_decide k input enough

-- the text of an input is that of its first 25,627 bytes
pub first_bytes_decide : FirstBytesDecide
first_bytes_decide f = first_decide input_bytes f (omega arith)
