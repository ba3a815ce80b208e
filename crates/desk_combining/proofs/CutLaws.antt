-- What is told of three inputs is told of their first bytes: a longer rule, letter table or property is refused, and its
-- first bytes are refused with the same number.
use Prim.Native.Nat.{ℕ, ◌≤◌}
use mathlib.Core.Path.{◌≡◌, refl, sym, ◌∙◌, ap}
use mathlib.Core.Bool.{Bool, true, false}
use mathlib.Core.Logic.{inl, inr}
use mathlib.Core.List.{List}
use mathlib.Core.Option.{Option, some, none}
use native.Mathlib.Omega.{arith}
use borrow.Author.Tests.{ne_eqb}
use lib.ListN.{length, take, replicate, length-replicate}
use lib.Seq.{length-take-le, take_all}
use Rattle.lists.proofs.Tests.{lt_or_ge}
use Rattle.numbers.specs.Limits.{file_bytes, letters_bytes, property_bytes, output_bytes}
use Rattle.format.specs.Layout.{states}
use Rattle.format.specs.Rules.{rules, first_broken, Accepted}
use Rattle.lists.proofs.Fails.{false_not}
use Rattle.model.proofs.Laws.{accepted_facts}
use Rattle.property.specs.Property.{bad_property}
use Rattle.property.proofs.PropertyLaws.{bad_kept, property_facts, property_length}
use Rattle.outcomes.specs.Outcome.{Outcome, refused}
use Rattle.reading.specs.Reading.{FirstBytes}
use Rattle.input_sizes.proofs.CutLaws.{cut_refused}
use Rattle.combine.specs.Combine.{bad_letters, combined_file, combine_outcome}
use Rattle.combine.proofs.ReasonLaws.{CombineIs, refused_rule, refused_16, refused_17}
use Rattle.desk_combining.specs.Combining.{combining, file_told, line_told, output_text, error_text}
use Rattle.desk_combining.specs.Sizes.{FirstBytesOfEachDecide}

-- the same is told of three inputs and of three others
abbrev SameTold : (f letters p f' letters' p' : List ℕ) → Type 0
SameTold f letters p f' letters' p' = (output_text f letters p ≡ output_text f' letters' p') × (error_text f letters p ≡ error_text f' letters' p')

-- an output of the program's size
abbrev pub output : List ℕ
output = replicate output_bytes 0

-- a refusal, with an output of that size
pub refused_told : (f letters p : List ℕ) (n : ℕ) → CombineIs f letters p output (refused n) output → combining f letters p ≡ refused n
refused_told f letters p n is =
    ap (λ (k : ℕ). combine_outcome f letters p k) (sym (length-replicate {A = ℕ} output_bytes 0)) ∙ sym is.0

-- two combinations that are refused with the same number
both_refused : (f letters p f' letters' p' : List ℕ) (n : ℕ) → combining f letters p ≡ refused n → combining f' letters' p' ≡ refused n
    → SameTold f letters p f' letters' p'
both_refused f letters p f' letters' p' n e e' = (
  ap (λ (o : Outcome ℕ). file_told o (combined_file f letters p)) e ∙ sym (ap (λ (o : Outcome ℕ). file_told o (combined_file f' letters' p')) e'),
  ap line_told e ∙ sym (ap line_told e'),
)

-- a rule
rule_cut : (k : ℕ) (f letters p : List ℕ) → file_bytes ≤ k → SameTold (take k f) letters p f letters p
rule_cut k f letters p enough =
    elim (lt_or_ge (length f) k) [
      | inl less ↦
          let all : take k f ≡ f = take_all k f (omega arith) in
          (ap (λ (x : List ℕ). output_text x letters p) all, ap (λ (x : List ℕ). error_text x letters p) all)
      | inr more ↦
          let (n, cut, whole) = cut_refused k f enough more in
          both_refused (take k f) letters p f letters p n
          (refused_told (take k f) letters p n (refused_rule (take k f) letters p output n cut))
          (refused_told f letters p n (refused_rule f letters p output n whole))
    ]

-- more letters than a rule has states
more_letters : (n : ℕ) (letters : List ℕ) → n ≤ 4096 → letters_bytes ≤ length letters → bad_letters n letters ≡ true
more_letters n letters few more = rw (ne_eqb (length letters) n (omega arith))

-- its letters
letters_cut : (k : ℕ) (f letters p : List ℕ) → letters_bytes ≤ k → SameTold f (take k letters) p f letters p
letters_cut k f letters p enough =
    elim (lt_or_ge (length letters) k) [
      | inl less ↦
          let all : take k letters ≡ letters = take_all k letters (omega arith) in
          (ap (λ (x : List ℕ). output_text f x p) all, ap (λ (x : List ℕ). error_text f x p) all)
      | inr more ↦ go (first_broken (rules f)) refl more
    ]
  where
    go : (o : Option ℕ) → first_broken (rules f) ≡ o → k ≤ length letters → SameTold f (take k letters) p f letters p
    go (some n) e more =
        both_refused f (take k letters) p f letters p n
        (refused_told f (take k letters) p n (refused_rule f (take k letters) p output n e))
        (refused_told f letters p n (refused_rule f letters p output n e))
    go none e more =
        let few = (accepted_facts f e).states_range.1 in
        both_refused f (take k letters) p f letters p 16
        (refused_told f (take k letters) p 16 (refused_16 f (take k letters) p output e
        (more_letters (states f) (take k letters) few (omega (arith, length-take-le k letters more)))))
        (refused_told f letters p 16 (refused_16 f letters p output e (more_letters (states f) letters few (omega arith))))

-- a file longer than every property
long_property : (p : List ℕ) → property_bytes ≤ length p → bad_property p ≡ true
long_property p more =
    elim (bad_property p) as (λ b. bad_property p ≡ b → b ≡ true) [
      | true ↦ λ q. refl
      | false ↦ λ q.
          let valid = bad_kept p (false_not (bad_property p) q) in
          absurd (omega (arith, property_length valid, (property_facts valid).states_range, (property_facts valid).edges_range))
    ] refl

-- a property
property_cut : (k : ℕ) (f letters p : List ℕ) → property_bytes ≤ k → SameTold f letters (take k p) f letters p
property_cut k f letters p enough =
    elim (lt_or_ge (length p) k) [
      | inl less ↦
          let all : take k p ≡ p = take_all k p (omega arith) in
          (ap (λ (x : List ℕ). output_text f letters x) all, ap (λ (x : List ℕ). error_text f letters x) all)
      | inr more ↦ go (first_broken (rules f)) refl more
    ]
  where
    behind : (b : Bool) → bad_letters (states f) letters ≡ b → Accepted f → k ≤ length p → SameTold f letters (take k p) f letters p
    behind true q e more =
        both_refused f letters (take k p) f letters p 16
        (refused_told f letters (take k p) 16 (refused_16 f letters (take k p) output e q))
        (refused_told f letters p 16 (refused_16 f letters p output e q))
    behind false q e more =
        both_refused f letters (take k p) f letters p 17
        (refused_told f letters (take k p) 17 (refused_17 f letters (take k p) output e q
        (long_property (take k p) (omega (arith, length-take-le k p more)))))
        (refused_told f letters p 17 (refused_17 f letters p output e q (long_property p (omega arith))))

    go : (o : Option ℕ) → first_broken (rules f) ≡ o → k ≤ length p → SameTold f letters (take k p) f letters p
    go (some n) e more =
        both_refused f letters (take k p) f letters p n
        (refused_told f letters (take k p) n (refused_rule f letters (take k p) output n e))
        (refused_told f letters p n (refused_rule f letters p output n e))
    go none e more = behind (bad_letters (states f) letters) refl e more

-- enough first bytes of each input decide
pub cut_told : {k l m : ℕ} {f letters p f' letters' p' : List ℕ} → FirstBytes k f f' → FirstBytes l letters letters' → FirstBytes m p p'
    → file_bytes ≤ k → letters_bytes ≤ l → property_bytes ≤ m → SameTold f' letters' p' f letters p
cut_told {k} {l} {m} {f} {letters} {p} {f'} {letters'} {p'} rule table property enough-rule enough-letters enough-property =
    let first = rule_cut k f letters' p' enough-rule in
    let second = letters_cut l f letters p' enough-letters in
    let third = property_cut m f letters p enough-property in (
      ap (λ (x : List ℕ). output_text x letters' p') rule.are
          ∙ first.0
          ∙ ap (λ (x : List ℕ). output_text f x p') table.are
          ∙ second.0
          ∙ ap (λ (x : List ℕ). output_text f letters x) property.are
          ∙ third.0,
      ap (λ (x : List ℕ). error_text x letters' p') rule.are
          ∙ first.1
          ∙ ap (λ (x : List ℕ). error_text f x p') table.are
          ∙ second.1
          ∙ ap (λ (x : List ℕ). error_text f letters x) property.are
          ∙ third.1,
    )

-- the first bytes, as many as the buffers have, decide
pub first_bytes_of_each_decide : FirstBytesOfEachDecide
first_bytes_of_each_decide f letters p =
    cut_told {k = file_bytes} {l = letters_bytes} {m = property_bytes} {f = f} {letters = letters} {p = p} (record { are = refl }) (record { are = refl }) (record { are = refl }) (omega arith) (omega arith) (omega arith)
