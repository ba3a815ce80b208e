-- What it says that a file keeps the rules 1 to 5: its header has its numbers, within the limits.
use Prim.Native.Nat.{ℕ, ◌≤◌, ◌<◌}
use mathlib.Core.Path.{◌≡◌, sym, ap, ◌∙◌}
use mathlib.Core.List.{List}
use mathlib.Core.Option.{Option, some, none}
use lib.ListN.{length, drop}
use lib.Dec.{ltb, ltb→lt, nltb→le}
use Rattle.format.specs.Layout.{states, edge_count, start_of}
use Rattle.format.specs.Rules.{first_broken, head_rules, rules_with}
use Rattle.lists.proofs.Fails.{not_not}
use Rattle.format.proofs.Reasons.{KeptTo, none_clear, clear_append, broken_append}
use Rattle.format.proofs.Kept.{states_kept}
use Rattle.model.specs.declared.Header.{Header}
use Rattle.model.specs.Values.{Refused, Accept}
use Rattle.model.specs.Values.{header_of, answer_of, head_of, check_with}
use Rattle.model.proofs.Answers.{answer_refused, answer_accepted}

-- a file that keeps the rules 1 to 5, and its header
pub record HeadKept (f : List ℕ) (h : Header) : Type 0 where
  pub header : h ≡ header_of f 0
  pub clear : first_broken (head_rules f) ≡ none
  pub long_enough : 24 ≤ length f
  pub states_range : (1 ≤ states f) × (states f ≤ 4096)
  pub edges_range : edge_count f ≤ 8192
  pub start_below : start_of f < states f

-- a file whose first five rules are kept has such a header
pub head_kept : (f : List ℕ) (h : Header) → head_of f ≡ Accept h → HeadKept f h
head_kept f h e =
    let accepted = answer_accepted (first_broken (head_rules f)) (header_of f 0) h (sym e) in
    let from1 = none_clear (head_rules f) accepted.0 in
    let from3 = from1.1.1 in
    record {
      header = accepted.1;
      clear = accepted.0;
      long_enough = nltb→le (length f) 24 from1.0;
      states_range = states_kept f from1.1.0;
      edges_range = nltb→le 8192 (edge_count f) from3.0;
      start_below = ltb→lt (start_of f) (states f) (not_not (ltb (start_of f) (states f)) from3.1.0);
    }

-- the rules after the first five decide, for every kind of file
pub head_decides : {f : List ℕ} {h : Header} → HeadKept f h → (total tables : ℕ) → KeptTo 5 (rules_with total tables f)
head_decides {f} k total tables = clear_append (head_rules f) (drop 5 (rules_with total tables f)) k.clear

-- a file that the rules 1 to 5 refuse is refused with the same number, whatever its kind
pub head_refuses : (total tables : ℕ) (f : List ℕ) (n : ℕ) → head_of f ≡ Refused n → head_of f ≡ check_with total tables f
head_refuses total tables f n e =
    let broken : first_broken (head_rules f) ≡ some n = answer_refused (first_broken (head_rules f)) (header_of f 0) n (sym e) in
    let first : first_broken (rules_with total tables f) ≡ some n =
    broken_append (head_rules f) (drop 5 (rules_with total tables f)) n broken in
    e ∙ sym (ap (λ (o : Option ℕ). answer_of o (header_of f 0)) first)
