-- The first reason to refuse a combination that holds.
use Prim.Native.Nat.{ℕ, ◌≤◌, ◌<◌}
use mathlib.Core.Path.{◌≡◌, sym, ap, ◌∙◌}
use mathlib.Core.Bool.{Bool, true, false}
use mathlib.Core.List.{List}
use mathlib.Core.Option.{Option, some, none}
use native.Mathlib.Omega.{arith}
use borrow.Author.Tests.{lt-ltb, le-ltb}
use lib.ListN.{length, drop}
use lib.Dec.{ltb}
use Rattle.lists.specs.Lists.{some_if}
use Rattle.format.specs.Layout.{states, total_of}
use Rattle.format.specs.Rules.{first_broken, rules, Accepted}
use Rattle.format.proofs.Reasons.{clear_append, broken_append}
use Rattle.writer.specs.File.{edge_total}
use Rattle.writer.proofs.FileLaws.{file_length_is}
use Rattle.property.specs.Property.{bad_property}
use Rattle.combine_graph.specs.Combined.{combined}
use Rattle.combine_letters.specs.Letters.{bad_letters}
use Rattle.combine_outcome.specs.Combination.{too_large, combined_file, combine_reasons, combine_broken}

-- the first of the reasons after the rule's own
abbrev pub first_behind : (letters property large short : Bool) → Option ℕ
first_behind letters property large short = some_if letters 16 (some_if property 17 (some_if large 18 (some_if short 15 none)))

-- a graph of more than 4,096 states is too large
pub large_states : (f letters p : List ℕ) (n : ℕ) → (combined f letters p).size ≡ n → 4096 < n → too_large (combined f letters p) ≡ true
large_states f letters p n e more = rw (lt-ltb 4096 (combined f letters p).size (omega (arith, e)))

-- a graph of more than 8,192 edges is too large
pub large_edges : (f letters p : List ℕ) (n m : ℕ) → (combined f letters p).size ≡ n → n ≤ 4096 → m ≡ edge_total (combined f letters p)
    → 8192 < m → too_large (combined f letters p) ≡ true
large_edges f letters p n m e few em more =
    rw (le-ltb 4096 (combined f letters p).size (omega (arith, e)), lt-ltb 8192 (edge_total (combined f letters p)) (omega (arith, em)))

-- a graph within both limits is not too large
pub within_both : (f letters p : List ℕ) (n m : ℕ) → (combined f letters p).size ≡ n → n ≤ 4096 → m ≡ edge_total (combined f letters p)
    → m ≤ 8192 → too_large (combined f letters p) ≡ false
within_both f letters p n m e few em fewer =
    rw (le-ltb 4096 (combined f letters p).size (omega (arith, e)), le-ltb 8192 (edge_total (combined f letters p)) (omega (arith, em)))

-- the length of the file that is to be written
pub combined-length : (f letters p : List ℕ) (n m : ℕ) → (combined f letters p).size ≡ n → m ≡ edge_total (combined f letters p)
    → length (combined_file f letters p) ≡ total_of n m
unfolding combined_file
combined-length f letters p n m e em =
    file_length_is (combined f letters p) ∙ ap (λ (i : ℕ). total_of i (edge_total (combined f letters p))) e ∙ ap (total_of n) (sym em)

module _ (f letters p : List ℕ) (room : ℕ) where
  -- one of the rule's own
  pub rule_decides : (n : ℕ) → first_broken (rules f) ≡ some n → combine_broken f letters p room ≡ some n
  rule_decides n e = broken_append (rules f) (drop 11 (combine_reasons f letters p room)) n e

  -- for an accepted rule the reasons after its own decide
  pub reasons_behind_decide : Accepted f → combine_broken f letters p room
      ≡ first_behind (bad_letters (states f) letters) (bad_property p) (too_large (combined f letters p)) (ltb room (length (combined_file f letters p)))
  reasons_behind_decide a = clear_append (rules f) (drop 11 (combine_reasons f letters p room)) a
