-- Of a property file bytes 6–7 are read by reason 5 alone.
use Prim.Native.Nat.{ℕ, ◌+◌, ◌*◌, ◌-◌, ◌/◌, ◌%◌, ◌≤◌, ◌<◌}
use mathlib.Core.Path.{◌≡◌}
use mathlib.Core.Bool.{◌&&◌, ◌||◌}
use mathlib.Core.Logic.{inl, inr}
use mathlib.Core.List.{List, map}
use native.Mathlib.Omega.{arith}
use lib.Dec.{eqb, ltb}
use Rattle.lists.specs.Lists.{anyb, is_some, up_from, below}
use Rattle.format.specs.Bytes.{word, long, bitb}
use Rattle.format.specs.Layout.{states, edge_count, start_of, rows_at, edges_at, mark_bytes, table_at, row_entry, target, row_targets, mark_bit}
use Rattle.format.specs.Rules.{first_broken, bad_stays, bad_spare}
use Rattle.format.proofs.ReadAlike.{ReadAlike, first_alike}
use Rattle.model.specs.Model.{list_if}
use Rattle.property.specs.Property.{masks_at, property_total, mask_at, property_rules, zero_mask, bad_property, property_of, SameButStays}

module _ {p p' : List ℕ} (same : SameButStays p p') where
  -- the numbers before byte 6 are the same
  same_early : (at : ℕ) → at + 1 < 6 → word p at ≡ word p' at
  same_early at l = λ i. same.same_bytes at (inl (omega arith)) i + 256 * same.same_bytes (at + 1) (inl (omega arith)) i

  -- so are those from byte 8 on
  same_word : (at : ℕ) → 8 ≤ at → word p at ≡ word p' at
  same_word at l = λ i. same.same_bytes at (inr l) i + 256 * same.same_bytes (at + 1) (inr (omega arith)) i

  -- also those of 32 bits
  same_long : (at : ℕ) → 8 ≤ at → long p at ≡ long p' at
  same_long at l = λ i. same_word at l i + 65536 * same_word (at + 2) (omega arith) i

  -- N is the same
  same_states : states p ≡ states p'
  same_states = same_early 0 (omega arith)

  -- M is the same
  same_edges : edge_count p ≡ edge_count p'
  same_edges = same_early 2 (omega arith)

  -- the initial state is the same
  same_start : start_of p ≡ start_of p'
  same_start = same_early 4 (omega arith)

  -- the row entries are the same
  same_entry : (s : ℕ) → row_entry p s ≡ row_entry p' s
  same_entry s = same_word (rows_at + 2 * s) (omega arith)

  -- the targets are the same
  same_target : (e : ℕ) → target p e ≡ target p' e
  same_target e = λ i. same_word (edges_at (same_states i) + 2 * e) (omega arith) i

  -- the rows' targets are the same
  same_row : (s : ℕ) → row_targets p s ≡ row_targets p' s
  same_row s = λ i. map (λ e. same_target e i) (up_from (same_entry s i) (same_entry (s + 1) i - same_entry s i))

  -- the marks are the same
  same_mark : (t s : ℕ) → mark_bit p t s ≡ mark_bit p' t s
  same_mark t s = λ i. bitb (same.same_bytes (table_at (same_states i) (same_edges i) t + s / 8) (inr (omega arith)) i) (s % 8)

  -- the masks are the same
  same_mask : (e : ℕ) → mask_at p e ≡ mask_at p' e
  same_mask e = λ i. same_word (masks_at (same_states i) (same_edges i) + 2 * e) (omega arith) i

  -- what the rules read is the same, but for bytes 6–7
  read_alike : ReadAlike p p'
  read_alike =
      record {
        same_length = same.same_length;
        same_states = same_states;
        same_edges = same_edges;
        same_start = same_start;
        same_offset = λ at a b. same_long at a;
        same_entry = λ s l. same_entry s;
        same_target = λ e l. same_target e;
      }

  -- both or neither break rule 11
  same_spare : bad_spare 1 p ≡ bad_spare 1 p'
  same_spare = λ i. anyb (λ t. anyb (λ s. same_mark t s i) (up_from (same_states i) (8 * mark_bytes (same_states i) - same_states i))) (below 1)

  -- if both or neither break rule 5, the first rule that each breaks is the same
  same_first : bad_stays p ≡ bad_stays p' → first_broken (property_rules p) ≡ first_broken (property_rules p')
  same_first five = first_alike read_alike property_total 1 five same_spare

  -- both or neither have a zero mask
  same_zero_mask : zero_mask p ≡ zero_mask p'
  same_zero_mask = λ i. anyb (λ e. eqb (same_mask e i) 0) (below (same_edges i))

  -- both hold the same property
  same_held : property_of p ≡ property_of p'
  same_held = λ i. record {
    graph = record {
      size = same_states i;
      start = same_start i;
      succs = λ s. list_if (ltb s (same_states i)) (same_row s i);
      marked = λ s. ltb s (same_states i) && same_mark 0 s i;
    };
    holds = λ q q' letter. anyb (λ e. eqb (same_target e i) q' && bitb (same_mask e i) letter)
        (up_from (same_entry q i) (same_entry (q + 1) i - same_entry q i));
  }

-- files that differ in bytes 6–7 alone, of which both or neither break rule 5, are refused alike and hold the same property
pub same_property : {p p' : List ℕ} → SameButStays p p' → bad_stays p ≡ bad_stays p'
    → (bad_property p ≡ bad_property p') × (property_of p ≡ property_of p')
same_property same five =
    ((λ i. is_some (same_first same five i) || same_zero_mask same i), same_held same)
