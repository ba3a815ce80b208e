-- The property file: a model file with one mark table that has, after its marks, one 16-bit mask per edge, and the property
-- that it holds.
use Rattle.std.specs.Prelude.{ℕ, ◌+◌, ◌*◌, ◌-◌, ◌≤◌, ◌<◌, ◌≡◌, Bool, ◌&&◌, ◌||◌, ◌⊎◌, List, [], ◌∷◌, length, get_or, eqb}
use Rattle.std.proofs.Math.Option.{none}
use Rattle.lists.specs.Lists.{anyb, cons_if, is_some, up_from, below}
use Rattle.lasso.specs.Graph.{Graph}
use Rattle.format.specs.Bytes.{word, bitb}
use Rattle.format.specs.Layout.{states, edge_count, total_of, row_entry, target, row_numbers}
use Rattle.format.specs.Rules.{Reason, first_broken, rules_with}
use Rattle.model.specs.Model.{row_graph}
use Rattle.model.specs.declared.Header.{Header}
use Rattle.model.specs.Values.{Checked}
use Rattle.model.specs.Values.{header_of, check_with}
use Rattle.combine_model.specs.Product.{Property}

-- the offset of the masks that N and M give: after the marks
abbrev pub masks_at : ℕ → ℕ → ℕ
masks_at n m = total_of n m

-- the total length of a property file that N and M give: it counts the masks
abbrev pub property_total : ℕ → ℕ → ℕ
property_total n m = masks_at n m + 2 * m

-- the mask of the edge at a place of the edge table
abbrev pub mask_at : List ℕ → ℕ → ℕ
mask_at p e = word p (masks_at (states p) (edge_count p) + 2 * e)

-- the masks of the edges of row q
abbrev pub row_masks : List ℕ → ℕ → List ℕ
row_masks p q = row_numbers p (masks_at (states p) (edge_count p)) q

-- the reasons 1 to 11 for a property file: it has one mark table, and 11 does not speak of its masks
abbrev pub property_rules : List ℕ → List Reason
property_rules p = rules_with (property_total (states p) (edge_count p)) 1 p

-- the answer of the check by these reasons
abbrev pub property_check_of : List ℕ → Checked
property_check_of p = check_with (property_total (states p) (edge_count p)) 1 p

-- some edge has a zero mask
abbrev pub zero_mask : List ℕ → Bool
zero_mask p = anyb (λ e. eqb (mask_at p e) 0) (below (edge_count p))

-- 17. the property file breaks one of 1 to 11 or has a zero mask
abbrev pub bad_property : List ℕ → Bool
bad_property p = is_some (first_broken (property_rules p)) || zero_mask p

-- the states, edges and marks of a property file: its edges are those of its rows, and no others, its marks those of mark
-- table 0
abbrev pub property_graph : List ℕ → Graph
property_graph p = row_graph p (header_of p 0)

-- q has an edge to q' whose mask holds the letter: bit l of the mask is letter l
abbrev pub holds_letter : List ℕ → (q q' letter : ℕ) → Bool
holds_letter p q q' letter =
    anyb (λ e. eqb (target p e) q' && bitb (mask_at p e) letter) (up_from (row_entry p q) (row_entry p (q + 1) - row_entry p q))

-- the property that a file holds
abbrev pub property_of : List ℕ → Property
property_of p = record { graph = property_graph p; holds = holds_letter p }

-- of a row's targets those whose mask, at the same place, holds the letter
abbrev pub chosen : (letter : ℕ) (masks targets : List ℕ) → List ℕ
chosen letter [] ts = []
chosen letter (m ∷ ms) [] = []
chosen letter (m ∷ ms) (t ∷ ts) = cons_if (bitb m letter) t (chosen letter ms ts)

-- what the leaves ask of a property file and a header: it breaks none of 1 to 11, and the header is its own, with mark table 0
pub record ValidProperty (p : List ℕ) (h : Header) : Type 0 where
  pub kept : first_broken (property_rules p) ≡ none
  pub header : h ≡ header_of p 0

-- two files of one length whose bytes differ at 6–7 alone
pub record SameButStays (p p' : List ℕ) : Type 0 where
  pub same_length : length p ≡ length p'
  pub same_bytes : (i : ℕ) → (i < 6) ⊎ (8 ≤ i) → get_or p i 0 ≡ get_or p' i 0
