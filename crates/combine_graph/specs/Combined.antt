-- The combination of a rule file with a property file.
use Rattle.std.specs.Prelude.{ℕ, ◌+◌, ◌*◌, ◌%◌, ◌≤◌, ◌≡◌, Bool, ◌&&◌, List, length, get_or, ltb}
use Rattle.lasso.specs.Graph.{Graph}
use Rattle.numbers.specs.Limits.{most_states, highest_letter}
use Rattle.format.specs.Layout.{states}
use Rattle.model.specs.Model.{graph_of}
use Rattle.model.specs.declared.Header.{Header}
use Rattle.model.specs.Values.{Valid}
use Rattle.writer.specs.File.{worth}
use Rattle.combine_model.specs.Product.{product}
use Rattle.property.specs.Property.{property_graph, property_of, ValidProperty}

-- the letter of state s: the entry of the letter table at place s
abbrev pub letter_of : List ℕ → ℕ → ℕ
letter_of letters s = get_or letters s 0

-- the combined model of a rule file with its letter table and a property file; the rule is read by mark table 0, but its marks
-- are not used
abbrev pub combined : (f letters p : List ℕ) → Graph
combined f letters p = product (graph_of f 0) (letter_of letters) (property_of p)

-- what the writers ask: an accepted rule file with its header h, one letter up to 15 for each of its states, a property file
-- that breaks none of 1 to 11 with its header k, and no more pairs of states than a model has states
pub record Combinable (f letters p : List ℕ) (h k : Header) : Type 0 where
  pub rule_valid : Valid f h
  pub property_valid : ValidProperty p k
  pub letters_length : length letters ≡ h.states
  pub letters_range : (s : ℕ) → letter_of letters s ≤ highest_letter
  pub pairs_limit : h.states * k.states ≤ most_states

-- whether the combined state with number c is marked, where there are n: (s, q) is if q is
abbrev pub pair_mark : (p : List ℕ) (n c : ℕ) → Bool
pair_mark p n c = ltb c n && (property_graph p).marked (c % states p)

-- the mark byte at a place of the combination's marks
abbrev pub pair_mark_byte : (p : List ℕ) (n b : ℕ) → ℕ
pair_mark_byte p n b = worth (λ j. pair_mark p n (8 * b + j)) 8
