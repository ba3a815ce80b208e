-- What a combination that is not refused has written; that the rule's own marks do not matter, nor the property's bytes 6–7
-- but to reason 5; and whose implied steps it has.
use Rattle.std.specs.Prelude.{ℕ, ◌≤◌, ◌<◌, ◌≡◌, false, List, [], ◌++◌, map, length, drop}
use Rattle.std.proofs.Math.Option.{none}
use Rattle.numbers.specs.Limits.{output_bytes}
use Rattle.format.specs.Layout.{states, edge_count, start_of, stays_word, total_of, row_targets}
use Rattle.format.specs.Rules.{bad_stays, Accepted}
use Rattle.model.specs.Model.{graph_of}
use Rattle.combine_model.specs.Product.{pair_number, agreeing}
use Rattle.combine_model.specs.Paths.{Combines}
use Rattle.property.specs.Property.{property_of, SameButStays}
use Rattle.combine_graph.specs.Combined.{letter_of, combined}
use Rattle.outcomes.specs.Outcome.{answered}
use Rattle.combine_outcome.specs.Combination.{combined_file, combine_broken, combine_outcome, combine_output}

-- What a combination that is not refused answers and has written.
pub record CombinationWritten (f letters p output : List ℕ) : Type 0 where
  -- the answer is the number of bytes of a file, which stands from byte 0 of the output on; later bytes do not change
  pub bytes_are : combine_outcome f letters p (length output) ≡ answered (length (combined_file f letters p))
  pub output_is : combine_output f letters p output ≡ combined_file f letters p ++ drop (length (combined_file f letters p)) output
  pub bytes_limit : length (combined_file f letters p) ≤ output_bytes
  -- the reader accepts the file, which has one mark table and whose bytes 6–7 are zero
  pub accepted : Accepted (combined_file f letters p)
  pub one_table : length (combined_file f letters p) ≡ total_of (states (combined_file f letters p)) (edge_count (combined_file f letters p))
  pub stays_word_zero : stays_word (combined_file f letters p) ≡ 0
  -- its graph by mark table 0 is the combined model, and mark table 1 holds no marks
  pub same_graph : graph_of (combined_file f letters p) 0 ≡ combined f letters p
  pub no_second_marks : (s : ℕ) → (graph_of (combined_file f letters p) 1).marked s ≡ false
  -- its states, edges and marks are as told, and its paths are exactly the pairs of paths that agree on letters
  pub combines : Combines (graph_of (combined_file f letters p) 0) (graph_of f 0) (letter_of letters) (property_of p)

-- So it is for every combination that is not refused.
abbrev pub CombinationHolds : Type 0
CombinationHolds = (f letters p output : List ℕ) → combine_broken f letters p (length output) ≡ none → CombinationWritten f letters p output

-- Two rules with the same states, initial state and edges; their marks may differ, and how many mark tables they have.
pub record SameButMarks (f f' : List ℕ) : Type 0 where
  pub same_states : states f ≡ states f'
  pub same_start : start_of f ≡ start_of f'
  pub same_edges : (s : ℕ) → (graph_of f 0).succs s ≡ (graph_of f' 0).succs s

-- The rule's own marks are not used: with two accepted rules that differ in their mark tables alone, one table or two, a
-- combination answers and writes the same.
abbrev pub RuleMarksUnused : Type 0
RuleMarksUnused = (f f' letters p output : List ℕ) → Accepted f → Accepted f' → SameButMarks f f'
    → (combine_outcome f letters p (length output) ≡ combine_outcome f' letters p (length output))
    × (combine_output f letters p output ≡ combine_output f' letters p output)

-- The property's bytes 6–7 are read by rule 5 alone: with two property files that differ in them alone, of which both or
-- neither break rule 5, a combination answers and writes the same.
abbrev pub PropertyStaysUnused : Type 0
PropertyStaysUnused = (f letters p p' output : List ℕ) → SameButStays p p' → bad_stays p ≡ bad_stays p'
    → (combine_outcome f letters p (length output) ≡ combine_outcome f letters p' (length output))
    × (combine_output f letters p output ≡ combine_output f letters p' output)

-- The steps that are implied in a combined model: those of the rule, never of the property.
pub record RuleStepsAlone (f letters p : List ℕ) : Type 0 where
  -- where the rule's bytes 6–7 are 1 and the row of s is empty, (s, q) leads to (s, q') for each edge of the property from q to
  -- q' whose mask holds the letter of s, and to no other state
  pub rule_stays : (s q : ℕ) → s < states f → q < states p → stays_word f ≡ 1 → row_targets f s ≡ []
      → (combined f letters p).succs (pair_number (property_of p) s q)
      ≡ map (pair_number (property_of p) s) (agreeing (property_of p) (letter_of letters s) q)
  -- where the row of q is empty, (s, q) has no edge, whatever the property's bytes 6–7 are
  pub property_ends : (s q : ℕ) → q < states p → row_targets p q ≡ []
      → (combined f letters p).succs (pair_number (property_of p) s q) ≡ []

-- So it is for all files and letters.
abbrev pub StepsOfRuleAlone : Type 0
StepsOfRuleAlone = (f letters p : List ℕ) → RuleStepsAlone f letters p
