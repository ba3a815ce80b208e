-- The combination of a rule file with a property file: its reasons to refuse, its answer, and the output afterwards.
use Rattle.std.specs.Prelude.{ℕ, Bool, ◌||◌, List, [], ◌∷◌, ◌++◌, length, ltb}
use Rattle.std.proofs.Math.Option.{Option, some}
use Rattle.numbers.specs.Reasons as reason
use Rattle.lasso.specs.Graph.{Graph}
use Rattle.numbers.specs.Limits.{most_states, most_edges}
use Rattle.format.specs.Layout.{states}
use Rattle.format.specs.Rules.{Reason, first_broken, rules}
use Rattle.writer.specs.File.{edge_total, file_of}
use Rattle.property.specs.Property.{bad_property}
use Rattle.combine_graph.specs.Combined.{combined}
use Rattle.combine_letters.specs.Letters.{bad_letters}
use Rattle.outcomes.specs.Outcome.{Outcome, outcome}
use Rattle.outcomes.specs.Tables.{unless_refused, written}

-- 18. the result would have more than 4,096 states or 8,192 edges
abbrev pub too_large : Graph → Bool
too_large g = ltb most_states g.size || ltb most_edges (edge_total g)

-- the file that a combination writes
unfoldable pub combined_file : (f letters p : List ℕ) → List ℕ
combined_file f letters p = file_of (combined f letters p)

-- the reasons to refuse a combination, in checking order: the rule's 1 to 11, 16, 17, 18, and 15 if the output, which has
-- room for so many bytes, has fewer than the result
abbrev pub combine_reasons : (f letters p : List ℕ) (room : ℕ) → List Reason
combine_reasons f letters p room =
    rules f ++
    record { number = reason.bad_letters; holds = bad_letters (states f) letters } ∷
    record { number = reason.bad_property; holds = bad_property p } ∷
    record { number = reason.too_large; holds = too_large (combined f letters p) } ∷
    record { number = reason.no_room; holds = ltb room (length (combined_file f letters p)) } ∷ []

-- the number of the first reason that holds, if one does
abbrev pub combine_broken : (f letters p : List ℕ) (room : ℕ) → Option ℕ
combine_broken f letters p room = first_broken (combine_reasons f letters p room)

-- the answer: refused with the first reason that holds, or the number of bytes written
abbrev pub combine_outcome : (f letters p : List ℕ) (room : ℕ) → Outcome ℕ
combine_outcome f letters p room = outcome (combine_broken f letters p room) (length (combined_file f letters p))

-- the output afterwards: untouched if the call is refused, else the file from byte 0 on; later bytes do not change
abbrev pub combine_output : (f letters p output : List ℕ) → List ℕ
combine_output f letters p output =
    written (unless_refused (combine_broken f letters p (length output)) (some (combined_file f letters p))) output
