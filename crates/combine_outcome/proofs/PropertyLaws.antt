-- The property's bytes 6–7 do not matter to a combination but for reason 5.
use Prim.Native.Nat.{ℕ}
use mathlib.Core.Path.{◌≡◌, ap}
use mathlib.Core.List.{List, [], ◌∷◌, ◌++◌}
use mathlib.Core.Option.{some}
use lib.ListN.{length}
use lib.Dec.{ltb}
use Rattle.format.specs.Layout.{states}
use Rattle.format.specs.Rules.{first_broken, bad_stays, rules}
use Rattle.model.specs.Model.{graph_of}
use Rattle.outcomes.specs.Outcome.{outcome}
use Rattle.outcomes.specs.Tables.{unless_refused, written}
use Rattle.writer.specs.File.{file_of}
use Rattle.combine_model.specs.Product.{product}
use Rattle.property.specs.Property.{SameButStays}
use Rattle.property.proofs.StaysLaws.{same_property}
use Rattle.combine_graph.specs.Combined.{letter_of, combined}
use Rattle.combine_letters.specs.Letters.{bad_letters}
use Rattle.combine_outcome.specs.Combination.{too_large, combined_file, combine_reasons, combine_outcome, combine_output}
use Rattle.combine_outcome.specs.Claim.{PropertyStaysUnused}

module _ (f letters : List ℕ) {p p' : List ℕ} (same : SameButStays p p') (five : bad_stays p ≡ bad_stays p') where
  -- the combined model is the same
  same_model : combined f letters p ≡ combined f letters p'
  same_model = ap (product (graph_of f 0) (letter_of letters)) (same_property same five).1

  -- each reason holds with both or with neither
  same_reasons : (room : ℕ) → combine_reasons f letters p room ≡ combine_reasons f letters p' room
  unfolding combined_file
  same_reasons room = λ i.
      rules f ++
      record { number = 16; holds = bad_letters (states f) letters } ∷
      record { number = 17; holds = (same_property same five).0 i } ∷
      record { number = 18; holds = too_large (same_model i) } ∷
      record { number = 15; holds = ltb room (length (file_of (same_model i))) } ∷ []

  -- the answer is the same
  same_outcome : (room : ℕ) → combine_outcome f letters p room ≡ combine_outcome f letters p' room
  unfolding combined_file
  same_outcome room = λ i. outcome (first_broken (same_reasons room i)) (length (file_of (same_model i)))

  -- the output afterwards is the same
  same_output : (output : List ℕ) → combine_output f letters p output ≡ combine_output f letters p' output
  unfolding combined_file
  same_output output = λ i.
      written (unless_refused (first_broken (same_reasons (length output) i)) (some (file_of (same_model i)))) output

-- the property's bytes 6–7 are not used but for reason 5
pub property_stays_unused : PropertyStaysUnused
property_stays_unused f letters p p' output same five =
    (same_outcome f letters same five (length output), same_output f letters same five output)
