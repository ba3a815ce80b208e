-- `of_part` meets its contract: the successors are seen as the list that the part stands for.
use mathlib.Core.Path.{refl}
use Rattle.model.specs.Model.{steps_of}
use Rattle.model.proofs.Successors.of_part.Goals as goal

pub returns : goal.returns
unfolding steps_of
returns c = refl
