-- `candidates::start_distances` meets its contract: the distances found in region 2 are copied to region 0.
use mathlib.Core.Path.{refl}
use Rattle.candidates.proofs.DistanceLaws.{start_distances_put}
use Rattle.candidates.proofs.start_distances.Goals as goal

pub returns : goal.returns
returns c = start_distances_put refl refl c.distances_from.ensures c.copy.ensures
