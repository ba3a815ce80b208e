-- `to_next` meets its contract: a step of the listing is one to the next place of the roll, or there is none.
use Rattle.cursor.proofs.RollPlaces.{stands_mem}
use Rattle.cursor.proofs.CursorLaws.{moved_on}
use Rattle.cursor.proofs.to_next.Goals as goal

pub advance-requires : goal.advance-requires
advance-requires c =
    let at = c.requires.at in record {
      prepared = at.prepared;
      fact = stands_mem at.current;
    }

pub returns : goal.returns
returns c =
    let moved = c in record {
      moved = moved_on moved.advance.result moved.advance.ensures.replaced moved.advance.ensures.kept;
      kept = moved.advance.ensures.kept.same_length;
    }
