-- `search::search` meets its contract: it is a search with the mark 1 on an empty queue. Assumes nothing.
use Rattle.search.proofs.Course.{spreadable_one, searched}
use Rattle.search.proofs.search.Goals as goal

pub spread-requires : goal.spread-requires
spread-requires c = spreadable_one c.requires

pub returns : goal.returns
returns c = searched c.requires c.spread.ensures
