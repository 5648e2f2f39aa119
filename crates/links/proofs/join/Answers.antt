-- `links::join` meets its contract: its two copies and its fill put the three columns of the row. Assumes nothing.
use Rattle.links.proofs.Columns.{joined}
use Rattle.links.proofs.join.Goals as goal

pub returns : goal.returns
returns c = joined c.requires c.copy.ensures c.copy-2.ensures (rw c.from.ensures at c.fill.ensures)
