-- `sides::side_of` meets its contract: each way its test decides which side it is. Assumes nothing.
use Rattle.sides.proofs.Runs.{given_runs, turned_runs}
use Rattle.sides.proofs.side_of.Goals as goal

pub returns-then-k : goal.returns-then-k
returns-then-k c = given_runs c.requires c.if-k.true

pub returns : goal.returns
returns c = turned_runs c.requires c.if-k.false
