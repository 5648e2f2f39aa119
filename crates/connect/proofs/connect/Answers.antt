-- `connect::connect` meets its contract: the pairing leaves the network's ordering, and the links of it are put.
-- Assumes nothing.
use Rattle.connect.proofs.Connecting.{pairable, pairs_low, linkable, connected}
use Rattle.connect.proofs.connect.Goals as goal

pub pair-pairs-requires : goal.pair-pairs-requires
pair-pairs-requires c = pairable c.requires.1

pub counts_of-n-requires : goal.counts_of-n-requires
counts_of-n-requires c = pairs_low c.requires.1 c.pair-pairs.ensures

pub put_links-need-requires : goal.put_links-need-requires
put_links-need-requires c = linkable c.requires.1 c.pair-pairs.ensures c.counts_of-n.ensures

pub returns : goal.returns
returns c = λ N C. connected C c.pair-pairs.ensures c.counts_of-n.ensures c.put_links-need.ensures
