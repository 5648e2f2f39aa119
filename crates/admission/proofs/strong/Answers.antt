-- `strong` meets its contract: the tests of a network and then that of the work memory are one list of tests. Assumes
-- nothing.
use Rattle.rules.specs.Calls.{strong_trouble}
use Rattle.probes.proofs.Chains.{found_next, found_goes_on}
use Rattle.admission.proofs.strong.Goals as goal

pub returns : goal.returns
unfolding strong_trouble
returns c = (found_next c.in_ok-network.ensures.found_by (found_goes_on c.work.ensures)).first
