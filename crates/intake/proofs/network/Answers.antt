-- `network` meets its contract: the tests before the arcs come first, and where they find nothing the withdrawn numbers
-- can be a set, with which the arcs' tests are those of the rules. Assumes nothing.
use native.Mathlib.Omega.{arith}
use Rattle.std.proofs.lemmas.Grind.{common_steps}
use Rattle.rules.specs.Calls.{arcs_of}
use Rattle.intake.proofs.Leading.{network_told, network_counts, first_below, arcs_told}
use Rattle.intake.proofs.network.Goals as goal

pub returns-in_err-first_tests : goal.returns-in_err-first_tests
returns-in_err-first_tests c =
    let n = c.args.net in
    let told = network_told n.zones n.tails.now n.heads.now n.gone.now in
    grind (arith, common_steps)

pub of-gone-requires : goal.of-gone-requires
of-gone-requires c =
    let n = c.args.net in
    first_below n.zones n.tails.now n.heads.now n.gone.now c.in_ok-first_tests.ensures.first

pub returns-in_err-arcs : goal.returns-in_err-arcs
returns-in_err-arcs c =
    let n = c.args.net in
    let told = network_told n.zones n.tails.now n.heads.now n.gone.now in
    let same = arcs_told n.zones (arcs_of n.tails.now n.heads.now) c.of-gone.result n.gone.now c.of-gone.ensures in
    grind (arith, common_steps)

pub returns : goal.returns
returns c =
    let n = c.args.net in
    let told = network_told n.zones n.tails.now n.heads.now n.gone.now in
    let same = arcs_told n.zones (arcs_of n.tails.now n.heads.now) c.of-gone.result n.gone.now c.of-gone.ensures in
    record {
      found_by = grind (arith, common_steps);
      set = c.of-gone.ensures;
      counts = network_counts n.zones n.tails.now n.heads.now n.gone.now (grind (arith, common_steps));
    }
