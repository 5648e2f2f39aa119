-- `first_tests` meets its contract: its tests one after the other are those of the rules. NONE is told by the list's
-- length, as the list passed LIST. Assumes nothing.
use Prim.Native.Nat.{zero}
use native.Mathlib.Omega.{arith}
use Rattle.std.proofs.lemmas.Grind.{common_steps}
use Rattle.theory.proofs.Files.Troubles.{first_trouble_append}
use Rattle.intake.proofs.Leading.{none_found}
use Rattle.intake.proofs.first_tests.Goals as goal

pub returns-in_err-list : goal.returns-in_err-list
returns-in_err-list c = grind (arith, common_steps, first_trouble_append)

pub returns : goal.returns
returns c =
    let net = c.args.net in
    let told = (none_found {x = zero} net.zones net.gone.now c.in_ok-list.ensures.first c.test-4.ensures).first in
    grind (arith, common_steps, first_trouble_append)
