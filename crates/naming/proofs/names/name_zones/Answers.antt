use native.Mathlib.Omega.{arith}
use mathlib.Core.Path.{◌≡◌}
use Rattle.naming.proofs.names.Laws.{named_more}
use Rattle.naming.proofs.names.name_zones.Goals as goal

-- Every turn keeps the invariant.
pub loop-v-preserved : goal.loop-v-preserved
loop-v-preserved c =
    named_more c.requires c.loop-v.invariant c.loop-v-test.true c.from-r.ensures c.note-x.ensures

-- What is answered is as the contract says.
pub returns : goal.returns
returns c =
    let e : c.loop-v.v ≡ c.args.zones = omega arith in
    rw e at c.loop-v.invariant
