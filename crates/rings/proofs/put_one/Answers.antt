-- `rings::put_one` meets its contract: the arc goes to what is noted for the zone's name, if that is another zone, and
-- the zone is noted. Assumes nothing.
use native.Mathlib.Omega.{arith}
use Prim.Native.Nat.{◌<◌}
use Rattle.rings.proofs.Passing.{put_followed, put_alone, put_fits}
use Rattle.rings.proofs.put_one.Goals.{After-from, Else-from-z}
use Rattle.rings.proofs.put_one.Goals as goal

-- the name is a zone
named : (c : After-from) → c.from.result < c.args.at.zones
named c = omega (arith, c.from.ensures, c.requires.rings_lent.named c.args.z c.requires.z_lt_zones)

pub returns-then-from-z : goal.returns-then-from-z
returns-then-from-z c =
    let a = c.args in
    put_followed a.work.now a.at a.z c.from.result c.from.ensures
    (λ e. omega (arith, c.if-from-z.true, c.from-2.ensures, e)) c.put.ensures

pub returns-else-from-z : goal.returns-else-from-z
returns-else-from-z c =
    let a = c.args in
    put_alone a.work.now a.at a.z c.from.result c.from.ensures (omega (arith, c.from-2.ensures, c.if-from-z.false))
    a.sink.now

pub put-requires : goal.put-requires
put-requires c =
    let a = c.args in
    put_fits a.work.now a.at a.z c.from.result c.from.ensures
    (λ e. omega (arith, c.if-from-z.true, c.from-2.ensures, e)) c.requires.arcs_fit
