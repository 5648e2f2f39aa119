use Rattle.rings.proofs.Passing.{start_more}
use Rattle.rings.proofs.start_rings.Goals as goal

pub loop-a-preserved : goal.loop-a-preserved
loop-a-preserved c =
    let a = c.args in
    start_more a.work.now c.loop-a.work a.at.last c.loop-a.a c.loop-a.invariant
