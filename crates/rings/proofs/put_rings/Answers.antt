use native.Mathlib.Omega.{arith}
use Rattle.rings.proofs.Passing.{Passing, passing_start, passing_lent, passing_room, passing_turn}
use Rattle.rings.proofs.put_rings.Goals.{At-loop-z}
use Rattle.rings.proofs.put_rings.Goals as goal

-- what holds at the loop
passed : (l : At-loop-z) → let a = l.args in Passing a.work.now l.loop-z.work a.at a.sink.now l.loop-z.sink
    l.loop-z.z
passed l = l.loop-z.invariant l.args.work.now l.requires.rings_lent l.start_rings.ensures

pub loop-z-init : goal.loop-z-init
loop-z-init c =
    λ w L e.
    let a = c.args in
    rw e (passing_start a.sink.now L)

pub loop-z-preserved : goal.loop-z-preserved
loop-z-preserved c =
    λ w L e.
    passing_turn L (c.loop-z.invariant w L e) (omega arith) c.put_one.ensures

pub put_one-requires-clause-rings_lent : goal.put_one-requires-clause-rings_lent
put_one-requires-clause-rings_lent c =
    passing_lent c.requires.rings_lent
    (passed (goal.at.put_one-requires-clause-rings_lent c).At-loop-z)

pub put_one-requires-clause-arcs_fit : goal.put_one-requires-clause-arcs_fit
put_one-requires-clause-arcs_fit c =
    passing_room c.requires.rings_lent
    (passed (goal.at.put_one-requires-clause-arcs_fit c).At-loop-z) (omega arith) c.requires.arcs_fit
