use native.Mathlib.Omega.{arith}
use mathlib.Core.Path.{◌≡◌}
use Rattle.naming.proofs.tops.Laws.{name_inside, listed_skip, listed_more}
use Rattle.naming.proofs.tops.list_names.Goals as goal
use Rattle.naming.proofs.tops.list_names.Goals.{then-work-at, else-work-at}

-- The name is inside the memory.
pub bounds-work-at-in-loop-i : goal.bounds-work-at-in-loop-i
bounds-work-at-in-loop-i c = omega (arith, name_inside c.requires c.loop-i.invariant c.loop-i-test.true)

-- Every turn keeps the invariant.
pub loop-i-preserved : goal.loop-i-preserved
loop-i-preserved c =
    let l = c.loop-i in
    let inside = c.loop-i-test.true in
    elim c.if-work-at.branch [
      | then-work-at w ↦ rw (w.work-is, w.m-is)
          (listed_more c.requires l.invariant inside (rw c.from.ensures at w.if-work-at.true))
      | else-work-at w ↦ rw (w.work-is, w.m-is)
          (listed_skip c.requires l.invariant inside (rw c.from.ensures at w.if-work-at.false))
    ]

-- What is answered is as the contract says.
pub returns : goal.returns
returns c =
    let e : c.loop-i.i ≡ c.args.zones = omega arith in
    rw e at c.loop-i.invariant
