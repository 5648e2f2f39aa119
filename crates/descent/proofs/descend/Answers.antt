use native.Mathlib.Omega.{arith}
use Rattle.descent.proofs.Keeping.{ready_kept, spans}
use Rattle.descent.proofs.Down.{h_zone, room, turn_kept, turn_went}
use Rattle.descent.proofs.descend.Goals as goal

-- Every turn keeps the invariant.
pub loop-h-preserved : goal.loop-h-preserved
loop-h-preserved c =
    let v = c.loop-h.invariant in
    record {
      ready = ready_kept v.ready (turn_kept v.ready v.went c.in-Some.ensures (rw c.from.ensures));
      went = turn_went v.ready v.went c.in-Some.ensures (rw c.from.ensures);
    }

-- The head that was found has its mark inside the memory.
pub bounds-work-at : goal.bounds-work-at
bounds-work-at c =
    let v = c.loop-h.invariant in
    omega (arith, h_zone v.ready v.went c.in-Some.ensures, spans v.ready)

-- There is room for it on the stack, so the measure falls.
pub overflow_sub-hi : goal.overflow_sub-hi
overflow_sub-hi c = let v = c.loop-h.invariant in omega (arith, room v.ready v.went c.in-Some.ensures)

pub loop-h-smaller : goal.loop-h-smaller
loop-h-smaller c = let v = c.loop-h.invariant in omega (arith, room v.ready v.went c.in-Some.ensures)
