-- `advance` meets its contract: what is read is the zone, its next place and its row's end, and the look along the row
-- tells the rest. Assumes nothing.
use native.Mathlib.Omega.{arith}
use mathlib.Core.Path.{refl}
use Rattle.descent.proofs.Keeping.{spans}
use Rattle.descent.proofs.Looking.{z_heads, z_full, z_advanced, a_le, b_fits}
use Rattle.descent.proofs.advance.Goals as goal

-- What is answered is as the contract says: the next place is behind the head that was found.
pub returns : goal.returns
returns c =
    let s = c.requires in
    z_advanced s.ready s.top_lt_zones c.from-z.ensures c.from.ensures c.from-2.ensures c.in_ok-i.i
    c.in_ok-i.ensures refl

-- What is answered is as the contract says: no head was found.
pub returns-in_err-i : goal.returns-in_err-i
returns-in_err-i c =
    let s = c.requires in
    rw c.from_residual.ensures (
      refl,
      z_full s.ready s.top_lt_zones c.from-z.ensures c.from.ensures c.from-2.ensures
          c.in_err-i.ensures,
    )

-- What `step` asks for is so: the row lies in the memory.
pub step-requires-clause-in_bounds : goal.step-requires-clause-in_bounds
step-requires-clause-in_bounds c =
    let s = c.requires in
    let le = a_le s.ready s.top_lt_zones c.from-z.ensures c.from.ensures c.from-2.ensures in
    let fits = b_fits s.ready s.top_lt_zones c.from-z.ensures c.from.ensures c.from-2.ensures in
    (omega (arith, le), (fits, (spans s.ready).0))

-- The heads of the row are zones.
pub step-requires-clause-entries_below : goal.step-requires-clause-entries_below
step-requires-clause-entries_below c =
    let s = c.requires in
    z_heads s.ready s.top_lt_zones c.from-z.ensures c.from.ensures c.from-2.ensures

-- The place that was found is inside the memory.
pub bounds-work-a : goal.bounds-work-a
bounds-work-a c =
    let s = c.requires in
    let fits = b_fits s.ready s.top_lt_zones c.from-z.ensures c.from.ensures c.from-2.ensures in
    omega (arith, fits, c.in_ok-i.ensures.0)
