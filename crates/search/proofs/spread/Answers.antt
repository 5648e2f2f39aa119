-- `search::spread` meets its contract: a start with a mark changes nothing, and another gets its mark, is put on the
-- queue, and the queue is gone through. Assumes nothing.
use mathlib.Core.Path.{refl}
use Rattle.search.proofs.Course.{begun, spread_ended, spread_same}
use Rattle.search.proofs.spread.Goals as goal

pub returns-then-work-marks-ne0 : goal.returns-then-work-marks-ne0
returns-then-work-marks-ne0 c = spread_same c.requires c.if-work-marks-ne0.true

-- the start, which has no mark where the function goes on, gets one and stands on the queue
pub drain-requires : goal.drain-requires
drain-requires c =
    let a = c.args in
    record { began = a.work.now; from = a.from; course = begun c.requires c.if-work-marks-ne0.false refl }

pub returns : goal.returns
returns c =
    let a = c.args in
    let D = c.drain.ensures in
    spread_ended (D.goes_on a.work.now a.from (begun c.requires c.if-work-marks-ne0.false refl)) D.grown
