use native.Mathlib.Omega.{arith}
use mathlib.Core.Path.{◌≡◌}
use Rattle.pairing.proofs.CourseLaws.{course_begun, course_done}
use Rattle.pairing.proofs.pair.Goals as goal

pub loop-k-init : goal.loop-k-init
loop-k-init c = course_begun c.args.work.now c.args.at c.args.s c.args.t c.requires

pub returns : goal.returns
returns c =
    let l = c.loop-k in
    let all : l.k ≡ c.args.s = omega (arith, l.invariant.turns) in
    course_done c.args.work.now l.work c.args.at c.args.s c.args.t l.p (rw all at l.invariant)
