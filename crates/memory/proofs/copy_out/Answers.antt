use mathlib.Core.Path.{◌≡◌, ap, ◌∙◌}
use lib.ListN.{length}
use lib.Seq.{length-sets}
use Rattle.memory.specs.Regions.{part}
use Rattle.memory.proofs.Regions.{part_long}
use Rattle.memory.proofs.Copies.{copy_front, sets_over}
use native.Mathlib.Omega.{arith}
use Rattle.memory.proofs.copy_out.Goals as goal

pub bounds-out-i : goal.bounds-out-i
bounds-out-i c =
    let a = c.args in
    let l = c.loop-i in
    omega (arith, ap length l.invariant ∙ length-sets a.out.now 0 (part a.work.now a.at l.i))

pub loop-i-preserved : goal.loop-i-preserved
loop-i-preserved c =
    let a = c.args in
    let l = c.loop-i in
    copy_front a.work.now a.out.now l.out a.at l.i (omega arith) l.invariant

pub returns : goal.returns
returns c =
    let a = c.args in
    let e : c.loop-i.i ≡ a.n = omega arith in
    let long : length (part a.work.now a.at a.n) ≡ a.n =
    part_long a.work.now a.at a.n (omega arith)
    in
    rw e at c.loop-i.invariant ∙ sets_over (part a.work.now a.at a.n) a.out.now (omega arith)
