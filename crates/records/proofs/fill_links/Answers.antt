-- Storing a record is the step of `filled`, and the loop ends where the records do.
use Rattle.std.proofs.Common.{◌≡◌, refl, length}
use native.Mathlib.Numerals.{add-one}
use native.Mathlib.Omega.{arith}
use Rattle.columns.specs.Columns.{filled}
use Rattle.records.proofs.fill_links.Goals as goal

pub loop-i-init : goal.loop-i-init
unfolding filled
loop-i-init c = refl

pub loop-i-preserved : goal.loop-i-preserved
unfolding filled
loop-i-preserved c = rw add-one (cc)

pub returns : goal.returns
returns c =
    let end : c.loop-i.i ≡ length c.args.links.now = omega arith in
    rw end at c.loop-i.invariant
