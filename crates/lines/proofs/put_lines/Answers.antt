use native.Mathlib.Numerals.{add-one}
use native.Mathlib.Omega.{arith}
use lib.ListN.{length}
use Rattle.buffer.proofs.Puts.{appended_none, appended_then}
use Rattle.lines.specs.Lines.{lines_of}
use Rattle.lines.proofs.Links.{lines_room}
use Rattle.lines.proofs.put_lines.Goals as goal

pub loop-i-init : goal.loop-i-init
unfolding lines_of
loop-i-init c = appended_none _ (omega arith)

pub loop-i-preserved : goal.loop-i-preserved
unfolding lines_of
loop-i-preserved c =
    let line = rw (c.from-from.ensures, c.from-to.ensures, c.from.ensures) at c.put_link.ensures in
    rw (add-one c.loop-i.i) (appended_then c.loop-i.invariant line)

pub put_link-requires : goal.put_link-requires
put_link-requires c =
    let l = c.args.links in
    let room = lines_room l.from.now l.to.now l.why.now c.loop-i.i (length l.from.now) c.loop-i-test.true in
    rw (c.from-from.ensures, c.from-to.ensures, c.from.ensures) (omega arith)
