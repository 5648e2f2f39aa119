-- `skeleton::skeleton` meets its contract: a trouble is refused and changes nothing, and without one the skeleton is
-- put. Assumes nothing.
use mathlib.Core.Path.{◌≡◌, sym, ap, ◌∙◌}
use native.Mathlib.Omega.{arith}
use Rattle.std.proofs.Common.{Err}
use Rattle.std.proofs.lemmas.Grind.{common_steps}
use Rattle.probes.specs.Tested.{tested_trouble}
use Rattle.skeleton.proofs.Answering.{skeleton_sketchable, skeleton_refused, skeleton_done}
use Rattle.skeleton.proofs.skeleton.Goals as goal

pub returns : goal.returns
returns c =
    let n = c.args.net in
    let a = c.args in
    let s = c.sketch-count in
    skeleton_done n.zones n.tails.now n.heads.now n.gone.now a.from.now a.to.now a.work.now
    s.result s.new.from s.new.to s.new.work
    (sym c.skeleton.ensures ∙ ap tested_trouble c.in_ok-skeleton.was) s.ensures

pub returns-in_err-skeleton : goal.returns-in_err-skeleton
returns-in_err-skeleton c =
    let n = c.args.net in
    let a = c.args in
    let e : c.from_residual.result ≡ Err c.in_err-skeleton.field-0.0 = grind (arith, common_steps) in
    rw e
    (skeleton_refused n.zones n.tails.now n.heads.now n.gone.now a.from.now a.to.now a.work.now
    c.in_err-skeleton.field-0.0 (sym c.in_err-skeleton.ensures))

pub sketch-count-requires : goal.sketch-count-requires
sketch-count-requires c =
    let n = c.args.net in
    let a = c.args in
    (skeleton_sketchable n.zones n.tails.now n.heads.now n.gone.now a.from.now a.to.now a.work.now
    (sym c.skeleton.ensures ∙ ap tested_trouble c.in_ok-skeleton.was)).0
