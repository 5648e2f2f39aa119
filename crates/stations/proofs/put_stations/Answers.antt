-- `stations::put_stations` meets its contract: its four copies put the four pieces of the stations one behind the
-- other. Assumes nothing.
use mathlib.Core.Path.{◌≡◌, sym, ◌∙◌}
use Rattle.stations.specs.Stations.{first_at}
use Rattle.stations.proofs.Pieces.{first_at_some, first_at_none, stationed}
use native.Mathlib.Omega.{arith}
use Rattle.stations.proofs.put_stations.Goals.{then-n-gt0, else-n-gt0}
use Rattle.stations.proofs.put_stations.Goals as goal

pub returns : goal.returns
returns c =
    let a = c.args in
    let at : c.if-n-gt0.found ≡ first_at a.n.pairs a.p.pairs.firsts a.p.lists.alone =
    elim c.if-n-gt0.branch [
      | then-n-gt0 w ↦ w.found-is ∙ sym (first_at_some a.n.pairs _ _ w.if-n-gt0.true)
      | else-n-gt0 w ↦ w.found-is ∙ sym (first_at_none a.n.pairs _ _ w.if-n-gt0.false)
    ]
    in
    stationed a.work.now a.n a.p c.requires c.copy.new.work c.copy-2.new.work
    c.copy-3.new.work c.copy-4.new.work
    c.min-last.result
    c.min-first.result
    c.if-n-gt0.found (omega (arith, c.min-last.ensures)) (omega (arith, c.min-first.ensures)) at
    c.copy.ensures c.copy-2.ensures c.copy-3.ensures c.copy-4.ensures
