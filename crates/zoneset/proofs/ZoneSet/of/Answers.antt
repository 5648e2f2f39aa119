use native.Mathlib.Omega.{arith}
use mathlib.Core.Path.{◌≡◌}
use lib.ListN.{get_or}
use lib.Seq.{get_or-take, get_or-drop}
use Rattle.theory.proofs.Ground.Indices.{at_in}
use Rattle.zoneset.proofs.SetLaws.{fill_none, fill_turn, fill_all}
use Rattle.zoneset.proofs.ZoneSet.of.Goals as goal

pub loop-zone-init : goal.loop-zone-init
loop-zone-init c = fill_none c.args.list.now

pub loop-zone-preserved : goal.loop-zone-preserved
loop-zone-preserved c =
    let xs = c.args.list.now in
    let k = c.loop-zone.zone-index in
    let low = c.requires (get_or xs k 0) (at_in xs k (omega arith)) in
    rw c.set_bit.ensures
    (fill_turn c.loop-zone.invariant (omega arith) low (grind (arith, c.from.ensures, get_or-take, get_or-drop)))

-- each number of the list has a word
pub set_bit-requires : goal.set_bit-requires
set_bit-requires c =
    let xs = c.args.list.now in
    let k = c.loop-zone.zone-index in
    let next : c.from.result ≡ get_or xs k 0 = grind (arith, c.from.ensures, get_or-take, get_or-drop) in
    omega (arith, next, c.requires (get_or xs k 0) (at_in xs k (omega arith)))

pub returns : goal.returns
returns c = fill_all c.loop-zone.invariant (omega arith) c.requires c.is_empty.result c.is_empty.ensures
