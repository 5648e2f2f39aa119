use native.Mathlib.Omega.{arith}
use Rattle.spots.proofs.SpotLaws.{note_turn}
use Rattle.spots.proofs.note_places.Goals as goal

pub loop-place-preserved : goal.loop-place-preserved
loop-place-preserved c =
    let a = c.args in
    rw c.from.ensures
    (note_turn a.work.now a.at a.places c.requires c.loop-place.work c.loop-place.place c.loop-place.invariant
    (omega arith))
