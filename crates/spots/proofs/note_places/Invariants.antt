-- `spots::note_places` meets its contract: the first places are noted. Assumes nothing.
use Rattle.spots.specs.Spots.{PlacesNoted}
use Rattle.spots.proofs.note_places.Given as goal

abbrev pub invariant-loop-place : goal.invariant-loop-place
invariant-loop-place l = PlacesNoted l.initial.work l.work l.at l.place
