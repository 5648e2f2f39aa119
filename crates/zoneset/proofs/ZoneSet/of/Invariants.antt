-- `ZoneSet::of` meets its contract. The loop's invariant: each number is in the words or still to come, exactly where
-- it is in the list. Assumes nothing.
use Rattle.zoneset.proofs.SetLaws.{Filling}
use Rattle.zoneset.proofs.ZoneSet.of.Given as goal

abbrev pub invariant-loop-zone : goal.invariant-loop-zone
invariant-loop-zone l = Filling l.words l.list l.zone-index
