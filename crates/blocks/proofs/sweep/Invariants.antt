-- `blocks::sweep` meets its contract: all places but the first j have had their turns. Assumes nothing.
use Rattle.blocks.proofs.Turns.{TurningPlaces}
use Rattle.blocks.proofs.sweep.Given as goal

abbrev pub invariant-loop-j : goal.invariant-loop-j
invariant-loop-j l =
    TurningPlaces l.initial.work l.work l.b l.end l.initial.sink l.sink l.j
