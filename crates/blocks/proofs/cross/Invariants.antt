-- `blocks::cross` meets its contract: the first blocks are done. The measure is what is left of the places.
-- Assumes nothing.
use Prim.Native.Nat.{◌-◌}
use Rattle.blocks.proofs.BlockLoops.{Blocking}
use Rattle.blocks.proofs.cross.Given as goal

abbrev pub invariant-loop-first : goal.invariant-loop-first
invariant-loop-first l =
    Blocking l.initial.work l.work l.at l.places l.initial.sink l.sink l.first

abbrev pub decreases-loop-first : goal.decreases-loop-first
decreases-loop-first l = l.places - l.first
