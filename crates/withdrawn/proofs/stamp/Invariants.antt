-- `stamp` meets its contract. The loop's invariant: the withdrawn numbers before this one are stamped. Assumes nothing.
use lib.ListN.{take}
use Rattle.withdrawn.specs.Withdrawn.{Stamped}
use Rattle.withdrawn.proofs.stamp.Given as goal

abbrev pub invariant-loop-zone : goal.invariant-loop-zone
invariant-loop-zone l = Stamped l.initial.work l.work l.at l.n (take l.zone-index l.gone) l.mark
