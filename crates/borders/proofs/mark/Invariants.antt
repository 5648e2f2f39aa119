-- `mark` meets its contract. The loop's invariant: the arcs that were gone through are noted. Assumes nothing.
use lib.ListN.{length}
use Rattle.rules.specs.Calls.{arcs_of}
use Rattle.borders.specs.Borders.{Marking}
use Rattle.borders.proofs.mark.Given as goal

-- what every turn of the loop keeps
abbrev pub invariant-loop-tail : goal.invariant-loop-tail
invariant-loop-tail l = Marking l.at (arcs_of l.tails l.heads) (length l.yielded) l.initial.work l.work
