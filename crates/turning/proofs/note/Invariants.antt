-- `turning::note` meets its contract: the heads of the row from `at` on are still to be taken. Assumes nothing.
use Rattle.turning.proofs.Noting.{Noting}
use Rattle.turning.proofs.note.Given as goal

abbrev pub invariant-loop-at : goal.invariant-loop-at
invariant-loop-at l =
    Noting l.initial.work l.work l.b l.j l.initial.sink l.sink l.at l.to
