-- `uniting::unite` meets its contract: the heads of the row from `at` on are still to be united. Assumes nothing.
use Rattle.uniting.proofs.Uniting.{Uniting}
use Rattle.uniting.proofs.unite.Given as goal

abbrev pub invariant-loop-at : goal.invariant-loop-at
invariant-loop-at l = Uniting l.initial.work l.work l.fn.b l.j l.at l.to
