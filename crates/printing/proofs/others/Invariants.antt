-- `printing::others` is safe and ends. The loop's invariant: the count is at most the number of elements passed.
-- Assumes nothing.
use Rattle.std.proofs.Common.{◌≤◌}
use Rattle.printing.proofs.others.Given as goal

abbrev pub invariant-loop-y : goal.invariant-loop-y
invariant-loop-y l = l.n ≤ l.y-index
