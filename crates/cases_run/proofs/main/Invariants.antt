-- `main` is safe and ends. The loop's invariant: each row passed added at most 2 to either number. Assumes nothing.
use Rattle.std.proofs.Common.{◌≤◌, ◌*◌}
use Rattle.cases_run.proofs.main.Given as goal

abbrev pub invariant-loop-i : goal.invariant-loop-i
invariant-loop-i l = (l.answers ≤ 2 * l.i) × (l.differ ≤ 2 * l.i)
