-- `runtable::rows` is safe and ends: each row lies behind the last one. Assumes nothing.
use Rattle.std.proofs.Common.{length, ◌-◌}
use Rattle.runtable.proofs.rows.Given as goal

abbrev pub decreases-loop-from : goal.decreases-loop-from
decreases-loop-from g l = length l.text - l.from
