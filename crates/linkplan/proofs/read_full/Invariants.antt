-- `linkplan::read_full` meets its contract: the list begins with what was read. The measure is what is left to read.
-- Assumes nothing.
use Rattle.std.proofs.Common.{length, take, ◌≤◌, ◌-◌}
use Rattle.std.specs.Io.KnownBytes.{Consumes}
use Rattle.linkplan.proofs.read_full.Given as goal

-- what was read lies at the front of the list, and is what the input lost
abbrev pub invariant-loop-got : goal.invariant-loop-got
invariant-loop-got g l =
    (l.got ≤ length l.into)
    × Consumes (g.R.Read.remaining l.initial.reader) (g.R.Read.remaining l.reader) (take l.got l.into)

-- what is left to read, which each read that is not the last makes less
abbrev pub decreases-loop-got : goal.decreases-loop-got
decreases-loop-got g l = length l.initial.into - l.got
