-- `descend` meets its contract. The loop's invariant: the stack has a top, at hi, and the memory is that of a deep
-- search. The measure is hi, which falls with every zone that is put on the stack. Assumes nothing.
use Rattle.descent.specs.Memory.{Ready, Went}
use Rattle.descent.proofs.descend.Given as goal

-- what every turn of the loop keeps
abbrev pub invariant-loop-h : goal.invariant-loop-h
invariant-loop-h l = record {
  ready : Ready l.work l.rows l.at;
  went : Went l.initial.work l.work l.rows l.at l.lo l.hi;
}

-- what every turn of the loop makes smaller: the room that is left for the stack
abbrev pub decreases-loop-h : goal.decreases-loop-h
decreases-loop-h l = l.hi
