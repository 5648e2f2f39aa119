-- `deepen` meets its contract. The loop's invariant: the memory is that of a deep search whose stack begins at hi. The
-- measure is what has not ended. Assumes nothing.
use Prim.Native.Nat.{◌-◌}
use Rattle.descent.specs.Memory.{Ready, State, OrderKept}
use Rattle.finishing.proofs.deepen.Given as goal

-- what every turn of the loop keeps
abbrev pub invariant-loop-hi : goal.invariant-loop-hi
invariant-loop-hi l = record {
  ready : Ready l.work l.rows l.at;
  kept : OrderKept l.initial.work l.work l.rows l.at;
  state : State l.work l.rows l.at l.lo l.hi;
}

-- what every turn of the loop makes smaller
abbrev pub decreases-loop-hi : goal.decreases-loop-hi
decreases-loop-hi l = l.rows.zones - l.lo
