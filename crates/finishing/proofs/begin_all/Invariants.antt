-- `begin_all` meets its contract. The loop's invariant: the stack is empty, and every zone below r has a mark. Assumes
-- nothing.
use Prim.Native.Nat.{ℕ, ◌<◌}
use Rattle.arranged.specs.Marks.{Marked}
use Rattle.descent.specs.Memory.{Ready, State, OrderKept}
use Rattle.finishing.proofs.begin_all.Given as goal

-- what every turn of the loop keeps
abbrev pub invariant-loop-r : goal.invariant-loop-r
invariant-loop-r l = record {
  ready : Ready l.work l.rows l.at;
  kept : OrderKept l.initial.work l.work l.rows l.at;
  state : State l.work l.rows l.at l.lo l.rows.zones;
  marked : (v : ℕ) → v < l.r → Marked l.work l.at.seen v;
}
