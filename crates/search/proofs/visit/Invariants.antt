-- `search::visit` meets its contract: the row up to `a` is visited, and a turn visits the next unmarked zone too. The
-- measure is what is left of the row. Assumes nothing.
use Prim.Native.Nat.{◌≤◌, ◌-◌}
use Rattle.search.specs.Marking.{Visited}
use Rattle.search.proofs.visit.Given as goal

abbrev pub invariant-loop-i : goal.invariant-loop-i
invariant-loop-i l =
    (l.from ≤ l.a) × ((l.a ≤ l.to) × Visited l.initial.work l.work l.rows l.at l.x l.from l.a l.tail l.end)

abbrev pub decreases-loop-i : goal.decreases-loop-i
decreases-loop-i l = l.to - l.a
