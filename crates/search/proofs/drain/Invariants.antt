-- `search::drain` meets its contract: any search that has met one zone goes on, row by row of its queue. The measure
-- is what is left of the queue's room. Assumes nothing.
use mathlib.Core.List.{List}
use Prim.Native.Nat.{ℕ, ◌+◌, ◌<◌, ◌-◌}
use mathlib.Core.Path.{◌≡◌}
use lib.ListN.{length}
use Rattle.search.specs.Marking.{Spreading}
use Rattle.search.proofs.drain.Given as goal

abbrev pub invariant-loop-head : goal.invariant-loop-head
invariant-loop-head l =
    (l.top < l.tail)
    × ((length l.work ≡ length l.initial.work)
    × ((v : List ℕ) (from : ℕ) → Spreading v l.initial.work l.rows l.at from l.x l.top l.top (l.top + 1) →
    Spreading v l.work l.rows l.at from l.x l.top l.head l.tail))

abbrev pub decreases-loop-head : goal.decreases-loop-head
decreases-loop-head l = l.rows.zones - l.head
