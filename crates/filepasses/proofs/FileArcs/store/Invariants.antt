-- `store` meets its contract. The loop's invariant: `k` arcs are in the lists, and the rest is ahead at `at`.
-- Assumes nothing.
use Rattle.filepasses.proofs.Partway.{Partway}
use Rattle.filepasses.proofs.FileArcs.store.Given as goal

abbrev pub invariant-loop-k : goal.invariant-loop-k
invariant-loop-k l =
    Partway l.s l.zones l.arcs l.initial.at l.initial.tails l.initial.heads l.tails l.heads l.at l.k
