-- `collect` meets its contract. The loop's invariant: the places from k on of the order are taken. Assumes nothing.
use Rattle.workmap.specs.declared.RowsAt.{RowsAt}
use Rattle.roots.specs.Roots.{Collectable, Collecting}
use Rattle.roots.proofs.collect.Given as goal

-- what every turn of the loop keeps
abbrev pub invariant-loop-k : goal.invariant-loop-k
invariant-loop-k l =
    (R : RowsAt) → Collectable l.initial.work R l.turned l.order l.at
    → Collecting l.initial.work l.work R l.turned l.order l.at l.k l.tail
