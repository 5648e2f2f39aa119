-- `list_names` meets its contract. The loop's invariant: the first i of the queue are gone through, and m of them are
-- listed. Assumes nothing.
use Rattle.naming.specs.Tops.{TopsListed}
use Rattle.naming.proofs.tops.list_names.Given as goal

-- what every turn of the loop keeps
abbrev pub invariant-loop-i : goal.invariant-loop-i
invariant-loop-i l = TopsListed l.initial.work l.work l.zones l.at l.i l.m
